use Rattle.std.proofs.Common.{◌≡◌, ◌∙◌, ◌++◌, ap, map, sym}
use Rattle.std.specs.Prelude.{option_to_list}
use Rattle.turn_client_api.specs.Grants.{allocations, family_of}
use Rattle.turn_client_api.specs.declared.grant.Purpose.TheVariants.{ForRefresh}
use Rattle.turn_client_api.specs.declared.grant.Relay.{Relay}
use Rattle.turn_client_grants.specs.Ledger.{with_ledger}
use Rattle.turn_client_grants.proofs.ChangeLemmas.{map-both}
use Rattle.turn_client_grants.proofs.ledger.GrantLedger.all_deleted.Goals as goal

pub returns : goal.returns
returns c = λ s.
    let first = c.nth_allocation-first.result in
    let second = c.nth_allocation-second.result in
    let read : option_to_list first ++ option_to_list second ≡ allocations (with_ledger c.args.self.now s) =
    rw (← c.self.view_is) (rw (c.nth_allocation-first.ensures.found, c.nth_allocation-second.ensures.found) (sym c.nth_allocation-first.ensures.both)) in
    rw (c.delete_purpose-first_purpose.ensures, c.delete_purpose-second_purpose.ensures)
    (map-both (λ (a : Relay). ForRefresh (family_of a.relayed) 0) first second ∙ ap (λ relays. map (λ (a : Relay). ForRefresh (family_of a.relayed) 0) relays) read)
