use Rattle.std.proofs.Common.{◌≡◌, ◌∙◌, ◌++◌, ap, fold, sym}
use Rattle.std.specs.Prelude.{option_to_list}
use Rattle.std.proofs.lemmas.List.Sums.{fold-append}
use Rattle.turn_client_api.specs.Grants.{allocations}
use Rattle.turn_client_api.specs.Poll.{expired_allocation}
use Rattle.turn_client_grants.specs.Ledger.{with_ledger}
use Rattle.turn_client_grants.specs.GrantFilter.{purposes_in}
use Rattle.turn_client_grants.proofs.ledger.GrantLedger.expire_each.Goals as goal

pub returns-clause-state : goal.returns-clause-state
returns-clause-state c = λ s timed.
    let purposes = purposes_in c.timed_out_purposes-purposes.result in
    let f = expired_allocation c.args.timed_out purposes c.args.now in
    let first = c.nth_allocation-first.result in
    let second = c.nth_allocation-second.result in
    let start = with_ledger c.args.self.now s in
    let read : option_to_list first ++ option_to_list second ≡ allocations start =
    rw (← c.self.view_is) (rw (c.nth_allocation-first.ensures.found, c.nth_allocation-second.ensures.found) (sym c.nth_allocation-first.ensures.both)) in
    c.expire_one-2.ensures.state s timed
    ∙ (ap (λ t. fold f t (option_to_list second)) (c.expire_one.ensures.state s timed)
    ∙ (sym (fold-append f start (option_to_list first) (option_to_list second))
    ∙ (ap (λ relays. fold f start relays) read
    ∙ ap (λ ps. fold (expired_allocation c.args.timed_out ps c.args.now) start (allocations start)) (c.timed_out_purposes-purposes.ensures s))))
