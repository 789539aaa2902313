use Rattle.std.proofs.Common.{◌≡◌, ◌++◌, ◌∙◌, ap, sym}
use Rattle.std.specs.Prelude.{filter_map, fold, min, option_to_list}
use Rattle.turn_client_api.specs.Due.{final_times}
use Rattle.turn_client_api.specs.Grants.{as_allocation}
use Rattle.turn_client_grants.specs.Table.{Table}
use Rattle.turn_client_grants.proofs.ExpiryRoomLemmas.{both-allocations}
use Rattle.turn_client_grants.proofs.SummaryLemmas.{finals-both}
use Rattle.turn_client_grants.proofs.table.GrantTable.before_final.Goals as goal

pub returns : goal.returns
returns c =
    let grants = c.self.inside.grants.items in
    let relays : filter_map as_allocation grants ≡ option_to_list c.self.inside.summary.first ++ option_to_list c.self.inside.summary.second =
    rw (c.self.invariant.summed.first, c.self.invariant.summed.second) (both-allocations grants c.self.invariant.table.allocations) in
    rw (c.sooner_final.ensures, c.sooner_final-first.ensures)
    (finals-both c.args.now c.args.time c.self.inside.summary.first c.self.inside.summary.second
    ∙ (ap (λ all. fold min c.args.time (final_times c.args.now all)) (sym relays)
    ∙ ap (λ (t : Table). fold min c.args.time (final_times c.args.now (filter_map as_allocation t.grants))) c.self.view_is))
