use Rattle.std.proofs.Common.{◌≡◌, ◌∙◌, subst, sym}
use Rattle.std.specs.Prelude.{None, filter_map, slice_get}
use Rattle.turn_client_api.specs.Calls.{progress_to, reserved_from}
use Rattle.turn_client_grants.specs.Table.{Table}
use Rattle.turn_client_grants.proofs.SummaryLemmas.{no-reservation}
use Rattle.turn_client_grants.proofs.table.GrantTable.reserved_until.Goals as goal

pub returns : goal.returns
returns c =
    subst (λ (t : Table). None ≡ slice_get (filter_map (reserved_from c.args.now) (filter_map (progress_to c.args.peer) t.grants)) 0) c.self.view_is
    (no-reservation c.self.inside.grants.items c.args.peer c.args.now (sym c.self.invariant.summed.reserved ∙ c.if-has_reserved.false))
