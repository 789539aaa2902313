use Rattle.std.proofs.Common.{◌∙◌, ap, sym}
use Rattle.std.specs.Prelude.{◌&&◌}
use Rattle.std.specs.List.{list_any}
use Rattle.turn_client_grants.specs.Index.{scan}
use Rattle.turn_client_grants.specs.Keys.{is_found_by}
use Rattle.turn_client_grants.specs.Pending.{is_refreshed}
use Rattle.turn_client_grants.specs.Table.{Table}
use Rattle.turn_client_grants.proofs.KeptLemmas.{refreshed-none, refreshed-some}
use Rattle.turn_client_grants.proofs.table.GrantTable.is_refreshed_by.Goals as goal

pub returns-in-Some : goal.returns-in-Some
returns-in-Some c =
    c.is_refreshed.ensures
    ∙ (refreshed-some c.self.inside.grants.items (scan is_found_by c.self.inside.grants.items) c.args.key.now _ c.self.invariant.found (rw c.as_slice.ensures.value at (sym c.find.ensures ∙ c.in-Some.is))
    ∙ ap (λ (t : Table). list_any (λ g. is_refreshed g && is_found_by c.args.key.now g) t.grants) c.self.view_is)

pub returns-in-None : goal.returns-in-None
returns-in-None c =
    refreshed-none c.self.inside.grants.items (scan is_found_by c.self.inside.grants.items) c.args.key.now c.self.invariant.found (rw c.as_slice.ensures.value at (sym c.find.ensures ∙ c.in-None.is))
    ∙ ap (λ (t : Table). list_any (λ g. is_refreshed g && is_found_by c.args.key.now g) t.grants) c.self.view_is
