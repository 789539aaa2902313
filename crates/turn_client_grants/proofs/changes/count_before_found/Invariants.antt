use Rattle.std.proofs.Common.{◌≡◌, ◌≤◌, drop, false, length}
use Rattle.std.specs.List.{list_any}
use Rattle.turn_client_grants.specs.Keys.{is_found_by}
use Rattle.turn_client_grants.proofs.changes.count_before_found.Given as goal

abbrev pub decreases-rows : goal.decreases-rows
decreases-rows l = l.place

abbrev pub invariant-rows : goal.invariant-rows
invariant-rows l = record {
  within : l.place ≤ length l.grants;
  none : list_any (is_found_by l.key) (drop l.place l.grants) ≡ false;
}
