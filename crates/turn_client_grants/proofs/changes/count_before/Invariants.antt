use Rattle.std.proofs.Common.{◌≡◌, false, take}
use Rattle.std.specs.List.{list_any}
use Rattle.turn_client_grants.specs.GrantFilter.{holds}
use Rattle.turn_client_grants.proofs.changes.count_before.Given as goal

abbrev pub invariant-rows : goal.invariant-rows
invariant-rows l = list_any (holds l.which) (take l.place l.grants) ≡ false
