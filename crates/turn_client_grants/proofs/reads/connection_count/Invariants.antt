use Rattle.std.proofs.Common.{◌≡◌, ◌≤◌, ◌+◌, drop}
use Rattle.turn_client_grants.specs.Failures.{close_room_for}
use Rattle.turn_client_grants.proofs.reads.connection_count.Given as goal

abbrev pub invariant-loop-grant : goal.invariant-loop-grant
invariant-loop-grant l = record {
  counted : l.count + close_room_for (drop l.grant-index l.grants) ≡ close_room_for l.grants;
  within : l.count ≤ l.grant-index;
}
