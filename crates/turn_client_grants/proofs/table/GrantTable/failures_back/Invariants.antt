use Rattle.std.proofs.Common.{◌≡◌, ◌+◌, ◌++◌, drop, length}
use Rattle.std.specs.Prelude.{filter_map}
use Rattle.std.specs.VecDeque.{deque_len, deque_capacity}
use Rattle.turn_client_grants.specs.Failures.{failure_in}
use Rattle.turn_client_grants.proofs.table.GrantTable.failures_back.Given as goal

abbrev pub invariant-loop-grant : goal.invariant-loop-grant
invariant-loop-grant l = record {
  items : l.events.items ++ filter_map (failure_in l.transport l.which) (drop l.grant-index l.grants) ≡ l.initial.events.items ++ filter_map (failure_in l.transport l.which) l.grants;
  len : deque_len l.events + length (filter_map (failure_in l.transport l.which) (drop l.grant-index l.grants)) ≡ deque_len l.initial.events + length
      (filter_map (failure_in l.transport l.which) l.grants);
  capacity : deque_capacity l.events ≡ deque_capacity l.initial.events;
}
