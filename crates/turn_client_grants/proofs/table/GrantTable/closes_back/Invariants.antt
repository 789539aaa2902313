use Rattle.std.proofs.Common.{◌≡◌, ◌+◌, ◌++◌, drop, length}
use Rattle.std.specs.Prelude.{filter_map}
use Rattle.std.specs.VecDeque.{deque_len, deque_capacity}
use Rattle.turn_client_grants.specs.Failures.{close_in}
use Rattle.turn_client_grants.proofs.table.GrantTable.closes_back.Given as goal

abbrev pub invariant-loop-grant : goal.invariant-loop-grant
invariant-loop-grant l = record {
  items : l.closes.items ++ filter_map (close_in l.which) (drop l.grant-index l.grants) ≡ l.initial.closes.items ++ filter_map (close_in l.which) l.grants;
  len : deque_len l.closes + length (filter_map (close_in l.which) (drop l.grant-index l.grants)) ≡ deque_len l.initial.closes + length (filter_map (close_in l.which) l.grants);
  capacity : deque_capacity l.closes ≡ deque_capacity l.initial.closes;
}
