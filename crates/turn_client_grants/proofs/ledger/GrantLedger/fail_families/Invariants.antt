use Rattle.std.proofs.Common.{◌≡◌, ◌+◌, ◌++◌, drop, length, map}
use Rattle.std.specs.VecDeque.{deque_capacity, deque_len}
use Rattle.turn_client_api.specs.declared.event.TurnEvent.TheVariants.{AllocationCreateFailed}
use Rattle.turn_client_grants.proofs.ledger.GrantLedger.fail_families.Given as goal

abbrev pub invariant-loop-family : goal.invariant-loop-family
invariant-loop-family l = record {
  items : l.self-inside.events.items ++ map AllocationCreateFailed (drop l.family-index l.families) ≡ l.initial.self-inside.events.items ++ map AllocationCreateFailed l.families;
  len : deque_len l.self-inside.events + length (drop l.family-index l.families) ≡ deque_len l.initial.self-inside.events + length l.families;
  table : l.self-inside.table ≡ l.initial.self-inside.table;
  transport : l.self-inside.transport ≡ l.initial.self-inside.transport;
  closes : l.self-inside.closes ≡ l.initial.self-inside.closes;
  capacity : deque_capacity l.self-inside.events ≡ deque_capacity l.initial.self-inside.events;
}
