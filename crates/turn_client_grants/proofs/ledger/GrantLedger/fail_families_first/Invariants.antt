use Rattle.std.proofs.Common.{◌≡◌, ◌+◌, ◌++◌, drop, length, map, reverse}
use Rattle.std.specs.VecDeque.{deque_capacity, deque_len}
use Rattle.turn_client_api.specs.declared.event.TurnEvent.TheVariants.{AllocationCreateFailed}
use Rattle.turn_client_grants.proofs.ledger.GrantLedger.fail_families_first.Given as goal

abbrev pub invariant-loop-family : goal.invariant-loop-family
invariant-loop-family l = record {
  items : reverse (map AllocationCreateFailed (drop l.family-index l.families)) ++ l.events.items ≡ reverse (map AllocationCreateFailed l.families) ++ l.initial.events.items;
  len : deque_len l.events + length (drop l.family-index l.families) ≡ deque_len l.initial.events + length l.families;
  capacity : deque_capacity l.events ≡ deque_capacity l.initial.events;
}
