use Rattle.std.proofs.Common.{◌≡◌, ◌+◌, ◌++◌, drop, length, map}
use Rattle.std.specs.VecDeque.{deque_capacity, deque_len}
use Rattle.turn_client_api.specs.declared.event.TurnEvent.TheVariants.{AllocationCreated}
use Rattle.turn_client_grants.proofs.allocation_events.push_created.Given as goal

abbrev pub invariant-loop-address : goal.invariant-loop-address
invariant-loop-address l = record {
  items : l.events.items ++ map (AllocationCreated l.transport) (drop l.address-index l.addresses) ≡ l.initial.events.items ++ map (AllocationCreated l.transport) l.addresses;
  len : deque_len l.events + length (drop l.address-index l.addresses) ≡ deque_len l.initial.events + length l.addresses;
  capacity : deque_capacity l.events ≡ deque_capacity l.initial.events;
}
