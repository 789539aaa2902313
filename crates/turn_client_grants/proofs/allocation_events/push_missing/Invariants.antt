use Rattle.std.proofs.Common.{◌≡◌, ◌≤◌, ◌+◌, ◌++◌, drop, filter, length, map, not}
use Rattle.std.specs.List.{list_any}
use Rattle.std.specs.VecDeque.{deque_capacity, deque_len}
use Rattle.turn_client_api.specs.Grants.{is_of_family}
use Rattle.turn_client_api.specs.declared.event.TurnEvent.TheVariants.{AllocationCreateFailed}
use Rattle.turn_client_grants.proofs.allocation_events.push_missing.Given as goal

abbrev pub invariant-loop-family : goal.invariant-loop-family
invariant-loop-family l = record {
  items : l.events.items ++ map AllocationCreateFailed (filter (λ family. not (list_any (is_of_family family) l.addresses))
      (drop l.family-index l.families)) ≡ l.initial.events.items ++ map AllocationCreateFailed (filter (λ family. not (list_any (is_of_family family) l.addresses)) l.families);
  len : deque_len l.events + length (drop l.family-index l.families) ≤ deque_len l.initial.events + length l.families;
  capacity : deque_capacity l.events ≡ deque_capacity l.initial.events;
}
