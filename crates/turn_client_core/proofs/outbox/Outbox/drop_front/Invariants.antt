use Rattle.turn_client_laws.proofs.Common.{◌≡◌, ◌-◌}
use Rattle.turn_client_core.specs.Outgoing.{with_room, without_front}
use Rattle.turn_client_core.proofs.outbox.Outbox.drop_front.Given as goal

abbrev pub invariant-loop-round : goal.invariant-loop-round
invariant-loop-round l = without_front (l.count - l._round) (with_room 0 l.self) ≡ without_front l.count (with_room 0 l.initial.self)
