use Rattle.std.proofs.Common.{◌≡◌, ℕ, length}
use Rattle.turn_session_client.specs.Drain.{some_noted, unnoted}
use Rattle.turn_session_client.proofs.noted.NotedClient.drain.Given as goal

abbrev pub invariant-loop-event : goal.invariant-loop-event
invariant-loop-event g l = (n : ℕ) × (l.self ≡ some_noted n l.now l.fn.self)

abbrev pub decreases-loop-event : goal.decreases-loop-event
decreases-loop-event g l = length (unnoted l.self)
