use Rattle.std.specs.Prelude.{All}
use Rattle.turn_client_calls.specs.Run.{IsCallable}
use Rattle.turn_hostile.proofs.session.calls_of.Given as goal
use Rattle.turn_stun.specs.declared.transport.TransportType.TheVariants.{Udp}

abbrev pub invariant-loop-line : goal.invariant-loop-line
invariant-loop-line l = All (IsCallable Udp) l.calls.items
