use Rattle.std.proofs.lemmas.List.Elements.{All-push}
use Rattle.turn_stun.specs.declared.transport.TransportType.TheVariants.{Udp}
use Rattle.turn_client_calls.specs.Run.{IsCallable}
use Rattle.turn_hostile.proofs.session.calls_of.Goals as goal

pub loop-line-preserved : goal.loop-line-preserved
loop-line-preserved c =
    rw c.in_ok-push.ensures.items (All-push (IsCallable Udp) _ _ c.loop-line.invariant c.in_ok-call.ensures)
