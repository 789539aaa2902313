use Rattle.std.proofs.Common.{Option, ap, refl, sym}
use Rattle.turn_client_api.specs.Payloads.{Payload}
use Rattle.turn_client_api.specs.State.{State}
use Rattle.turn_client_proto.proofs.NoStreamLemmas.{no-poll_recv, none-read}
use Rattle.turn_client_proto.proofs.udp.TurnClientUdp.poll_recv_with.Goals as goal

pub returns-clause-answer : goal.returns-clause-answer
returns-clause-answer g c = rw (← c.self.view_is) (none-read _ c.args._now c.self.inside.carrier (c.self.invariant.no_streams refl))

pub returns-clause-after : goal.returns-clause-after
returns-clause-after g c =
    rw (← c.self.view_is) (sym (ap (λ (p : Option Payload × State). p.1) (no-poll_recv c.args._now c.self.inside.carrier (c.self.invariant.no_streams refl))))
