use Rattle.std.proofs.Common.{Option, ap, refl, sym}
use Rattle.turn_client_api.specs.Payloads.{Payload}
use Rattle.turn_client_api.specs.State.{State}
use Rattle.turn_client_proto.proofs.NoStreamLemmas.{no-poll_recv}
use Rattle.turn_client_proto.proofs.udp.TurnClientUdpProtocolCarrier.next_payload.Goals as goal

pub returns-clause-answer : goal.returns-clause-answer
returns-clause-answer c = sym (ap (λ (p : Option Payload × State). p.0) (no-poll_recv c.args._now c.args.self.now (c.requires.fit.no_streams refl)))

pub returns-clause-after : goal.returns-clause-after
returns-clause-after c = sym (ap (λ (p : Option Payload × State). p.1) (no-poll_recv c.args._now c.args.self.now (c.requires.fit.no_streams refl)))
