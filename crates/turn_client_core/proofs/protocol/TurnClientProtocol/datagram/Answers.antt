use Rattle.turn_client_laws.proofs.Common.{◌∙◌, ap, sym}
use Rattle.turn_client_core.proofs.incoming.UnreadLemmas.{frame-step}
use Rattle.turn_client_core.proofs.protocol.TurnClientProtocol.datagram.Goals as goal

pub returns-in-Err-clause-answer : goal.returns-in-Err-clause-answer
returns-in-Err-clause-answer c =
    c.frame_sent.ensures.outcome ∙ sym (ap (λ p. p.0) (frame-step c.args.bytes.now c.args.now c.args.self.now _ c.in-Err.ensures.fault))

pub returns-in-Err-clause-after : goal.returns-in-Err-clause-after
returns-in-Err-clause-after c = sym (ap (λ p. p.1) (frame-step c.args.bytes.now c.args.now c.args.self.now _ c.in-Err.ensures.fault))
