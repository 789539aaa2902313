use Rattle.turn_client_laws.proofs.Common.{◌∙◌, ap, sym}
use Rattle.turn_client_core.proofs.incoming.UnreadLemmas.{cut-datagram, data-datagram, ignored-headed}
use Rattle.turn_client_core.proofs.protocol.TurnClientProtocol.headed.Goals as goal

pub returns-then-is_ignored_unread-clause-answer : goal.returns-then-is_ignored_unread-clause-answer
returns-then-is_ignored_unread-clause-answer c =
    sym (ap (λ p. p.0) (ignored-headed c.args.bytes.now c.args.now c.args.self.now _ _ _ c.requires.headed c.requires.class c.requires.method c.requires.id
    (sym c.is_ignored_unread.ensures ∙ c.if-is_ignored_unread.true)))

pub returns-then-is_ignored_unread-clause-after : goal.returns-then-is_ignored_unread-clause-after
returns-then-is_ignored_unread-clause-after c =
    sym (ap (λ p. p.1) (ignored-headed c.args.bytes.now c.args.now c.args.self.now _ _ _ c.requires.headed c.requires.class c.requires.method c.requires.id
    (sym c.is_ignored_unread.ensures ∙ c.if-is_ignored_unread.true)))

pub returns-in-Err-clause-answer : goal.returns-in-Err-clause-answer
returns-in-Err-clause-answer c = sym (ap (λ p. p.0) (cut-datagram c.args.bytes.now c.args.now c.args.self.now _ c.requires.headed c.in-Err.ensures.fault))

pub returns-in-Err-clause-after : goal.returns-in-Err-clause-after
returns-in-Err-clause-after c = sym (ap (λ p. p.1) (cut-datagram c.args.bytes.now c.args.now c.args.self.now _ c.requires.headed c.in-Err.ensures.fault))

pub returns-then-is_sent_data-clause-answer : goal.returns-then-is_sent_data-clause-answer
returns-then-is_sent_data-clause-answer c =
    c.data_indicated.ensures.outcome
    ∙ sym (ap (λ p. p.0) (data-datagram c.args.bytes.now c.args.now c.args.self.now _ _ c.requires.headed c.requires.class c.requires.method (sym c.is_sent_data.ensures ∙ c.if-is_sent_data.true)))

pub returns-then-is_sent_data-clause-after : goal.returns-then-is_sent_data-clause-after
returns-then-is_sent_data-clause-after c =
    sym (ap (λ p. p.1) (data-datagram c.args.bytes.now c.args.now c.args.self.now _ _ c.requires.headed c.requires.class c.requires.method (sym c.is_sent_data.ensures ∙ c.if-is_sent_data.true)))
