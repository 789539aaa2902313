use Rattle.turn_client_laws.proofs.Common.{◌∙◌, ap, sym}
use Rattle.turn_client_core.proofs.incoming.UnreadLemmas.{ignored-message}
use Rattle.turn_client_core.proofs.protocol.TurnClientProtocol.message_unless_ignored.Goals as goal

pub returns-then-is_ignored_unread-clause-answer : goal.returns-then-is_ignored_unread-clause-answer
returns-then-is_ignored_unread-clause-answer c =
    sym (ap (λ p. p.0) (ignored-message c.args.message.now c.args.now c.args.self.now _ _ _ c.message_type.ensures.class c.message_type.ensures.method c.transaction_id.ensures
    (sym c.is_ignored_unread.ensures ∙ c.if-is_ignored_unread.true)))

pub returns-then-is_ignored_unread-clause-after : goal.returns-then-is_ignored_unread-clause-after
returns-then-is_ignored_unread-clause-after c =
    sym (ap (λ p. p.1) (ignored-message c.args.message.now c.args.now c.args.self.now _ _ _ c.message_type.ensures.class c.message_type.ensures.method c.transaction_id.ensures
    (sym c.is_ignored_unread.ensures ∙ c.if-is_ignored_unread.true)))
