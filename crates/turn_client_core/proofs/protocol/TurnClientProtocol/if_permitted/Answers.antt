use Rattle.turn_client_laws.proofs.Common.{◌∙◌, ap, sym}
use Rattle.turn_client_core.specs.Indication.{if_permitted}
use Rattle.turn_client_core.proofs.protocol.TurnClientProtocol.if_permitted.Goals as goal

pub returns-then-is_permitted : goal.returns-then-is_permitted
returns-then-is_permitted c = sym (ap (λ b. if_permitted b c.args.outcome) (sym c.is_permitted.ensures ∙ c.if-is_permitted.true))

pub returns : goal.returns
returns c = sym (ap (λ b. if_permitted b c.args.outcome) (sym c.is_permitted.ensures ∙ c.if-is_permitted.false))
