use Rattle.turn_client_laws.proofs.Common.{◌∙◌, ap, is_some}
use Rattle.turn_client_core.specs.contracts.protocol.TurnClientProtocol.{the_view}
use Rattle.turn_client_core.proofs.protocol.TurnClientProtocol.relays_to.Goals as goal

pub returns : goal.returns
returns c = rw (← c.self.view_is, ← c.ip.ensures) (c.is_some.ensures ∙ ap is_some (c.find_allocation_to.ensures (the_view c.self.inside)))
