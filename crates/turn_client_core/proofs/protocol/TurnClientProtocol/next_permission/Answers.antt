use Rattle.turn_client_core.specs.contracts.protocol.TurnClientProtocol.{the_view}
use Rattle.turn_client_core.proofs.protocol.TurnClientProtocol.next_permission.Goals as goal

pub returns : goal.returns
returns c = rw (← c.self.view_is) (c.next_permission.ensures (the_view c.self.inside))
