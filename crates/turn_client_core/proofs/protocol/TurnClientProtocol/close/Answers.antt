use Rattle.turn_client_laws.proofs.Machine.{Closed}
use Rattle.turn_client_core.specs.contracts.protocol.TurnClientProtocol.{the_view}
use Rattle.turn_client_core.proofs.protocol.TurnClientProtocol.close.Goals as goal

pub returns : goal.returns
returns c = rw (← c.self.view_is) (c.unlist_allocates.ensures.state (the_view c.self.inside) Closed)
