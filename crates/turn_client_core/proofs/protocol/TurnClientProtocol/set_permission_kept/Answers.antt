use Rattle.turn_client_core.specs.contracts.protocol.TurnClientProtocol.{the_view}
use Rattle.turn_client_core.proofs.protocol.TurnClientProtocol.set_permission_kept.Goals as goal

pub returns : goal.returns
returns c = record { step = rw (← c.self.view_is) (c.set_permission_kept.ensures.state (the_view c.self.inside)) }
