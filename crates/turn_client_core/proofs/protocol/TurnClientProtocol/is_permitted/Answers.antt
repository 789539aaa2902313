use Rattle.turn_client_core.specs.contracts.protocol.TurnClientProtocol.{the_view}
use Rattle.turn_client_core.proofs.protocol.TurnClientProtocol.is_permitted.Goals as goal

pub returns : goal.returns
returns c = rw (← c.self.view_is, ← c.table.ensures.grants, ← c.ip.ensures) (c.has_active_permission.ensures (the_view c.self.inside))
