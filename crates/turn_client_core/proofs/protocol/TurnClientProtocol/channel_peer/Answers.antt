use Rattle.turn_client_core.specs.contracts.protocol.TurnClientProtocol.{the_view}
use Rattle.turn_client_core.proofs.protocol.TurnClientProtocol.channel_peer.Goals as goal

pub returns : goal.returns
returns c = rw (← c.self.view_is, ← c.table.ensures.grants) (c.channel_peer.ensures (the_view c.self.inside))
