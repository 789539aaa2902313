use Rattle.turn_client_tcp.specs.contracts.protocol.TurnClientTcpProtocol.{the_view}
use Rattle.turn_client_tcp.proofs.protocol.TurnClientTcpProtocol.bind_stream.Goals as goal

pub returns-in-Some : goal.returns-in-Some
returns-in-Some c = rw (c.in-Some.is, ← c.self.view_is) (c.set_mode.ensures (the_view c.self.inside))
