use Rattle.turn_client_proto.proofs.CallLemmas.{socket-keeps}
use Rattle.turn_client_proto.proofs.OverLemmas.{leaves-IsClientOver}
use Rattle.turn_client_proto.proofs.over.TurnClientOverTurnClientApi.allocated_tcp_socket.Goals as goal

pub invariant_of-self : goal.invariant_of-self
invariant_of-self g c = socket-keeps (leaves-IsClientOver _) _ _ c.take_socket.result c.args.id c.args.five_tuple c.args.peer_addr c.args.local_addr c.args.now c.take_socket.ensures.step c.self.invariant
