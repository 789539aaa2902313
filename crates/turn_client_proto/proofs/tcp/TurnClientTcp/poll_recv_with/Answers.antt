use Rattle.turn_client_proto.proofs.CallLemmas.{drain-keeps}
use Rattle.turn_client_proto.proofs.OverLemmas.{leaves-IsClientOver}
use Rattle.turn_client_proto.proofs.tcp.TurnClientTcp.poll_recv_with.Goals as goal

pub invariant_of-self : goal.invariant_of-self
invariant_of-self g c =
    drain-keeps (leaves-IsClientOver _) _ _ c.poll_recv_with.result c.args.now c.poll_recv_with.ensures.after c.poll_recv_with.ensures.no_memory c.self.invariant
