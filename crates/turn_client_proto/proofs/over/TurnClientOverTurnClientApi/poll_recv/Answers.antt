use Rattle.turn_client_proto.proofs.CallLemmas.{drain-keeps}
use Rattle.turn_client_proto.proofs.OverLemmas.{leaves-IsClientOver}
use Rattle.turn_client_proto.proofs.over.TurnClientOverTurnClientApi.poll_recv.Goals as goal

pub invariant_of-self : goal.invariant_of-self
invariant_of-self g c = drain-keeps (leaves-IsClientOver _) _ _ c.next_payload.result c.args.now c.next_payload.ensures.after c.next_payload.ensures.no_memory c.self.invariant
