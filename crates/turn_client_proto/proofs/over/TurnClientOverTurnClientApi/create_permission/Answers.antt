use Rattle.std.proofs.Common.{refl}
use Rattle.turn_client_proto.proofs.CallLemmas.{permission-keeps}
use Rattle.turn_client_proto.proofs.ControlLemmas.{follows, permits}
use Rattle.turn_client_proto.proofs.OverLemmas.{leaves-IsClientOver}
use Rattle.turn_client_proto.proofs.over.TurnClientOverTurnClientApi.create_permission.Goals as goal

pub invariant_of-self : goal.invariant_of-self
invariant_of-self g c =
    let led = follows refl c.control_mut.ensures.value (g.met.C.Carrier.controlled c.self.inside.carrier c.create_permission.new.self) in
    permission-keeps (leaves-IsClientOver _) _ _ c.create_permission.result c.args.transport c.args.peer_addr c.args.now (permits led c.create_permission.result c.args.transport c.args.peer_addr c.args.now c.create_permission.ensures.step) c.self.invariant

pub returns : goal.returns
returns g c =
    let led = follows c.self.view_is c.control_mut.ensures.value (g.met.C.Carrier.controlled c.self.inside.carrier c.create_permission.new.self) in
    record { step = permits led c.create_permission.result c.args.transport c.args.peer_addr c.args.now c.create_permission.ensures.step }
