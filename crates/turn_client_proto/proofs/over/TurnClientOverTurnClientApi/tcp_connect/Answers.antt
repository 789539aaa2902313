use Rattle.std.proofs.Common.{refl}
use Rattle.turn_client_proto.proofs.CallLemmas.{connect-keeps}
use Rattle.turn_client_proto.proofs.ControlLemmas.{connects, follows}
use Rattle.turn_client_proto.proofs.OverLemmas.{leaves-IsClientOver}
use Rattle.turn_client_proto.proofs.over.TurnClientOverTurnClientApi.tcp_connect.Goals as goal

pub invariant_of-self : goal.invariant_of-self
invariant_of-self g c =
    let led = follows refl c.control_mut.ensures.value (g.met.C.Carrier.controlled c.self.inside.carrier c.tcp_connect.new.self) in
    connect-keeps (leaves-IsClientOver _) _ _ c.tcp_connect.result c.args.peer_addr c.args.now (connects led c.tcp_connect.result c.args.peer_addr c.args.now c.tcp_connect.ensures.step) c.self.invariant

pub returns : goal.returns
returns g c =
    let led = follows c.self.view_is c.control_mut.ensures.value (g.met.C.Carrier.controlled c.self.inside.carrier c.tcp_connect.new.self) in
    record { step = connects led c.tcp_connect.result c.args.peer_addr c.args.now c.tcp_connect.ensures.step }
