use Rattle.std.proofs.Common.{refl}
use Rattle.turn_client_proto.proofs.CallLemmas.{closed_end-keeps}
use Rattle.turn_client_proto.proofs.ControlLemmas.{follows, tcp_closed-left}
use Rattle.turn_client_proto.proofs.OverLemmas.{leaves-IsClientOver}
use Rattle.turn_client_proto.proofs.over.TurnClientOverTurnClientApi.tcp_closed.Goals as goal

pub invariant_of-self : goal.invariant_of-self
invariant_of-self g c =
    let led = follows refl c.control_mut.ensures.value (g.met.C.Carrier.controlled c.self.inside.carrier c.tcp_closed.new.self) in
    closed_end-keeps (leaves-IsClientOver _) _ _ c.args.local_addr c.args.remote_addr (tcp_closed-left led c.args.local_addr c.args.remote_addr c.tcp_closed.ensures) c.self.invariant

pub returns : goal.returns
returns g c =
    let led = follows c.self.view_is c.control_mut.ensures.value (g.met.C.Carrier.controlled c.self.inside.carrier c.tcp_closed.new.self) in
    tcp_closed-left led c.args.local_addr c.args.remote_addr c.tcp_closed.ensures
