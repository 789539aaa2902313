use Rattle.std.proofs.Common.{refl}
use Rattle.turn_client_proto.proofs.CallLemmas.{channel-keeps}
use Rattle.turn_client_proto.proofs.ControlLemmas.{binds, follows}
use Rattle.turn_client_proto.proofs.OverLemmas.{leaves-IsClientOver}
use Rattle.turn_client_proto.proofs.over.TurnClientOverTurnClientApi.bind_channel.Goals as goal

pub invariant_of-self : goal.invariant_of-self
invariant_of-self g c =
    let led = follows refl c.control_mut.ensures.value (g.met.C.Carrier.controlled c.self.inside.carrier c.bind_channel.new.self) in
    channel-keeps (leaves-IsClientOver _) _ _ c.bind_channel.result c.args.transport c.args.peer_addr c.args.now (binds led c.bind_channel.result c.args.transport c.args.peer_addr c.args.now c.bind_channel.ensures.step) c.self.invariant

pub returns : goal.returns
returns g c =
    let led = follows c.self.view_is c.control_mut.ensures.value (g.met.C.Carrier.controlled c.self.inside.carrier c.bind_channel.new.self) in
    record { step = binds led c.bind_channel.result c.args.transport c.args.peer_addr c.args.now c.bind_channel.ensures.step }
