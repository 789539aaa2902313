use Rattle.std.proofs.Common.{refl}
use Rattle.turn_client_proto.proofs.CallLemmas.{channel_kept-keeps}
use Rattle.turn_client_proto.proofs.ControlLemmas.{channel_kept, follows}
use Rattle.turn_client_proto.proofs.OverLemmas.{leaves-IsClientOver}
use Rattle.turn_client_proto.proofs.over.TurnClientOverTurnClientApi.set_channel_kept.Goals as goal

pub invariant_of-self : goal.invariant_of-self
invariant_of-self g c =
    let led = follows refl c.control_mut.ensures.value (g.met.C.Carrier.controlled c.self.inside.carrier c.set_channel_kept.new.self) in
    channel_kept-keeps (leaves-IsClientOver _) _ _ c.set_channel_kept.result c.args.transport c.args.peer_addr c.args.is_kept (channel_kept led c.set_channel_kept.result c.args.transport c.args.peer_addr c.args.is_kept c.set_channel_kept.ensures.step) c.self.invariant

pub returns : goal.returns
returns g c =
    let led = follows c.self.view_is c.control_mut.ensures.value (g.met.C.Carrier.controlled c.self.inside.carrier c.set_channel_kept.new.self) in
    record { step = channel_kept led c.set_channel_kept.result c.args.transport c.args.peer_addr c.args.is_kept c.set_channel_kept.ensures.step }
