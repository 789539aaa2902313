use Rattle.std.proofs.Common.{refl}
use Rattle.turn_client_proto.proofs.CallLemmas.{delete-keeps}
use Rattle.turn_client_proto.proofs.ControlLemmas.{deletes, follows}
use Rattle.turn_client_proto.proofs.OverLemmas.{leaves-IsClientOver}
use Rattle.turn_client_proto.proofs.over.TurnClientOverTurnClientApi.delete.Goals as goal

pub invariant_of-self : goal.invariant_of-self
invariant_of-self g c =
    let led = follows refl c.control_mut.ensures.value (g.met.C.Carrier.controlled c.self.inside.carrier c.delete.new.self) in
    delete-keeps (leaves-IsClientOver _) _ _ c.delete.result c.args.now (deletes led c.delete.result c.args.now c.delete.ensures.step) c.self.invariant

pub returns : goal.returns
returns g c =
    let led = follows c.self.view_is c.control_mut.ensures.value (g.met.C.Carrier.controlled c.self.inside.carrier c.delete.new.self) in
    record { step = deletes led c.delete.result c.args.now c.delete.ensures.step }
