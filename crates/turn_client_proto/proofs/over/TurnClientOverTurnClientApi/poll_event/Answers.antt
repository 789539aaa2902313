use Rattle.std.proofs.Common.{refl}
use Rattle.turn_client_proto.proofs.CallLemmas.{event-keeps}
use Rattle.turn_client_proto.proofs.ControlLemmas.{event-left, event-said, follows}
use Rattle.turn_client_proto.proofs.OverLemmas.{leaves-IsClientOver}
use Rattle.turn_client_proto.proofs.over.TurnClientOverTurnClientApi.poll_event.Goals as goal

pub invariant_of-self : goal.invariant_of-self
invariant_of-self g c =
    let led = follows refl c.control_mut.ensures.value (g.met.C.Carrier.controlled c.self.inside.carrier c.poll_event.new.self) in
    event-keeps (leaves-IsClientOver _) _ _ (event-left led c.poll_event.ensures.after) c.self.invariant

pub returns : goal.returns
returns g c =
    let led = follows c.self.view_is c.control_mut.ensures.value (g.met.C.Carrier.controlled c.self.inside.carrier c.poll_event.new.self) in
    record { answer = event-said led c.poll_event.result c.poll_event.ensures.answer; after = event-left led c.poll_event.ensures.after }
