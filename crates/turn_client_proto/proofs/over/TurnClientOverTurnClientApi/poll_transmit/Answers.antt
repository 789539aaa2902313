use Rattle.std.proofs.Common.{refl}
use Rattle.turn_client_proto.proofs.CallLemmas.{transmit-keeps}
use Rattle.turn_client_proto.proofs.ControlLemmas.{closed-on_err, follows, transmit-due, transmit-left, transmit-said}
use Rattle.turn_client_proto.proofs.OverLemmas.{leaves-IsClientOver}
use Rattle.turn_client_proto.proofs.over.TurnClientOverTurnClientApi.poll_transmit.Goals as goal

pub invariant_of-self : goal.invariant_of-self
invariant_of-self g c =
    let led = follows refl c.control_mut.ensures.value (g.met.C.Carrier.controlled c.self.inside.carrier c.poll_transmit.new.self) in
    let r = c.poll_transmit.result in
    transmit-keeps (leaves-IsClientOver _) _ _ r c.args.now (transmit-left led r c.args.now c.poll_transmit.ensures.after) (closed-on_err led r c.poll_transmit.ensures.no_memory) c.self.invariant

pub returns : goal.returns
returns g c =
    let led = follows c.self.view_is c.control_mut.ensures.value (g.met.C.Carrier.controlled c.self.inside.carrier c.poll_transmit.new.self) in
    let r = c.poll_transmit.result in
    record {
      answer = transmit-said led r c.args.now c.poll_transmit.ensures.answer;
      after = transmit-left led r c.args.now c.poll_transmit.ensures.after;
      no_memory = closed-on_err led r c.poll_transmit.ensures.no_memory;
      free = transmit-due led r c.args.now c.poll_transmit.ensures.free;
    }
