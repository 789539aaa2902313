use Rattle.std.proofs.Common.{◌∙◌, ap, refl, sym}
use Rattle.turn_client_api.specs.Answers.{IsSent}
use Rattle.turn_client_api.specs.State.{State}
use Rattle.turn_client_proto.proofs.CallLemmas.{send-keeps}
use Rattle.turn_client_proto.proofs.ControlLemmas.{follows, send-left, send-said}
use Rattle.turn_client_proto.proofs.OverLemmas.{leaves-IsClientOver}
use Rattle.turn_client_proto.proofs.over.TurnClientOverTurnClientApi.send_to.Goals as goal

pub send_to-requires : goal.send_to-requires
send_to-requires g c = λ relays. c.requires.short (sym (ap (λ (s : State). s.config.allocation_transport) (c.control_mut.ensures.value ∙ c.self.view_is)) ∙ relays)

pub invariant_of-self : goal.invariant_of-self
invariant_of-self g c =
    let led = follows refl c.control_mut.ensures.value (g.met.C.Carrier.controlled c.self.inside.carrier c.send_to.new.self) in
    let bytes = g.T.AsSlice.items c.args.«data» in
    send-keeps (leaves-IsClientOver _) _ _ c.args.transport c.args.to bytes c.args.now (send-left led c.args.transport c.args.to bytes c.args.now c.send_to.ensures.after) c.self.invariant

pub returns : goal.returns
returns g c =
    let led = follows c.self.view_is c.control_mut.ensures.value (g.met.C.Carrier.controlled c.self.inside.carrier c.send_to.new.self) in
    let bytes = g.T.AsSlice.items c.args.«data» in
    record {
      answer = send-said led (IsSent c.send_to.result) c.args.transport c.args.to bytes c.args.now c.send_to.ensures.answer;
      named = c.send_to.ensures.named;
      after = send-left led c.args.transport c.args.to bytes c.args.now c.send_to.ensures.after;
    }
