use Rattle.std.proofs.Common.{refl, subst}
use Rattle.turn_client_proto.proofs.CallLemmas.{poll-keeps}
use Rattle.turn_client_proto.proofs.ControlLemmas.{follows, poll-left, poll-said, timely}
use Rattle.turn_client_proto.proofs.OverLemmas.{leaves-IsClientOver}
use Rattle.turn_client_tcp.specs.Over.{IsClientOver}
use Rattle.turn_client_proto.proofs.over.TurnClientOverTurnClientApi.poll.Goals as goal

pub invariant_of-self : goal.invariant_of-self
invariant_of-self g c =
    let led = follows refl c.control_mut.ensures.value (g.met.C.Carrier.controlled c.self.inside.carrier c.poll.new.self) in
    poll-keeps (leaves-IsClientOver _) _ _ c.args.now (poll-left led c.poll.result c.args.now c.poll.ensures.after) c.self.invariant

pub returns : goal.returns
returns g c =
    let led = follows c.self.view_is c.control_mut.ensures.value (g.met.C.Carrier.controlled c.self.inside.carrier c.poll.new.self) in
    let r = c.poll.result in
    let said = c.poll.ensures in
    let over = subst (IsClientOver g.C.Carrier.transport) c.self.view_is c.self.invariant in
    record {
      answer = poll-said led r c.args.now said.answer;
      after = poll-left led r c.args.now said.after;
      alarm = timely led r c.args.now g.C.Carrier.transport said.answer said.after over c.requires.now_in_range;
      free = refl;
    }
