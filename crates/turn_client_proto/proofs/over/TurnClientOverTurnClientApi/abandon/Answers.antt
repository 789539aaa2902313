use Rattle.std.proofs.Common.{refl}
use Rattle.turn_client_proto.proofs.AbandonLemmas.{abandon-due, abandon-keeps, abandon-left, abandon-said, unchanged}
use Rattle.turn_client_proto.proofs.ControlLemmas.{follows}
use Rattle.turn_client_proto.proofs.over.TurnClientOverTurnClientApi.abandon.Goals as goal

pub invariant_of-self : goal.invariant_of-self
invariant_of-self g c =
    let led = follows refl c.control_mut.ensures.value (g.met.C.Carrier.controlled c.self.inside.carrier c.abandon.new.self) in
    let r = c.abandon.result in
    abandon-keeps r c.args.now (abandon-left led r c.args.now c.abandon.ensures.after) (unchanged led r c.abandon.ensures.no_memory) c.self.invariant

pub returns : goal.returns
returns g c =
    let led = follows c.self.view_is c.control_mut.ensures.value (g.met.C.Carrier.controlled c.self.inside.carrier c.abandon.new.self) in
    let r = c.abandon.result in
    record {
      answer = abandon-said led r c.args.now c.abandon.ensures.answer;
      after = abandon-left led r c.args.now c.abandon.ensures.after;
      no_memory = unchanged led r c.abandon.ensures.no_memory;
      free = abandon-due led r c.abandon.ensures.free;
    }
