use Rattle.std.proofs.Common.{Option, subst}
use Rattle.std.specs.Prelude.{option_map}
use Rattle.turn_session.specs.Framing.{TakesNext}
use Rattle.turn_session.specs.Given.{given_outcome}
use Rattle.turn_session.specs.declared.given.Given.{Given}
use Rattle.turn_session.proofs.FramingLemmas.{one-more}
use Rattle.turn_session.proofs.session.Session.next_data.Goals as goal

pub loop-given-preserved : goal.loop-given-preserved
loop-given-preserved g c =
    let takes = subst (λ (given : Option Given). TakesNext c.args.now c.loop-given.self c.take_next.new.self (option_map given_outcome given))
    c.in-Some.is c.in_ok-given.ensures.given in
    one-more c.args.now c.args.self.now c.loop-given.self c.take_next.new.self c.in-Some.given c.loop-given.invariant takes c.in_default-given.not-PeerData
