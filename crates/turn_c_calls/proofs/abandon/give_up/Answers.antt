use Rattle.std.proofs.Common.{List, Option, ℕ, refl, subst, sym, ◌∙◌}
use Rattle.turn_stun.specs.declared.transport.Transmit.{Transmit}
use Rattle.turn_c_calls.specs.Abandon.{AbandonShows}
use Rattle.turn_c_calls.specs.Answer.{of_kind}
use Rattle.turn_c_calls.specs.declared.code.TheConstants.{NOTHING}
use Rattle.turn_c_calls.proofs.abandon.give_up.Goals as goal

pub returns-in-None-clause-ok : goal.returns-in-None-clause-ok
returns-in-None-clause-ok g c = record {
  client = c.in_ok-abandon.ensures.after;
  shows = subst (λ (o : Option (Transmit (List ℕ))). AbandonShows o c.args.unread.now c.args.buffer.now c.args.buffer.now c.args.unread.now c.args.answer.now (of_kind NOTHING c.args.answer.now))
      (sym c.in-None.is ∙ c.in_ok-abandon.ensures.answer) (record { says = refl; buffer_is = refl; unread_is = refl });
}

pub returns-in-Some-clause-ok : goal.returns-in-Some-clause-ok
returns-in-Some-clause-ok g c = record {
  client = c.in_ok-abandon.ensures.after;
  shows = subst (λ (o : Option (Transmit (List ℕ))).
      AbandonShows o c.args.unread.now c.args.buffer.now c.give.new.buffer c.give.new.unread c.args.answer.now c.give.new.answer)
      (sym c.in-Some.is ∙ c.in_ok-abandon.ensures.answer) (rw (← c.set_packet.ensures) c.give.ensures);
}
