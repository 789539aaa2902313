use Rattle.std.proofs.Common.{◌∙◌, ap, length, subst, sym}
use Rattle.std.specs.Prelude.{nat_lt}
use Rattle.turn_client_proto.specs.Client.{state_of}
use Rattle.turn_c_calls.specs.Abandon.{AbandonFinishes, abandon_judged}
use Rattle.turn_c_calls.specs.Answer.{of_kind}
use Rattle.turn_c_calls.specs.Held.{held}
use Rattle.turn_c_calls.specs.declared.answer.Answer.{Answer}
use Rattle.turn_c_calls.proofs.AbandonLemmas.{abandon_finished, abandon_kept, abandon_refused}
use Rattle.turn_c_calls.proofs.session.Session.abandon.Goals as goal
use Rattle.turn_c_calls.proofs.session.Session.abandon.Goals.{in-Ok, in-Err}

pub invariant_of-self : goal.invariant_of-self
invariant_of-self c =
    abandon_kept (state_of c.self.inside.client) (state_of c.abandon_either.new.client) c.self.inside.unread c.abandon_either.new.unread
    c.args.buffer.now c.abandon_either.new.buffer c.args.answer.now c.abandon_either.new.answer c.abandon_either.result _ c.abandon_either.ensures.ok c.abandon_either.ensures.err
    ∙ c.self.invariant

pub returns : goal.returns
returns c =
    let was = state_of c.self.inside.client in
    let now = state_of c.abandon_either.new.client in
    let unread = c.self.inside.unread in
    let judgement = abandon_judged c.args.request.now (nat_lt 0 (length unread)) in
    let Ended = λ (last : Answer).
    AbandonFinishes judgement (held was unread) (held now c.abandon_either.new.unread) c.args.buffer.now c.abandon_either.new.buffer c.args.answer.now last in
    rw (← c.self.view_is) (elim c.match-abandon_either.branch [
      | in-Ok w ↦
          subst Ended (sym w.answer-is)
          (abandon_finished was now unread c.abandon_either.new.unread c.args.buffer.now c.abandon_either.new.buffer c.args.answer.now c.abandon_either.new.answer
          judgement (rw w.in-Ok.is at c.abandon_either.ensures.ok))
      | in-Err w ↦
          subst Ended (sym (w.answer-is ∙ ap (λ kind. of_kind kind c.abandon_either.new.answer) w.code-answer.ensures))
          (abandon_refused was now unread c.abandon_either.new.unread c.args.buffer.now c.abandon_either.new.buffer c.args.answer.now c.abandon_either.new.answer
          judgement _ (rw w.in-Err.is at c.abandon_either.ensures.err))
    ])
