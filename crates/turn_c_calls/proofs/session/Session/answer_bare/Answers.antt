use Rattle.std.proofs.Common.{◌∙◌, ap, subst, sym}
use Rattle.turn_client_proto.specs.Client.{state_of}
use Rattle.turn_c_calls.specs.Answer.{of_kind}
use Rattle.turn_c_calls.specs.Held.{held}
use Rattle.turn_c_calls.specs.Step.{BareSteps}
use Rattle.turn_c_calls.specs.declared.answer.Answer.{Answer}
use Rattle.turn_c_calls.proofs.EndLemmas.{bare_finished, bare_kept, bare_refused}
use Rattle.turn_c_calls.proofs.session.Session.answer_bare.Goals as goal
use Rattle.turn_c_calls.proofs.session.Session.answer_bare.Goals.{in-Ok, in-Err}

pub invariant_of-self : goal.invariant_of-self
invariant_of-self c =
    bare_kept c.args.request.now (state_of c.self.inside.client) (state_of c.handle_bare_either.new.client) c.args.answer.now
    c.handle_bare_either.new.answer c.handle_bare_either.result c.handle_bare_either.ensures.ok c.handle_bare_either.ensures.err
    ∙ c.self.invariant

pub returns : goal.returns
returns c =
    let was = state_of c.self.inside.client in
    let now = state_of c.handle_bare_either.new.client in
    let unread = c.self.inside.unread in
    let Ended = λ (last : Answer). BareSteps c.args.request.now (held was unread) (held now unread) c.args.answer.now last in
    rw (← c.self.view_is) (elim c.match-handle_bare_either.branch [
      | in-Ok w ↦
          subst Ended (sym w.answer-is)
          (bare_finished c.args.request.now was now c.args.answer.now c.handle_bare_either.new.answer unread (rw w.in-Ok.is at c.handle_bare_either.ensures.ok))
      | in-Err w ↦
          subst Ended (sym (w.answer-is ∙ ap (λ kind. of_kind kind c.handle_bare_either.new.answer) w.code-answer.ensures))
          (bare_refused c.args.request.now was now c.args.answer.now c.handle_bare_either.new.answer unread _
          (rw w.in-Err.is at c.handle_bare_either.ensures.err))
    ])
