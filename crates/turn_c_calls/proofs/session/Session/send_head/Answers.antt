use Rattle.std.proofs.Common.{◌∙◌, ap, length, subst, sym}
use Rattle.turn_client_proto.specs.Client.{state_of}
use Rattle.turn_c_calls.specs.Answer.{of_kind}
use Rattle.turn_c_calls.specs.Head.{HeadFinishes, head_judged}
use Rattle.turn_c_calls.specs.Held.{held}
use Rattle.turn_c_calls.specs.declared.answer.Answer.{Answer}
use Rattle.turn_c_calls.proofs.HeadEndLemmas.{head_finished, head_kept, head_refused}
use Rattle.turn_c_calls.proofs.session.Session.send_head.Goals as goal
use Rattle.turn_c_calls.proofs.session.Session.send_head.Goals.{in-Ok, in-Err}

pub invariant_of-self : goal.invariant_of-self
invariant_of-self c =
    head_kept c.args.request.now.time c.args.len (state_of c.self.inside.client) (state_of c.send_head_either.new.client)
    c.args.buffer.now c.send_head_either.new.buffer c.args.answer.now c.send_head_either.new.answer c.send_head_either.result _ c.send_head_either.ensures.ok c.send_head_either.ensures.err
    ∙ c.self.invariant

pub returns : goal.returns
returns c =
    let was = state_of c.self.inside.client in
    let now = state_of c.send_head_either.new.client in
    let unread = c.self.inside.unread in
    let judgement = head_judged was.config.allocation_transport c.args.request.now c.args.len (length c.args.buffer.now) in
    let Ended = λ (last : Answer).
    HeadFinishes judgement c.args.request.now.time c.args.len (held was unread) (held now unread) c.args.buffer.now c.send_head_either.new.buffer c.args.answer.now last in
    rw (← c.self.view_is) (elim c.match-send_head_either.branch [
      | in-Ok w ↦
          subst Ended (sym w.answer-is)
          (head_finished c.args.request.now.time c.args.len was now c.args.buffer.now c.send_head_either.new.buffer c.args.answer.now c.send_head_either.new.answer
          unread judgement (rw w.in-Ok.is at c.send_head_either.ensures.ok))
      | in-Err w ↦
          subst Ended (sym (w.answer-is ∙ ap (λ kind. of_kind kind c.send_head_either.new.answer) w.code-answer.ensures))
          (head_refused c.args.request.now.time c.args.len was now c.args.buffer.now c.send_head_either.new.buffer c.args.answer.now c.send_head_either.new.answer
          unread judgement _ (rw w.in-Err.is at c.send_head_either.ensures.err))
    ])
