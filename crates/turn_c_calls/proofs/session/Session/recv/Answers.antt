use Rattle.std.proofs.Common.{◌∙◌, ap, length, subst, sym}
use Rattle.std.specs.Prelude.{nat_lt}
use Rattle.turn_client_proto.specs.Client.{state_of}
use Rattle.turn_c_calls.specs.Answer.{of_kind}
use Rattle.turn_c_calls.specs.Held.{held}
use Rattle.turn_c_calls.specs.Judge.{request_judged}
use Rattle.turn_c_calls.specs.Step.{Finishes}
use Rattle.turn_c_calls.specs.declared.answer.Answer.{Answer}
use Rattle.turn_c_calls.proofs.EndLemmas.{finished, handled_kept, refused}
use Rattle.turn_c_calls.proofs.session.Session.recv.Goals as goal
use Rattle.turn_c_calls.proofs.session.Session.recv.Goals.{in-Ok, in-Err}

pub invariant_of-self : goal.invariant_of-self
invariant_of-self c =
    handled_kept c.args.bytes.now (state_of c.self.inside.client) (state_of c.recv_either.new.client) c.self.inside.unread c.recv_either.new.unread
    c.args.buffer.now c.recv_either.new.buffer c.args.answer.now c.recv_either.new.answer c.recv_either.result _ c.recv_either.ensures.ok c.recv_either.ensures.err
    ∙ c.self.invariant

pub returns : goal.returns
returns c =
    let was = state_of c.self.inside.client in
    let now = state_of c.recv_either.new.client in
    let unread = c.self.inside.unread in
    let judgement = request_judged was.config.allocation_transport c.args.request.now (nat_lt 0 (length unread)) (length c.args.bytes.now) (length c.args.buffer.now) in
    let Ended = λ (last : Answer).
    Finishes judgement c.args.bytes.now (held was unread) (held now c.recv_either.new.unread) c.args.buffer.now c.recv_either.new.buffer c.args.answer.now last in
    rw (← c.self.view_is) (elim c.match-recv_either.branch [
      | in-Ok w ↦
          subst Ended (sym w.answer-is)
          (finished c.args.bytes.now was now unread c.recv_either.new.unread c.args.buffer.now c.recv_either.new.buffer c.args.answer.now c.recv_either.new.answer
          judgement (rw w.in-Ok.is at c.recv_either.ensures.ok))
      | in-Err w ↦
          subst Ended (sym (w.answer-is ∙ ap (λ kind. of_kind kind c.recv_either.new.answer) w.code-answer.ensures))
          (refused c.args.bytes.now was now unread c.recv_either.new.unread c.args.buffer.now c.recv_either.new.buffer c.args.answer.now c.recv_either.new.answer
          judgement _ (rw w.in-Err.is at c.recv_either.ensures.err))
    ])
