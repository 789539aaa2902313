use Rattle.turn_client_laws.proofs.Common.{◌≡◌, ◌∙◌, ap, sym}
use Rattle.turn_client_laws.proofs.Machine.{answer_step, timed_out_step, timed_step, Phase, Allocated, Authenticating, Requesting}
use Rattle.turn_client_core.specs.contracts.protocol.TurnClientProtocol.{the_view}
use Rattle.turn_client_core.proofs.calls.AskLemmas.{with_outbox}
use Rattle.turn_client_core.proofs.time.PollLemmas.{authenticating-is, requesting-is, timed-is}
use Rattle.turn_client_core.proofs.protocol.TurnClientProtocol.poll_time.Goals as goal
use Rattle.turn_client_core.proofs.protocol.TurnClientProtocol.poll_time.Goals.{in-Requesting+else-is_some, in-Authenticating, in-Allocated}

pub returns-in-New : goal.returns-in-New
returns-in-New c = rw (← c.self.view_is) (timed-is c.args.now (the_view c.self.inside) c.self.inside.outbox c.give_up-given.new.self c.give_up-given.result _ c.self.invariant.times c.in-New.is c.give_up-given.ensures)

pub returns-in-Closed : goal.returns-in-Closed
returns-in-Closed c = rw (← c.self.view_is) (timed-is c.args.now (the_view c.self.inside) c.self.inside.outbox c.give_up-given.new.self c.give_up-given.result _ c.self.invariant.times c.in-Closed.is c.give_up-given.ensures)

pub returns : goal.returns
returns c =
    let s = the_view c.self.inside in
    let given = c.give_up-given.result in
    let after = with_outbox c.give_up-given.new.self s in
    let timed : (phase : Phase) → c.self.inside.phase ≡ phase → timed_step phase given c.args.now after ≡ timed_out_step c.args.now s =
    λ phase is. timed-is c.args.now s c.self.inside.outbox c.give_up-given.new.self given phase c.self.invariant.times is c.give_up-given.ensures in
    rw (← c.self.view_is)
    (c.answer.ensures
    ∙ elim c.match-self.branch [
      | in-Requesting+else-is_some w ↦
          ap (answer_step given c.args.now) w.self-is
          ∙ requesting-is given c.args.now after (sym w.is_some.ensures ∙ w.if-is_some.false)
          ∙ timed Requesting w.in-Requesting.is
      | in-Authenticating w ↦
          ap (answer_step given c.args.now) (w.self-is ∙ w.end_unallocated.ensures)
          ∙ authenticating-is given c.args.now after
          ∙ timed Authenticating w.in-Authenticating.is
      | in-Allocated w ↦
          ap (answer_step given c.args.now) (w.self-is ∙ w.expire_grants.ensures.state after (sym w.requests_timed_from_send-timed_from_send.ensures))
          ∙ timed Allocated w.in-Allocated.is
    ])
