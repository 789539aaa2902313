use Rattle.std.proofs.Common.{◌≡◌, Some, None, sym}
use Rattle.std.specs.List.{position}
use Rattle.turn_stun.specs.Message.{id_of}
use Rattle.turn_agent.specs.Agent.{answers}
use Rattle.turn_agent.proofs.AgentLemmas.{handle_step-stray, handle_step-ended, answers-id}
use Rattle.turn_agent.proofs.TransactionLemmas.{is_outstanding-without}
use Rattle.turn_agent.proofs.agent.StunAgent.handle_stun_message.Goals as goal

pub returns-in-Some-clause-step : goal.returns-in-Some-clause-step
returns-in-Some-clause-step c =
    let a = c.args.self.now in
    let place : position (answers (id_of c.args.message.now) c.args.from) a.transactions ≡ Some c.in-Some.place = sym (rw c.transaction_id-id.ensures at c.in-Some.ensures) in
    let is = c.is_response.ensures.0 c.if-not-is_response.false in
    rw c.take_out-answered.ensures.after
    (handle_step-ended a c.args.message.now c.args.from c.in-Some.place c.take_out-answered.result is place c.take_out-answered.ensures.taken)

pub returns-in-Some-clause-ended : goal.returns-in-Some-clause-ended
returns-in-Some-clause-ended c = λ accepted is.
    let a = c.args.self.now in
    let id = id_of c.args.message.now in
    let place : position (answers id c.args.from) a.transactions ≡ Some c.in-Some.place = sym (rw c.transaction_id-id.ensures at c.in-Some.ensures) in
    let same = answers-id id c.args.from a.transactions c.in-Some.place c.take_out-answered.result place c.take_out-answered.ensures.taken in
    rw (c.take_out-answered.ensures.after, same) (is_outstanding-without id a.transactions)

pub returns-in-None-clause-step : goal.returns-in-None-clause-step
returns-in-None-clause-step c =
    let a = c.args.self.now in
    let none : position (answers (id_of c.args.message.now) c.args.from) a.transactions ≡ None = sym (rw c.transaction_id-id.ensures at c.in-None.ensures) in
    let is = c.is_response.ensures.0 c.if-not-is_response.false in
    handle_step-stray a c.args.message.now c.args.from is none
