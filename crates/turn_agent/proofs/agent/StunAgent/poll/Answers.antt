use Rattle.std.proofs.Common.{◌-◌, ◌^◌}
use Rattle.turn_agent.specs.contracts.agent.StunAgent.{the_view}
use Rattle.turn_agent.proofs.AgentLemmas.{poll_step-over, poll_step-quiet, IsSilentAt-before, IsSilentAt-quiet, some_due}
use Rattle.turn_agent.proofs.TransactionLemmas.{is_outstanding-without}
use Rattle.turn_agent.proofs.agent.StunAgent.poll.Goals as goal

pub returns-in-Some-clause-step : goal.returns-in-Some-clause-step
returns-in-Some-clause-step c = poll_step-quiet c.args.self.now c.args.now c.in-Some.time c.in-Some.ensures

pub returns-in-Some-clause-alarm : goal.returns-in-Some-clause-alarm
returns-in-Some-clause-alarm c = λ time before.
    IsSilentAt-quiet c.args.self.now c.args.now c.in-Some.time time c.in-Some.ensures before

pub returns-in-Over-clause-step : goal.returns-in-Over-clause-step
returns-in-Over-clause-step c =
    let a = the_view c.self.inside in
    let over = rw c.deref.ensures.value at c.in-Over.ensures in
    let taken = rw (← c.self.view_is) at c.take_out-given_up.ensures.taken in
    rw (c.take_out-given_up.ensures.after, ← c.self.view_is)
    (poll_step-over a c.args.now c.in-Over.place c.take_out-given_up.result over.1 taken)

pub returns-in-Over-clause-ended : goal.returns-in-Over-clause-ended
returns-in-Over-clause-ended c =
    rw c.take_out-given_up.ensures.after (is_outstanding-without c.take_out-given_up.result.id c.args.self.now.transactions)

pub returns-in-Waiting-clause-busy : goal.returns-in-Waiting-clause-busy
returns-in-Waiting-clause-busy c = λ past before.
    let a = the_view c.self.inside in
    let waits = rw c.deref.ensures.value at c.in-Waiting.ensures in
    some_due a.timers a.transport c.args.now (2 ^ 63 - 1) a.transactions waits.0 before (rw (← waits.2) past)

pub returns-in-Waiting-clause-alarm : goal.returns-in-Waiting-clause-alarm
returns-in-Waiting-clause-alarm c = λ time before.
    let waits = rw c.deref.ensures.value at c.in-Waiting.ensures in
    IsSilentAt-before (the_view c.self.inside) time (rw (← waits.2) before)
