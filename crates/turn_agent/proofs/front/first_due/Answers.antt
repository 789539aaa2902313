use Rattle.std.proofs.Common.{◌≡◌, ◌<◌, ◌≤◌, true, leb, ltb, length, rules, sym, arith}
use Rattle.std.proofs.lemmas.Bool.{and_from}
use Rattle.turn_agent.specs.Agent.{is_due, transaction_timeout}
use Rattle.turn_agent.specs.Schedule.{resends_of}
use Rattle.turn_agent.proofs.FrontLemmas.{IsPassed-all, position-next}
use Rattle.turn_agent.proofs.front.first_due.Goals as goal

pub returns-then-le-clause-place : goal.returns-then-le-clause-place
returns-then-le-clause-place c =
    let timers = c.args.schedule.now.timers in
    let transport = c.args.schedule.now.transport in
    let t = c.index-transactions-place.result in
    let within : c.loop-place.place < length c.args.transactions.now = omega arith in
    let past : leb (transaction_timeout timers transport t) c.args.now ≡ true = search rules in
    let more : ltb t.resends (resends_of timers transport) ≡ true = search rules in
    let passes : is_due timers transport c.args.now t ≡ true = and_from _ _ more past in
    sym (position-next (is_due timers transport c.args.now) c.args.transactions.now c.loop-place.place t within c.loop-place.invariant.none (rw (← c.index-transactions-place.is) passes))

pub returns-clause-place : goal.returns-clause-place
returns-clause-place c =
    let past : length c.args.transactions.now ≤ c.loop-place.place = search rules in
    sym (IsPassed-all c.args.schedule.now.timers c.args.schedule.now.transport c.args.now c.args.transactions.now c.loop-place.place c.loop-place.until c.loop-place.invariant past)
