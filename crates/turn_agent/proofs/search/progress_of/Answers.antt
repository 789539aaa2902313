use Rattle.std.proofs.Common.{◌≡◌, true, leb, rules, length, ◌<◌, arith}
use Rattle.std.proofs.lemmas.Bool.{and_from}
use Rattle.turn_agent.specs.Schedule.{resends_of}
use Rattle.turn_agent.specs.Agent.{is_timed_out, transaction_timeout}
use Rattle.turn_agent.proofs.AgentLemmas.{IsScanned-found}
use Rattle.turn_agent.proofs.search.progress_of.Goals as goal

pub returns-then-resends-transaction : goal.returns-then-resends-transaction
returns-then-resends-transaction c =
    let timers = c.args.schedule.now.timers in
    let transport = c.args.schedule.now.transport in
    let t = c.index-transactions-place.result in
    let within : c.loop-place.place < length c.args.transactions.now = omega arith in
    let past : leb (transaction_timeout timers transport t) c.args.now ≡ true = search rules in
    let last : leb (resends_of timers transport) t.resends ≡ true = search rules in
    let over : is_timed_out timers transport c.args.now t ≡ true = and_from _ _ last past in
    (within, IsScanned-found timers transport c.args.now c.args.transactions.now c.loop-place.place c.loop-place.least t c.loop-place.invariant within (rw (← c.index-transactions-place.is) over))
