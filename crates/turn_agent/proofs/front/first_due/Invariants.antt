use Rattle.turn_agent.proofs.FrontLemmas.{IsPassed}
use Rattle.turn_agent.proofs.front.first_due.Given as goal

abbrev pub invariant-loop-place : goal.invariant-loop-place
invariant-loop-place l = IsPassed l.schedule.timers l.schedule.transport l.now l.transactions l.place l.until
