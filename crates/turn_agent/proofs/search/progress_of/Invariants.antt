use Rattle.turn_agent.proofs.AgentLemmas.{IsScanned}
use Rattle.turn_agent.proofs.search.progress_of.Given as goal

abbrev pub invariant-loop-place : goal.invariant-loop-place
invariant-loop-place l = IsScanned l.schedule.timers l.schedule.transport l.now l.transactions l.place l.least
