use Rattle.turn_agent.proofs.ScheduleLemmas.{IsDoubling}
use Rattle.turn_agent.proofs.schedule.sum_of_doubled.Given as goal

abbrev pub invariant-loop-round : goal.invariant-loop-round
invariant-loop-round l = IsDoubling l.first l.greatest l.count l._round l.wait l.left l.sum
