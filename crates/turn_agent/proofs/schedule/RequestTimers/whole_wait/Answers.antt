use Rattle.turn_agent.proofs.ScheduleLemmas.{sum-schedule}
use Rattle.turn_agent.proofs.schedule.RequestTimers.whole_wait.Goals as goal

pub returns : goal.returns
returns c = rw (sum-schedule c.args.self, c.min.ensures, c.sum_of_doubled-before_last.ensures.sum, c.from.ensures, c.udp_resends.ensures, ← c.self.view_is)
