use Rattle.turn_relay_course.proofs.FailureLemmas.{one-failure}
use Rattle.turn_relay_course.proofs.laws.one_failure_ends_nothing.Goals as goal

pub returns : goal.returns
returns c = λ course cause now. one-failure course.phase course cause now
