use Rattle.turn_driver.proofs.LateLemmas.{loops-late}
use Rattle.turn_driver.proofs.OnTimeLemmas.{loops-on-time}
use Rattle.turn_driver.proofs.on_time.loops_are_on_time.Goals as goal

pub returns : goal.returns
returns c = record { on_time = loops-on-time; late = loops-late }
