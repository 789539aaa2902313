use Rattle.turn_driver.proofs.RestLemmas.{loops-come-to-rest}
use Rattle.turn_driver.proofs.rests.loops_come_to_rest.Goals as goal

pub returns : goal.returns
returns c = record { rest = loops-come-to-rest }
