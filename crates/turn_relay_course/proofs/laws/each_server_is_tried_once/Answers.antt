use Rattle.std.proofs.Common.{ℕ, ◌≤◌, max, length, arith, refl}
use Rattle.turn_relay_course.specs.Course.{new_course}
use Rattle.turn_relay_course.specs.Runs.{begin_times}
use Rattle.turn_relay_course.specs.declared.reopen.Reopen.TheVariants.{Never}
use Rattle.turn_relay_course.proofs.OnceLemmas.{left_of, run-once}
use Rattle.turn_relay_course.proofs.laws.each_server_is_tried_once.Goals as goal

pub returns : goal.returns
returns c = λ servers b seed calls few.
    let begun = new_course Never servers b seed in
    let once : length (begin_times calls begun) ≤ left_of begun = run-once calls begun refl few in
    omega (arith, once)
