use Rattle.turn_relay_course.specs.Course.{is_due, new_course}
use Rattle.turn_relay_course.specs.Runs.{run}
use Rattle.turn_relay_course.proofs.NextLemmas.{begin-due, failure-due, run-short}
use Rattle.turn_relay_course.proofs.laws.next_try_comes.Goals as goal

pub returns : goal.returns
returns c = record {
  begins = λ reopen servers b seed calls now short due.
      let begun = run calls (new_course reopen servers b seed) in
      begin-due (is_due now begun) now begun (run-short calls (new_course reopen servers b seed) (record { first = short; wait = short })) due;
  ends = λ cause due now c later. failure-due c.phase cause due now c later;
}
