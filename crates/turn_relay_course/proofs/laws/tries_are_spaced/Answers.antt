use Rattle.std.proofs.Common.{refl}
use Rattle.turn_relay_course.specs.Course.{new_course}
use Rattle.turn_relay_course.specs.declared.reopen.Reopen.TheVariants.{Always}
use Rattle.turn_relay_course.proofs.SpaceLemmas.{back-rest, fails-rest, run-spaced}
use Rattle.turn_relay_course.proofs.laws.tries_are_spaced.Goals as goal

pub returns : goal.returns
returns c = record {
  first = λ servers b seed calls soon. run-spaced calls (new_course Always servers b seed) refl soon;
  later = run-spaced;
  rests = λ cause now c always soon begun. fails-rest c.phase cause now c (back-rest cause now c always soon.0) begun;
}
