-- How a request of the caller is answered.
use Rattle.std.proofs.Common.{◌≡◌, ℕ, Bool, Some, None, refl, subst, sym}
use Rattle.std.specs.Prelude.{Result, Ok}
use Rattle.std.specs.declared.alloc.AllocError.{AllocError}
use Rattle.turn_session_book.specs.declared.keys.Key.{Key}
use Rattle.turn_relay_tries.specs.declared.causes.Cause.{Cause}
use Rattle.turn_relay_course.specs.declared.course.Phase.{Phase}
use Rattle.turn_relay_course.specs.declared.course.Phase.TheVariants as At
use Rattle.turn_relay.specs.Asking.{AnswersBy, AnswersIn, AnswersRequest, Tickets, after_known, known_answer}
use Rattle.turn_relay.specs.RelayState.{RelayState}
use Rattle.turn_relay.specs.declared.answer.RelayAnswer.{RelayAnswer}
use Rattle.turn_relay.specs.declared.answer.RelayAnswer.TheVariants as Relay

module _ (key : Key) (is_for_data : Bool) (now : ℕ) (was r : RelayState) (result : Result RelayAnswer AllocError) where
  pub answers-over : (cause : Cause) → was.plan.course.phase ≡ At.Over cause → result ≡ Ok (Relay.Over cause) → r ≡ was
      → AnswersRequest key is_for_data now was r result
  answers-over cause phase over same =
      subst (λ (p : Phase). AnswersIn p key is_for_data now was r result) (sym phase) (over, same)

  answers-in : (phase : Phase) → ((cause : Cause) → phase ≡ At.Over cause → ⊥)
      → AnswersBy (known_answer key is_for_data now was) key was r result
      → AnswersIn phase key is_for_data now was r result
  answers-in At.Resting other answers = answers
  answers-in At.Asking other answers = answers
  answers-in (At.Trying until) other answers = answers
  answers-in At.Restoring other answers = answers
  answers-in (At.Up since) other answers = answers
  answers-in (At.Over cause) other answers = absurd (other cause refl)

  pub answers-known : (answer : RelayAnswer) → ((cause : Cause) → was.plan.course.phase ≡ At.Over cause → ⊥)
      → known_answer key is_for_data now was ≡ Some answer → result ≡ Ok answer → r ≡ after_known key answer was
      → AnswersRequest key is_for_data now was r result
  answers-known answer other known said same = answers-in was.plan.course.phase other (rw known (said, same))

  pub answers-new : ((cause : Cause) → was.plan.course.phase ≡ At.Over cause → ⊥) → known_answer key is_for_data now was ≡ None
      → Tickets key was r result → AnswersRequest key is_for_data now was r result
  answers-new other unknown tickets = answers-in was.plan.course.phase other (rw unknown tickets)
