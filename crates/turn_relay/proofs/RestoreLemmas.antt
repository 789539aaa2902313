-- What is requested again of a session.
use Rattle.std.proofs.Common.{◌≡◌, ◌&&◌, ℕ, Bool, true, false, Option, Some, None, refl, ap, inr, subst, sym}
use Rattle.std.proofs.lemmas.Option.{none-some}
use Rattle.std.specs.Prelude.{if◌then◌else◌, OnErr, Result, Ok, Err}
use Rattle.turn_session_book.specs.declared.answers.Answer.{Answer}
use Rattle.turn_session_book.specs.declared.answers.Answer.TheVariants as Answers
use Rattle.turn_session_book.specs.declared.answers.CallError.{CallError}
use Rattle.turn_session_book.specs.declared.answers.CallError.TheVariants as Errors
use Rattle.turn_session_book.specs.declared.answers.Outcome.{Outcome}
use Rattle.turn_session_book.specs.declared.answers.Outcome.TheVariants as Outcomes
use Rattle.turn_session_book.specs.declared.causes.Why.{Why}
use Rattle.turn_session_book.specs.declared.keys.Key.{Key}
use Rattle.turn_relay_tries.specs.Wanted.{counts_at, is_restored, next_key, outcome_of}
use Rattle.turn_relay_tries.specs.declared.wanted.Doubt.{Doubt}
use Rattle.turn_relay.specs.Next.{OpenFails}
use Rattle.turn_relay.specs.RelayState.{RelayState}
use Rattle.turn_relay.specs.Restoring.{AskingFails, Asks, AsksUsed, Restores, RestoresBy, RestoresKey, answered_step, doubt_in, doubt_of}
use Rattle.turn_relay.specs.Restoring.{doubted_or_settled, outcome_step}
use Rattle.turn_relay.specs.Restoring.{is_restoring_in, refused_step, settle_step, some_due, up_step}
use Rattle.turn_relay.specs.declared.due.RelayDue.{RelayDue}

-- ---- the step

module _ (now : ℕ) (was r : RelayState) where
  pub restores-doubt : (key : Key) (doubt : Doubt) (due : RelayDue) → doubt_of (counts_at now was.wanted) ≡ Some (key, doubt)
      → (due, r) ≡ settle_step key (outcome_of doubt.answer) now was → Restores now was r (Some due)
  restores-doubt key doubt due counts same = rw counts (ap some_due same)

  pub restores-key : (key : Key) (due : RelayDue) → doubt_of (counts_at now was.wanted) ≡ None → next_key was.wanted ≡ Some key
      → Asks key now was r due → Restores now was r (Some due)
  restores-key key due none next asks = rw (none, next) (due, refl, asks)

  pub restores-none : (result : Option RelayDue) → doubt_of (counts_at now was.wanted) ≡ None → next_key was.wanted ≡ None
      → (result, r) ≡ up_step now was → Restores now was r result
  restores-none result none next same = rw (none, next) same

  pub open-fails : (key : Key) → next_key was.wanted ≡ Some key → AskingFails key now was r → OpenFails now was r
  open-fails key next fails = inr (key, next, fails)

-- what the exit of a `?` leaves
pub on-error : {T E P : Type 0} (r : Result T E) → P → OnErr r P
on-error (Ok x) p = tt
on-error (Err e) p = p

-- ---- nothing to do

up-none : (is_ready : Bool) (due : RelayDue) (up was t : RelayState)
    → ◌≡◌ {A = Option RelayDue × RelayState} (None, t) (if is_ready then (Some due, up) else (None, was)) → t ≡ was
up-none true due up was t same = absurd (none-some _ (ap (λ s. s.0) same))
up-none false due up was t same = ap (λ s. s.1) same

key-none : (next : Option Key) (now : ℕ) (was t : RelayState) → RestoresKey next now was t None → t ≡ was
key-none (Some key) now was t asked = absurd (none-some _ asked.1)
key-none None now was t same = up-none (is_restoring_in was.plan.course.phase && is_restored was.wanted) _ _ was t same

by-none : (counts : Option (Key × Doubt)) (now : ℕ) (was t : RelayState) → RestoresBy counts now was t None → t ≡ was
by-none (Some (key, doubt)) now was t same = absurd (none-some _ (ap (λ s. s.0) same))
by-none None now was t same = key-none (next_key was.wanted) now was t same

-- then nothing has changed
pub nothing-restored : (now : ℕ) (was t : RelayState) → Restores now was t None → t ≡ was
nothing-restored now was t restores = by-none (doubt_of (counts_at now was.wanted)) now was t restores

-- ---- a request

module _ (key : Key) (now : ℕ) (was t r : RelayState) (answer : Answer) where
  pub asks : (due : RelayDue) → AsksUsed key now was t answer → answered_step key answer now t ≡ Some (due, r) → Asks key now was r due
  asks due used answered = (t, answer, used, answered)

  pub asking-fails : AsksUsed key now was t answer → answer ≡ Answers.Refused Errors.OutOfMemory → r ≡ t → AskingFails key now was r
  asking-fails used refused same =
      subst (λ (s : RelayState). AsksUsed key now was s (Answers.Refused Errors.OutOfMemory)) (sym same)
      (subst (λ (a : Answer). AsksUsed key now was t a) refused used)

-- the session refuses it by its client
pub refused-settled : (key : Key) (error : CallError) (now : ℕ) (r : RelayState) → (error ≡ Errors.OutOfMemory → ⊥)
    → refused_step key error now r ≡ Some (settle_step key (Outcomes.NotMade error) now r)
refused-settled key Errors.NoAllocation now r other = refl
refused-settled key Errors.NoPermission now r other = refl
refused-settled key Errors.AlreadyExists now r other = refl
refused-settled key (Errors.Reserved until) now r other = refl
refused-settled key Errors.NotGranted now r other = refl
refused-settled key Errors.OutOfMemory now r other = absurd (other refl)

-- ---- an outcome

-- one that is no end of the session
pub outcome-counts : (key : Key) (outcome : Outcome) (now : ℕ) (r : RelayState) → ((why : Why) → outcome ≡ Outcomes.Ended why → ⊥)
    → outcome_step key outcome now r ≡ doubted_or_settled (doubt_in r.settings.reopen outcome) key outcome now r
outcome-counts key Outcomes.Granted now r other = refl
outcome-counts key (Outcomes.Refused error) now r other = refl
outcome-counts key (Outcomes.TimedOut error) now r other = refl
outcome-counts key (Outcomes.NotMade error) now r other = refl
outcome-counts key (Outcomes.NotOpened tag) now r other = refl
outcome-counts key Outcomes.NotBound now r other = refl
outcome-counts key (Outcomes.Ended why) now r other = absurd (other why refl)
