-- A course that has nothing to do, and one that goes on.
use Rattle.std.proofs.Common.{◌≡◌, ℕ, ◌<◌, ◌&&◌, nat_lt, not, Bool, true, false, if◌then◌else◌, Some, None, ap, arith, refl}
use Rattle.std.proofs.lemmas.Bool.{lt-ltb}
use Rattle.turn_relay_course.specs.Course.{begun_try, due_in, is_resting, late_in}
use Rattle.turn_relay_course.specs.declared.course.Course.{Course}
use Rattle.turn_relay_course.specs.declared.course.Phase.{Phase}
use Rattle.turn_relay_course.specs.declared.course.Phase.TheVariants as At

-- neither a try nor its end is due
pub record HasNothing (p : Phase) (due now : ℕ) : Type 0 where
  pub begins : (is_resting p && not (nat_lt now due)) ≡ false
  pub late : late_in p now ≡ false

before-time : (time due now : ℕ) → Some due ≡ Some time → now < time → not (nat_lt now due) ≡ false
before-time time due now is before = ap not (lt-ltb now due (grind (arith, is, before)))

pub nothing-before : (p : Phase) (c : Course) (time now : ℕ) → due_in p c ≡ Some time → now < time → HasNothing p c.tries.due now
nothing-before At.Resting c time now is before = record { begins = before-time time c.tries.due now is before; late = refl }
nothing-before At.Asking c time now is before = record { begins = refl; late = refl }
nothing-before (At.Trying (Some until)) c time now is before = record { begins = refl; late = before-time time until now is before }
nothing-before (At.Trying None) c time now is before = grind (arith, is)
nothing-before At.Restoring c time now is before = record { begins = refl; late = refl }
nothing-before (At.Up since) c time now is before = record { begins = refl; late = refl }
nothing-before (At.Over why) c time now is before = record { begins = refl; late = refl }

pub nothing-ever : (p : Phase) (c : Course) (now : ℕ) → due_in p c ≡ None → HasNothing p c.tries.due now
nothing-ever At.Resting c now is = grind (arith, is)
nothing-ever At.Asking c now is = record { begins = refl; late = refl }
nothing-ever (At.Trying (Some until)) c now is = grind (arith, is)
nothing-ever (At.Trying None) c now is = record { begins = refl; late = refl }
nothing-ever At.Restoring c now is = record { begins = refl; late = refl }
nothing-ever (At.Up since) c now is = record { begins = refl; late = refl }
nothing-ever (At.Over why) c now is = record { begins = refl; late = refl }

-- no try begins
abbrev pub begun_or : ℕ → Course → Bool → Bool × Course
begun_or now c is_due = if is_due then (true, begun_try now c) else (false, c)

pub none-begins : (is_due : Bool) (now : ℕ) (c : Course) → is_due ≡ false → begun_or now c is_due ≡ begun_or now c false
none-begins is_due now c is = ap (begun_or now c) is
