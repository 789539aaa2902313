-- A single failure is not the last.
use Rattle.std.proofs.Common.{◌≡◌, ◌∙◌, ℕ, ◌||◌, ◌&&◌, nat_lt, not, Bool, true, false, if◌then◌else◌, ap, arith, refl, subst, sym}
use Rattle.turn_relay_tries.specs.Failures.{after_failure, grown_if, has_final_code, has_wrong_credentials, is_last, is_over_quota}
use Rattle.turn_relay_tries.specs.declared.causes.Cause.{Cause}
use Rattle.turn_relay_course.specs.Course.{ends_in, failed_in, is_own_error}
use Rattle.turn_relay_course.specs.Laws.{NothingFailed, is_begun}
use Rattle.turn_relay_course.specs.declared.course.Course.{Course}
use Rattle.turn_relay_course.specs.declared.course.Phase.{Phase}
use Rattle.turn_relay_course.specs.declared.course.Phase.TheVariants as At
use Rattle.turn_relay_course.specs.declared.reopen.Reopen.{Reopen}
use Rattle.turn_relay_course.specs.declared.reopen.Reopen.TheVariants.{Always}

below-two : (is_one : Bool) → nat_lt (grown_if is_one 0) 2 ≡ true
below-two true = refl
below-two false = refl

below-three : (is_one : Bool) → nat_lt (grown_if is_one 0) 3 ≡ true
below-three true = refl
below-three false = refl

few : (is_one : Bool) (count : ℕ) → count ≡ 0 → nat_lt (grown_if is_one count) 2 ≡ true
few is_one count none = subst (λ (n : ℕ). nat_lt (grown_if is_one n) 2 ≡ true) (sym none) (below-two is_one)

few-quota : (is_one : Bool) (count : ℕ) → count ≡ 0 → nat_lt (grown_if is_one count) 3 ≡ true
few-quota is_one count none = subst (λ (n : ℕ). nat_lt (grown_if is_one n) 3 ≡ true) (sym none) (below-three is_one)

none-of : (a b q : Bool) → a ≡ true → b ≡ true → q ≡ true → (not a || not b || not q) ≡ false
none-of a b q ha hb hq =
    ap (λ (x : Bool). not x || not b || not q) ha
    ∙ ap (λ (x : Bool). not true || not x || not q) hb
    ∙ ap (λ (x : Bool). not true || not true || not x) hq

not-last : (c : Course) (cause : Cause) (now : ℕ) → NothingFailed c → is_last (after_failure cause now c.failures) ≡ false
not-last c cause now none =
    let wrong = has_wrong_credentials cause in
    let final = has_final_code cause in
    let quota = is_over_quota cause && not (nat_lt now c.failures.alive_until) in
    none-of (nat_lt (grown_if wrong c.failures.credentials) 2) (nat_lt (grown_if final c.failures.refused) 2) (nat_lt (grown_if quota c.failures.quota) 3)
    (few wrong c.failures.credentials none.credentials) (few final c.failures.refused none.refused) (few-quota quota c.failures.quota none.quota)

rests : (r : Reopen) (last : Bool) (cause : Cause) (c : Course) → r ≡ Always → last ≡ false → is_own_error cause ≡ false →
    (if is_own_error cause || ends_in r last c then At.Over cause else At.Resting) ≡ At.Resting
rests r last cause c always first other =
    ap (λ (x : Bool). if x || ends_in r last c then At.Over cause else At.Resting) other
    ∙ ap (λ (x : Reopen). if false || ends_in x last c then At.Over cause else At.Resting) always
    ∙ ap (λ (x : Bool). if false || x then At.Over cause else At.Resting) first

no-phase : false ≡ true → ⊥
no-phase h = grind (arith, h)

pub one-failure : (p : Phase) (c : Course) (cause : Cause) (now : ℕ) → NothingFailed c → c.reopen ≡ Always → is_own_error cause ≡ false →
    is_begun p ≡ true → (failed_in p cause now c).phase ≡ At.Resting
one-failure At.Resting c cause now none always other begun = absurd (no-phase begun)
one-failure At.Asking c cause now none always other begun = rests c.reopen _ cause c always (not-last c cause now none) other
one-failure (At.Trying until) c cause now none always other begun = rests c.reopen _ cause c always (not-last c cause now none) other
one-failure At.Restoring c cause now none always other begun = rests c.reopen _ cause c always (not-last c cause now none) other
one-failure (At.Up since) c cause now none always other begun = rests c.reopen _ cause c always (not-last c cause now none) other
one-failure (At.Over why) c cause now none always other begun = absurd (no-phase begun)
