-- Checks of an allocation without an answer, and refusals that nobody signed.
use Rattle.std.proofs.Common.{◌≡◌, ℕ, zero, suc, ◌≤◌, Bool, true, false, List, [], ◌∷◌, Option, Some, None, subst, inl, inr, arith, ltb}
use Rattle.std.proofs.lemmas.Bool.{cases_Bool, ltb-false, ltb-true}
use Rattle.turn_session_laws.specs.DoubtEnds.{AreRefusals, AreUnanswered}
use Rattle.turn_session_laws.specs.PathEnds.{after}
use Rattle.turn_session_laws.specs.DoubtRuns.{DoubtCall, is_known, is_signed}

-- ---- fewer checks

-- without the first
one-less : (checks : Bool) (n began : ℕ) (before : List DoubtCall) → AreUnanswered checks (suc n) began before → AreUnanswered checks n began before
one-less checks n began [] h = absurd h
one-less checks zero began (call ∷ before) (inl x) = inl (x.0, one-less checks zero began before x.1)
one-less checks zero began (call ∷ before) (inr x) = inr x.0
one-less checks (suc n) began (call ∷ before) (inl x) = inl (x.0, one-less checks (suc n) began before x.1)
one-less checks (suc n) began (call ∷ before) (inr x) = inr (x.0, x.1, x.2, one-less checks n x.1 before x.3)

pub fewer : (checks : Bool) (m n began : ℕ) (before : List DoubtCall) → n ≤ m → AreUnanswered checks m began before → AreUnanswered checks n began before
fewer checks zero n began before le h = subst (λ (k : ℕ). AreUnanswered checks k began before) (omega arith) h
fewer checks (suc m) n began before le h = elim (cases_Bool (ltb m n)) [
  | inl above ↦
      let same : suc m ≡ n = let more = ltb-true m n above in omega arith in subst (λ (k : ℕ). AreUnanswered checks k began before) same h
  | inr below ↦ fewer checks m n began before (ltb-false m n below) (one-less checks m began before h)
]

-- ---- a call that answers none

goes-on : (checks : Bool) (n began : ℕ) (call : DoubtCall) (before : List DoubtCall) → is_known call ≡ false
    → AreUnanswered checks n began before → AreUnanswered checks n began (call ∷ before)
goes-on checks zero began call before unknown h = inl (unknown, h)
goes-on checks (suc n) began call before unknown h = inl (unknown, h)

-- a check is under way until this time, and so many before it had no answer
abbrev pub Questions : Bool → Option ℕ → ℕ → List DoubtCall → Type 0
Questions checks None n before = Unit {0}
Questions checks (Some deadline) n before =
    (began : ℕ) × (after 3_000_000_000 began ≡ deadline) × AreUnanswered checks n began before

pub questions-go_on : (checks : Bool) (deadline : Option ℕ) (n : ℕ) (call : DoubtCall) (before : List DoubtCall) → is_known call ≡ false
    → Questions checks deadline n before → Questions checks deadline n (call ∷ before)
questions-go_on checks None n call before unknown h = tt
questions-go_on checks (Some deadline) n call before unknown h = (h.0, h.1, goes-on checks n h.0 call before unknown h.2)

-- ---- refusals

refused-on : (n at : ℕ) (call : DoubtCall) (before : List DoubtCall) → is_signed call ≡ false → AreRefusals n at before → AreRefusals n at (call ∷ before)
refused-on zero at call before unsigned h = (unsigned, inl h)
refused-on (suc n) at call before unsigned h = (unsigned, inl h)

-- one was noted
abbrev pub IsRefused : Bool → List DoubtCall → Type 0
IsRefused true before = (at : ℕ) × AreRefusals 0 at before
IsRefused false before = Unit {0}

-- and a second one, which this time follows
abbrev pub HasGrace : Option ℕ → List DoubtCall → Type 0
HasGrace None before = Unit {0}
HasGrace (Some grace) before = (at : ℕ) × (after 1_000_000_000 at ≡ grace) × AreRefusals 1 at before

pub refusal-goes_on : (is_refused : Bool) (call : DoubtCall) (before : List DoubtCall) → is_signed call ≡ false
    → IsRefused is_refused before → IsRefused is_refused (call ∷ before)
refusal-goes_on true call before unsigned h = (h.0, refused-on 0 h.0 call before unsigned h.1)
refusal-goes_on false call before unsigned h = tt

pub grace-goes_on : (grace : Option ℕ) (call : DoubtCall) (before : List DoubtCall) → is_signed call ≡ false
    → HasGrace grace before → HasGrace grace (call ∷ before)
grace-goes_on None call before unsigned h = tt
grace-goes_on (Some grace) call before unsigned h = (h.0, h.1, refused-on 1 h.0 call before unsigned h.2)
