-- Before their time idle peers are not looked at.
use Rattle.std.proofs.Common.{◌≡◌, ◌∙◌, ℕ, ◌<◌, Bool, List, [], ◌∷◌, Option, Some, None, refl, sym, ap, subst, inl, inr, arith}
use Rattle.std.proofs.lemmas.Bool.{cases_Bool, lt-ltb}
use Rattle.std.proofs.lemmas.Option.{none-some}
use Rattle.std.specs.Prelude.{nat_lt}
use Rattle.std.specs.List.{find, position}
use Rattle.std.specs.Option.{option_map_or}
use Rattle.turn_session_book.proofs.FirstLemmas.{position-IsFirst, with_first-none}
use Rattle.turn_session_book.specs.declared.held.HeldGrant.{HeldGrant}
use Rattle.turn_session_idle.specs.IdlePeers.{after_look, done_state, due_step, idle_step, step_of}
use Rattle.turn_session_idle.specs.IdleState.{IdleState}
use Rattle.turn_session_idle.specs.Usage.{carried_out, is_due}
use Rattle.turn_session_idle.specs.declared.peers.IdleStep.{IdleStep}
use Rattle.turn_session_idle.specs.declared.peers.IdleStep.TheVariants as Idling
use Rattle.turn_session_idle.specs.declared.usage.Usage.{Usage}
use Rattle.turn_session_idle.specs.declared.usage.UsePhase.{UsePhase}
use Rattle.turn_session_idle.specs.declared.usage.UsePhase.TheVariants as Phases
use Rattle.turn_session_path.specs.PathDue.{IsLater}
use Rattle.turn_session_laws.specs.SleepLaws.{idle_waits}

-- ---- what waits has nothing to do

-- a grant that is to be released, or kept again, is no time to wait for
step-waits : (u : Usage) (phase : UsePhase) (time : Option ℕ) → step_of (record u { phase = phase }) ≡ idle_waits time → ⊥
step-waits u Phases.InUse None is = cc
step-waits u Phases.InUse (Some time) is = cc
step-waits u Phases.Idle None is = cc
step-waits u Phases.Idle (Some time) is = cc
step-waits u Phases.Released None is = cc
step-waits u Phases.Released (Some time) is = cc
step-waits u Phases.UsedAgain None is = cc
step-waits u Phases.UsedAgain (Some time) is = cc

same-time : (look : ℕ) (time : Option ℕ) → Idling.WaitUntil look ≡ idle_waits time → time ≡ Some look
same-time look None is = cc
same-time look (Some time) is = cc

none-due : (found : Option Usage) (look : ℕ) (time : Option ℕ) → option_map_or step_of found (Idling.WaitUntil look) ≡ idle_waits time
    → (found ≡ None) × (time ≡ Some look)
none-due None look time is = (refl, same-time look time is)
none-due (Some u) look time is = absurd (step-waits u u.phase time is)

none-first : (p : Usage → Bool) (us : List Usage) (place : Option ℕ) → position p us ≡ place → find p us ≡ None → position p us ≡ None
none-first p us None at none = at
none-first p [] (Some i) at none = let first : i < 0 = (position-IsFirst p [] i at).within in absurd (omega (arith, first))
none-first p (u ∷ us) (Some i) at none = absurd (none-some _ (sym none ∙ (position-IsFirst p (u ∷ us) i at).found u))

-- ---- until the next look

undone : (s : IdleState) → find is_due s.usages ≡ None → done_state s ≡ s
undone s none =
    ap (λ (us : List Usage). record s { usages = us })
    (with_first-none is_due carried_out s.usages (none-first is_due s.usages (position is_due s.usages) refl none))

unlooked : (idle later : ℕ) (others : List HeldGrant) (s : IdleState) → s.idle ≡ Some idle → find is_due s.usages ≡ None → later < s.look
    → idle_step others later s ≡ (Idling.WaitUntil s.look, s)
unlooked idle later others s on none before =
    let all : idle_step others later s ≡ (due_step s, done_state s) = rw (on, lt-ltb later s.look before) refl in
    let step : due_step s ≡ Idling.WaitUntil s.look = ap (λ (found : Option Usage). option_map_or step_of found (Idling.WaitUntil s.look)) none in
    all ∙ ap (λ (t : IdleState). (due_step s, t)) (undone s none) ∙ ap (λ (x : IdleStep). (x, s)) step

looked : (idle later : ℕ) (time : Option ℕ) (others : List HeldGrant) (t s : IdleState) → t.idle ≡ Some idle
    → ◌≡◌ {A = IdleStep × IdleState} (due_step t, done_state t) (idle_waits time, s) → IsLater later time → idle_step others later s ≡ (idle_waits time, s)
looked idle later time others t s on is before =
    let step : due_step t ≡ idle_waits time = ap (λ (x : IdleStep × IdleState). x.0) is in
    let none = none-due (find is_due t.usages) t.look time step in
    let same : t ≡ s = sym (undone t none.0) ∙ ap (λ (x : IdleStep × IdleState). x.1) is in
    let until : later < t.look = subst (IsLater later) none.1 before in
    let waits : idle_step others later t ≡ (idle_waits time, t)
    = unlooked idle later others t on none.0 until ∙ ap (λ (due : Option ℕ). (idle_waits due, t)) (sym none.1) in
    subst (λ (u : IdleState). idle_step others later u ≡ (idle_waits time, u)) same waits

never : (later : ℕ) (time : Option ℕ) (others : List HeldGrant) (was s : IdleState) → was.idle ≡ None
    → ◌≡◌ {A = IdleStep × IdleState} (Idling.Off, was) (idle_waits time, s) → idle_step others later s ≡ (idle_waits time, s)
never later time others was s off is =
    let still : idle_step others later was ≡ (Idling.Off, was) = rw off refl in
    let same : was ≡ s = ap (λ (x : IdleStep × IdleState). x.1) is in
    subst (λ (u : IdleState). idle_step others later u ≡ (Idling.Off, u)) same still ∙ ap (λ (x : IdleStep × IdleState). (x.0, s)) is

look-on : (granted : List HeldGrant) (idle now : ℕ) (was : IdleState) → (after_look granted idle now was).idle ≡ was.idle
look-on granted idle now was = elim (cases_Bool (nat_lt now was.look)) [
  | inl early ↦ rw early refl
  | inr due ↦ rw due refl
]

pub idle-sleeps : (now later : ℕ) (time : Option ℕ) (granted others : List HeldGrant) (was s : IdleState)
    → idle_step granted now was ≡ (idle_waits time, s) → IsLater later time → idle_step others later s ≡ (idle_waits time, s)
idle-sleeps now later time granted others was s is before = by was.idle refl
  where
    by : (idle : Option ℕ) → was.idle ≡ idle → idle_step others later s ≡ (idle_waits time, s)
    by None off =
        let first : idle_step granted now was ≡ (Idling.Off, was) = rw off refl in never later time others was s off (sym first ∙ is)
    by (Some idle) on =
        let t = after_look granted idle now was in
        let first : idle_step granted now was ≡ (due_step t, done_state t) = rw on refl in
        looked idle later time others t s (look-on granted idle now was ∙ on) (sym first ∙ is) before
