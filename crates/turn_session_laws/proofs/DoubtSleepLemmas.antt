-- Before their time doubts of the allocation do nothing.
use Rattle.std.proofs.Common.{◌≡◌, ◌∙◌, ◌⊎◌, ℕ, ◌<◌, Bool, true, false, if◌then◌else◌, Option, Some, None, refl, sym, ap, subst, inl, inr, ltb}
use Rattle.std.proofs.lemmas.Bool.{cases_Bool, lt-ltb}
use Rattle.turn_session_book.specs.declared.causes.Why.TheVariants.{CredentialsRefused, Unanswered}
use Rattle.turn_session_path.specs.Credentials.{credentials_step}
use Rattle.turn_session_path.specs.PathDue.{IsLater, sooner}
use Rattle.turn_session_path.specs.Suspicion.{check_time, suspicion_step}
use Rattle.turn_session_path.specs.declared.suspicion.DoubtStep.{DoubtStep}
use Rattle.turn_session_path.specs.declared.suspicion.DoubtStep.TheVariants as Suspecting
use Rattle.turn_session_path.specs.declared.suspicion.Suspicion.{Suspicion}
use Rattle.turn_session_life.specs.Doubts.{doubts_polled, doubts_step, later_step, suspicion_polled}
use Rattle.turn_session_life.specs.declared.doubts.Doubts.{Doubts}
use Rattle.turn_session_life.specs.declared.doubts.DoubtsStep.{DoubtsStep}
use Rattle.turn_session_life.specs.declared.doubts.DoubtsStep.TheVariants as Doubting
use Rattle.turn_session_laws.specs.SleepLaws.{doubts_wait}
use Rattle.turn_session_laws.proofs.PathSleepLemmas.{sooner-parts}

-- ---- checks of the allocation

abbrev suspicion_waits : Option ℕ → DoubtStep
suspicion_waits None = Suspecting.Idle
suspicion_waits (Some time) = Suspecting.WaitUntil time

-- when something is due
abbrev suspicion_due : Suspicion → Option ℕ
suspicion_due s = by s.deadline
  where
    by : Option ℕ → Option ℕ
    by (Some deadline) = Some deadline
    by None = if s.is_due then Some (check_time s) else None

-- before that it waits
suspicion-sleeps : (now : ℕ) (s : Suspicion) → IsLater now (suspicion_due s) → suspicion_step now s ≡ (suspicion_waits (suspicion_due s), s)
suspicion-sleeps now s later = by s.deadline refl
  where
    by : (deadline : Option ℕ) → s.deadline ≡ deadline → suspicion_step now s ≡ (suspicion_waits (suspicion_due s), s)
    by (Some deadline) is = let before : now < deadline = rw is at later in rw (is, lt-ltb now deadline before) refl
    by None is = elim (cases_Bool s.is_due) [
      | inl due ↦ let before : now < check_time s = rw (is, due) at later in rw (is, due, lt-ltb now (check_time s) before) refl
      | inr undue ↦ rw (is, undue) refl
    ]

-- and otherwise it asks the server, or it is to end
suspicion-cases : (now : ℕ) (s : Suspicion) → (suspicion_step now s ≡ (suspicion_waits (suspicion_due s), s))
    ⊎ (((suspicion_step now s).0 ≡ Suspecting.Ask) ⊎ ((suspicion_step now s).0 ≡ Suspecting.Unanswered))
suspicion-cases now s = by s.deadline refl
  where
    by : (deadline : Option ℕ) → s.deadline ≡ deadline → (suspicion_step now s ≡ (suspicion_waits (suspicion_due s), s))
        ⊎ (((suspicion_step now s).0 ≡ Suspecting.Ask) ⊎ ((suspicion_step now s).0 ≡ Suspecting.Unanswered))
    by (Some deadline) is = elim (cases_Bool (ltb now deadline)) [
      | inl early ↦ inl (rw (is, early) refl)
      | inr late ↦ elim (cases_Bool (ltb s.unanswered 2)) [
        | inl few ↦ inr (inl (rw (is, late, few) refl))
        | inr three ↦ inr (inr (rw (is, late, three) refl))
      ]
    ]
    by None is = elim (cases_Bool s.is_due) [
      | inr undue ↦ inl (rw (is, undue) refl)
      | inl due ↦ elim (cases_Bool (ltb now (check_time s))) [
        | inl early ↦ inl (rw (is, due, early) refl)
        | inr late ↦ inr (inl (rw (is, due, late) refl))
      ]
    ]

-- ---- with the credentials

abbrev polled_by : Option ℕ → DoubtStep × Suspicion → Doubts → DoubtsStep × Doubts
polled_by grace (Suspecting.Ask, after) d = (Doubting.Ask, record d { suspicion = after; is_asking = true })
polled_by grace (Suspecting.WaitUntil time, after) d = (later_step grace (Some time), record d { suspicion = after })
polled_by grace (Suspecting.Idle, after) d = (later_step grace None, record d { suspicion = after })
polled_by grace (Suspecting.Unanswered, after) d = (Doubting.End (Unanswered 3), record d { suspicion = after })

polled-is : (grace : Option ℕ) (now : ℕ) (d : Doubts) (x : DoubtStep × Suspicion) → suspicion_step now d.suspicion ≡ x
    → suspicion_polled grace now d ≡ polled_by grace x d
polled-is grace now d (Suspecting.Ask, after) is = rw is refl
polled-is grace now d (Suspecting.WaitUntil time, after) is = rw is refl
polled-is grace now d (Suspecting.Idle, after) is = rw is refl
polled-is grace now d (Suspecting.Unanswered, after) is = rw is refl

polled-waits : (grace due : Option ℕ) (d : Doubts) → polled_by grace (suspicion_waits due, d.suspicion) d ≡ (doubts_wait (sooner grace due), d)
polled-waits None None d = refl
polled-waits None (Some time) d = refl
polled-waits (Some grace) None d = refl
polled-waits (Some grace) (Some time) d = refl

-- it waits only if it does nothing
abbrev acts : DoubtsStep → Bool
acts (Doubting.WaitUntil time) = false
acts Doubting.Idle = false
acts _ = true

waits-rest : (time : Option ℕ) → acts (doubts_wait time) ≡ false
waits-rest None = refl
waits-rest (Some time) = refl

no-act : (step : DoubtsStep) (time : Option ℕ) → acts step ≡ true → step ≡ doubts_wait time → ⊥
no-act step time act is = let no : true ≡ false = sym act ∙ ap acts is ∙ waits-rest time in cc

same-wait : (a b : Option ℕ) → doubts_wait a ≡ doubts_wait b → a ≡ b
same-wait None None is = refl
same-wait None (Some b) is = cc
same-wait (Some a) None is = cc
same-wait (Some a) (Some b) is = cc

abbrev step_of : DoubtsStep × Doubts → DoubtsStep
step_of x = x.0

abbrev doubts_of : DoubtsStep × Doubts → Doubts
doubts_of x = x.1

-- nothing has changed, and this is the time at which something is due
abbrev Waits : Option ℕ → Option ℕ → Doubts → Doubts → Type 0
Waits grace time d e = (e ≡ d) × (time ≡ sooner grace (suspicion_due d.suspicion))

suspicion-told : (grace : Option ℕ) (now : ℕ) (time : Option ℕ) (d e : Doubts) → suspicion_polled grace now d ≡ (doubts_wait time, e) → Waits grace time d e
suspicion-told grace now time d e told =
    let after = (suspicion_step now d.suspicion).1 in
    elim (suspicion-cases now d.suspicion) [
      | inl waits ↦
          let due = suspicion_due d.suspicion in
          let all : (doubts_wait time, e) ≡ (doubts_wait (sooner grace due), d)
          = sym told ∙ polled-is grace now d (suspicion_waits due, d.suspicion) waits ∙ polled-waits grace due d in
          (ap doubts_of all, same-wait time (sooner grace due) (ap step_of all))
      | inr acting ↦ elim acting [
        | inl asks ↦
            let is = polled-is grace now d (Suspecting.Ask, after) (ap (λ (step : DoubtStep). (step, after)) asks) in
            absurd (no-act Doubting.Ask time refl (ap step_of (sym is ∙ told)))
        | inr ends ↦
            let is = polled-is grace now d (Suspecting.Unanswered, after) (ap (λ (step : DoubtStep). (step, after)) ends) in
            absurd (no-act (Doubting.End (Unanswered 3)) time refl (ap step_of (sym is ∙ told)))
      ]
    ]

polled-told : (now : ℕ) (time grace : Option ℕ) (was d : Doubts) → was.credentials.grace ≡ grace
    → doubts_polled now (credentials_step now grace) was ≡ (doubts_wait time, d) → Waits grace time was d
polled-told now time None was d is told = suspicion-told None now time was d told
polled-told now time (Some grace) was d is told = elim (cases_Bool (ltb now grace)) [
  | inl early ↦ suspicion-told (Some grace) now time was d (rw early at told)
  | inr late ↦
      let ends : (Doubting.End CredentialsRefused, was) ≡ (doubts_wait time, d) = rw late at told in
      absurd (no-act (Doubting.End CredentialsRefused) time refl (ap step_of ends))
]

doubts-told : (now : ℕ) (time : Option ℕ) (was d : Doubts) (asking : Bool) → was.is_asking ≡ asking
    → (if asking then (Doubting.Ask, was) else doubts_polled now (credentials_step now was.credentials.grace) was) ≡ (doubts_wait time, d)
    → (asking ≡ false) × Waits was.credentials.grace time was d
doubts-told now time was d true is told = absurd (no-act Doubting.Ask time refl (ap step_of told))
doubts-told now time was d false is told = (refl, polled-told now time was.credentials.grace was d refl told)

-- polled again, it waits
polled-sleeps : (later : ℕ) (grace : Option ℕ) (d : Doubts) → IsLater later (sooner grace (suspicion_due d.suspicion))
    → doubts_polled later (credentials_step later grace) d ≡ (doubts_wait (sooner grace (suspicion_due d.suspicion)), d)
polled-sleeps later None d is_later =
    let due = suspicion_due d.suspicion in
    polled-is None later d (suspicion_waits due, d.suspicion) (suspicion-sleeps later d.suspicion is_later) ∙ polled-waits None due d
polled-sleeps later (Some grace) d is_later =
    let due = suspicion_due d.suspicion in
    let parts = sooner-parts later (Some grace) due is_later in
    let waits : doubts_polled later (credentials_step later (Some grace)) d ≡ suspicion_polled (Some grace) later d = rw (lt-ltb later grace parts.0) refl in
    waits ∙ polled-is (Some grace) later d (suspicion_waits due, d.suspicion) (suspicion-sleeps later d.suspicion parts.1) ∙ polled-waits (Some grace) due d

abbrev doubts_by : Bool → ℕ → Doubts → DoubtsStep × Doubts
doubts_by asking now d = if asking then (Doubting.Ask, d) else doubts_polled now (credentials_step now d.credentials.grace) d

pub doubts-sleep : (now later : ℕ) (time : Option ℕ) (was d : Doubts) → doubts_step now was ≡ (doubts_wait time, d) → IsLater later time
    → doubts_step later d ≡ (doubts_wait time, d)
doubts-sleep now later time was d told is_later =
    let parts = doubts-told now time was d was.is_asking refl told in
    let waits = parts.1 in
    let due = sooner was.credentials.grace (suspicion_due was.suspicion) in
    let sleeps : doubts_step later was ≡ (doubts_wait due, was)
    = ap (λ (b : Bool). doubts_by b later was) parts.0 ∙ polled-sleeps later was.credentials.grace was (subst (IsLater later) waits.1 is_later) in
    subst (λ (x : Doubts). doubts_step later x ≡ (doubts_wait time, x)) (sym waits.0)
    (sleeps ∙ ap (λ (t : Option ℕ). (doubts_wait t, was)) (sym waits.1))
