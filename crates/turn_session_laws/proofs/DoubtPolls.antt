-- Doubts that are polled.
use Rattle.std.proofs.Common.{◌≡◌, ◌∙◌, ℕ, suc, ◌+◌, ◌≤◌, Bool, true, false, List, [], ◌∷◌, Option, Some, None, refl, sym, ap, subst, inl, inr, arith, ltb}
use Rattle.std.proofs.lemmas.Bool.{cases_Bool, ltb-false}
use Rattle.turn_session_book.specs.declared.causes.Why.TheVariants.{CredentialsRefused, Unanswered}
use Rattle.turn_session_path.specs.Credentials.{credentials_step}
use Rattle.turn_session_path.specs.Suspicion.{check_deadline, check_time, suspicion_step}
use Rattle.turn_session_path.specs.declared.suspicion.DoubtStep.{DoubtStep}
use Rattle.turn_session_path.specs.declared.suspicion.DoubtStep.TheVariants as Doubting
use Rattle.turn_session_path.specs.declared.suspicion.Suspicion.{Suspicion}
use Rattle.turn_session_life.specs.Doubts.{doubts_polled, doubts_step, later_step, suspicion_polled}
use Rattle.turn_session_life.specs.declared.doubts.Doubts.{Doubts}
use Rattle.turn_session_life.specs.declared.doubts.DoubtsStep.{DoubtsStep}
use Rattle.turn_session_life.specs.declared.doubts.DoubtsStep.TheVariants.{Ask, End}
use Rattle.turn_session_laws.specs.DoubtEnds.{AreUnanswered, DoubtsEndBy}
use Rattle.turn_session_laws.specs.PathEnds.{after}
use Rattle.turn_session_laws.specs.DoubtRuns.{DoubtCall, doubts_after}
use Rattle.turn_session_laws.specs.DoubtRuns.DoubtCall.{Doubted, Moved, Responded, Asked as WasAsked, Told, Polled}
use Rattle.turn_session_laws.proofs.DoubtHistory.{IsHistory, asked, doubted, goes-on, heard, moved, told}
use Rattle.turn_session_laws.proofs.DoubtSilence.{HasGrace, Questions, fewer, questions-go_on}

-- if they are to end, there is a cause
abbrev pub EndsByCause : Bool → ℕ → List DoubtCall → DoubtsStep → Type 0
EndsByCause checks now before (End why) = DoubtsEndBy checks why now before
EndsByCause checks now before _ = Unit {0}

-- ---- checks of the allocation

-- what the suspicion asks, the doubts ask
abbrev IsAsked : Bool → ℕ → List DoubtCall → DoubtStep → Type 0
IsAsked checks now before step = step ≡ Doubting.Ask → (doubts_step now (doubts_after checks before)).0 ≡ Ask

abbrev EndsUnanswered : Bool → ℕ → List DoubtCall → DoubtStep → Type 0
EndsUnanswered checks now before Doubting.Unanswered = DoubtsEndBy checks (Unanswered 3) now before
EndsUnanswered checks now before _ = Unit {0}

abbrev SuspicionAfter : Bool → ℕ → List DoubtCall → DoubtStep × Suspicion → Type 0
SuspicionAfter checks now before x =
    EndsUnanswered checks now before x.0 × Questions checks x.1.deadline x.1.unanswered (Polled now ∷ before)

none-under_way : (checks : Bool) (now : ℕ) (before : List DoubtCall) (s : Suspicion) → IsAsked checks now before (suspicion_step now s).0
    → s.deadline ≡ None → SuspicionAfter checks now before (suspicion_step now s)
none-under_way checks now before s asks is = elim (cases_Bool s.is_due) [
  | inr undue ↦
      let same : suspicion_step now s ≡ (Doubting.Idle, s) = rw (is, undue) refl in
      subst (SuspicionAfter checks now before) (sym same) (tt, rw is tt)
  | inl due ↦ elim (cases_Bool (ltb now (check_time s))) [
    | inl early ↦
        let same : suspicion_step now s ≡ (Doubting.WaitUntil (check_time s), s) = rw (is, due, early) refl in
        subst (SuspicionAfter checks now before) (sym same) (tt, rw is tt)
    | inr now_due ↦
        let begun : Suspicion = record s { is_due = false; unanswered = 0; deadline = Some (check_deadline now) } in
        let same : suspicion_step now s ≡ (Doubting.Ask, begun) = rw (is, due, now_due) refl in
        let ask = asks (ap (λ (x : DoubtStep × Suspicion). x.0) same) in
        subst (SuspicionAfter checks now before) (sym same) (tt, (now, refl, inr (refl, ask)))
  ]
]

one-under_way : (checks : Bool) (now : ℕ) (before : List DoubtCall) (s : Suspicion) (deadline : ℕ) → IsAsked checks now before (suspicion_step now s).0
    → s.deadline ≡ Some deadline → Questions checks (Some deadline) s.unanswered before → SuspicionAfter checks now before (suspicion_step now s)
one-under_way checks now before s deadline asks is h = elim (cases_Bool (ltb now deadline)) [
  | inl early ↦
      let same : suspicion_step now s ≡ (Doubting.WaitUntil deadline, s) = rw (is, early) refl in
      subst (SuspicionAfter checks now before) (sym same) (tt, rw is (questions-go_on checks (Some deadline) s.unanswered (Polled now) before refl h))
  | inr late ↦
      let over : after 3_000_000_000 h.0 ≤ now = let past = ltb-false now deadline late in let since = h.1 in omega arith in
      elim (cases_Bool (ltb s.unanswered 2)) [
        | inl few ↦
            let next : Suspicion = record s { unanswered = s.unanswered + 1; deadline = Some (check_deadline now) } in
            let same : suspicion_step now s ≡ (Doubting.Ask, next) = rw (is, late, few) refl in
            let ask = asks (ap (λ (x : DoubtStep × Suspicion). x.0) same) in
            let more : AreUnanswered checks (suc s.unanswered) now (Polled now ∷ before) = inr ((refl, ask), h.0, over, h.2) in
            let counted : suc s.unanswered ≡ s.unanswered + 1 = omega arith in
            subst (SuspicionAfter checks now before) (sym same)
            (tt, (now, refl, subst (λ (n : ℕ). AreUnanswered checks n now (Polled now ∷ before)) counted more))
        | inr three ↦
            let same : suspicion_step now s ≡ (Doubting.Unanswered, s) = rw (is, late, three) refl in
            let two = fewer checks s.unanswered 2 h.0 before (ltb-false s.unanswered 2 three) h.2 in
            subst (SuspicionAfter checks now before) (sym same)
            ((refl, h.0, over, two), rw is (questions-go_on checks (Some deadline) s.unanswered (Polled now) before refl h))
      ]
]

suspected : (checks : Bool) (now : ℕ) (before : List DoubtCall) (s : Suspicion) (deadline : Option ℕ) → IsAsked checks now before (suspicion_step now s).0
    → s.deadline ≡ deadline → Questions checks deadline s.unanswered before → SuspicionAfter checks now before (suspicion_step now s)
suspected checks now before s None asks is h = none-under_way checks now before s asks is
suspected checks now before s (Some deadline) asks is h = one-under_way checks now before s deadline asks is h

-- ---- both

abbrev Whole : Bool → ℕ → List DoubtCall → DoubtsStep × Doubts → Type 0
Whole checks now before x = EndsByCause checks now before x.0 × IsHistory checks x.1 (Polled now ∷ before)

-- a time to wait for is no end
later-ends : (checks : Bool) (now : ℕ) (before : List DoubtCall) (grace time : Option ℕ) → EndsByCause checks now before (later_step grace time)
later-ends checks now before None None = tt
later-ends checks now before None (Some time) = tt
later-ends checks now before (Some grace) None = tt
later-ends checks now before (Some grace) (Some time) = tt

abbrev polled_by : Option ℕ → DoubtStep × Suspicion → Doubts → DoubtsStep × Doubts
polled_by grace (Doubting.Ask, after) d = (Ask, record d { suspicion = after; is_asking = true })
polled_by grace (Doubting.WaitUntil time, after) d = (later_step grace (Some time), record d { suspicion = after })
polled_by grace (Doubting.Idle, after) d = (later_step grace None, record d { suspicion = after })
polled_by grace (Doubting.Unanswered, after) d = (End (Unanswered 3), record d { suspicion = after })

history-with : (checks : Bool) (now : ℕ) (before : List DoubtCall) (d e : Doubts) → e.credentials ≡ d.credentials
    → Questions checks e.suspicion.deadline e.suspicion.unanswered (Polled now ∷ before) → IsHistory checks d before
    → IsHistory checks e (Polled now ∷ before)
history-with checks now before d e same questions h =
    let on = goes-on checks (Polled now) d before refl refl h in
    record { questions = questions; refused = rw same on.refused; grace = rw same on.grace }

polled_by-whole : (checks : Bool) (now : ℕ) (before : List DoubtCall) (grace : Option ℕ) (x : DoubtStep × Suspicion) (d : Doubts)
    → SuspicionAfter checks now before x → IsHistory checks d before → Whole checks now before (polled_by grace x d)
polled_by-whole checks now before grace (Doubting.Ask, after) d s h = (tt, history-with checks now before d _ refl s.1 h)
polled_by-whole checks now before grace (Doubting.WaitUntil time, after) d s h =
    (later-ends checks now before grace (Some time), history-with checks now before d _ refl s.1 h)
polled_by-whole checks now before grace (Doubting.Idle, after) d s h =
    (later-ends checks now before grace None, history-with checks now before d _ refl s.1 h)
polled_by-whole checks now before grace (Doubting.Unanswered, after) d s h = (s.0, history-with checks now before d _ refl s.1 h)

polled-is : (grace : Option ℕ) (now : ℕ) (d : Doubts) (x : DoubtStep × Suspicion) → suspicion_step now d.suspicion ≡ x
    → suspicion_polled grace now d ≡ polled_by grace x d
polled-is grace now d (Doubting.Ask, after) is = rw is refl
polled-is grace now d (Doubting.WaitUntil time, after) is = rw is refl
polled-is grace now d (Doubting.Idle, after) is = rw is refl
polled-is grace now d (Doubting.Unanswered, after) is = rw is refl

-- what is asked for in the end
asked-is : (grace : Option ℕ) (x : DoubtStep × Suspicion) (d : Doubts) → x.0 ≡ Doubting.Ask → (polled_by grace x d).0 ≡ Ask
asked-is grace (Doubting.Ask, after) d is = refl
asked-is grace (Doubting.WaitUntil time, after) d is = cc
asked-is grace (Doubting.Idle, after) d is = cc
asked-is grace (Doubting.Unanswered, after) d is = cc

suspicion-whole : (checks : Bool) (now : ℕ) (before : List DoubtCall) (grace : Option ℕ)
    → doubts_step now (doubts_after checks before) ≡ suspicion_polled grace now (doubts_after checks before)
    → IsHistory checks (doubts_after checks before) before → Whole checks now before (doubts_step now (doubts_after checks before))
suspicion-whole checks now before grace is h =
    let d = doubts_after checks before in
    let x = suspicion_step now d.suspicion in
    let all : doubts_step now d ≡ polled_by grace x d = rw (← polled-is grace now d x refl) is in
    let asks : IsAsked checks now before x.0
    = λ ask. subst (λ (y : DoubtsStep × Doubts). y.0 ≡ Ask) (sym all) (asked-is grace x d ask) in
    subst (Whole checks now before) (sym all)
    (polled_by-whole checks now before grace x d (suspected checks now before d.suspicion d.suspicion.deadline asks refl h.questions) h)

-- user name and password come first
polled-whole : (checks : Bool) (now : ℕ) (before : List DoubtCall) (grace : Option ℕ) → (doubts_after checks before).credentials.grace ≡ grace
    → doubts_step now (doubts_after checks before) ≡ doubts_polled now (credentials_step now (doubts_after checks before).credentials.grace) (doubts_after checks before)
    → IsHistory checks (doubts_after checks before) before → HasGrace grace before → Whole checks now before (doubts_step now (doubts_after checks before))
polled-whole checks now before None is all h g =
    let d = doubts_after checks before in
    suspicion-whole checks now before None (all ∙ ap (λ (grace : Option ℕ). doubts_polled now (credentials_step now grace) d) is) h
polled-whole checks now before (Some grace) is all h g =
    let d = doubts_after checks before in
    let by-grace : doubts_step now d ≡ doubts_polled now (credentials_step now (Some grace)) d
    = all ∙ ap (λ (given : Option ℕ). doubts_polled now (credentials_step now given) d) is in
    elim (cases_Bool (ltb now grace)) [
      | inl early ↦
          let waits : doubts_polled now (credentials_step now (Some grace)) d ≡ suspicion_polled (Some grace) now d = rw early refl in
          suspicion-whole checks now before (Some grace) (by-grace ∙ waits) h
      | inr late ↦
          let ends : doubts_polled now (credentials_step now (Some grace)) d ≡ (End CredentialsRefused, d) = rw late refl in
          let over : after 1_000_000_000 g.0 ≤ now = let past = ltb-false now grace late in let since = g.1 in omega arith in
          subst (Whole checks now before) (sym (by-grace ∙ ends)) ((g.0, over, g.2), goes-on checks (Polled now) d before refl refl h)
    ]

polled : (checks : Bool) (now : ℕ) (before : List DoubtCall) → IsHistory checks (doubts_after checks before) before
    → Whole checks now before (doubts_step now (doubts_after checks before))
polled checks now before h = let d = doubts_after checks before in elim (cases_Bool d.is_asking) [
  | inl asking ↦
      let same : doubts_step now d ≡ (Ask, d) = rw asking refl in
      subst (Whole checks now before) (sym same) (tt, goes-on checks (Polled now) d before refl refl h)
  | inr idle ↦
      let all : doubts_step now d ≡ doubts_polled now (credentials_step now d.credentials.grace) d = rw idle refl in
      polled-whole checks now before d.credentials.grace refl all h h.grace
]

-- ---- a run

call-history : (checks : Bool) (call : DoubtCall) (before : List DoubtCall)
    → IsHistory checks (doubts_after checks before) before → IsHistory checks (doubts_after checks (call ∷ before)) (call ∷ before)
call-history checks Doubted before h = doubted checks (doubts_after checks before) before h
call-history checks Moved before h = moved checks (doubts_after checks before) before h
call-history checks (Responded r now) before h = heard checks r now (doubts_after checks before) before h
call-history checks (WasAsked asking) before h = asked checks asking (doubts_after checks before) before h
call-history checks (Told error now) before h = told checks error now (doubts_after checks before) before h
call-history checks (Polled now) before h = (polled checks now before h).1

run-history : (checks : Bool) (before : List DoubtCall) → IsHistory checks (doubts_after checks before) before
run-history checks [] = record { questions = tt; refused = tt; grace = tt }
run-history checks (call ∷ before) = call-history checks call before (run-history checks before)

pub end-cause : (checks : Bool) (now : ℕ) (before : List DoubtCall) → EndsByCause checks now before (doubts_step now (doubts_after checks before)).0
end-cause checks now before = (polled checks now before (run-history checks before)).0
