-- Once nothing is to be done on the path, what is due next is later.
use Rattle.std.proofs.Common.{◌≡◌, ℕ, ◌+◌, ◌-◌, ◌^◌, ◌<◌, min, Some, None, refl, sym, ap, ◌∙◌, subst, inl, inr, arith, ltb}
use Rattle.std.specs.Prelude.{Option, ◌⊎◌}
use Rattle.std.proofs.lemmas.Bool.{cases_Bool, ltb-true}
use Rattle.turn_session_path.specs.Asked.{asked_with}
use Rattle.turn_session_path.specs.PathDue.{IsLater, check_due, errors_due, full_due, path_due, probe_due, sooner}
use Rattle.turn_session_path.specs.PathPoll.{begin_step, begun_step, check_task, counts, end_step, error_request_task, errors_task, full_task, or_else, path_step, probe_task, round_task}
use Rattle.turn_session_path.specs.Probes.{after_silence}
use Rattle.turn_session_path.specs.Rounds.{due_time}
use Rattle.turn_session_path.specs.SocketErrors.{run_until}
use Rattle.turn_session_path.specs.declared.asked.Asked.{Asked}
use Rattle.turn_session_path.specs.declared.path.ErrorRequest.{ErrorRequest}
use Rattle.turn_session_path.specs.declared.path.ErrorRequest.TheVariants.{Unsent, Due, Sent}
use Rattle.turn_session_path.specs.declared.path.Path.{Path}
use Rattle.turn_session_path.specs.declared.path.PathCheck.{PathCheck}
use Rattle.turn_session_path.specs.declared.path.PathTask.{PathTask}
use Rattle.turn_session_path.specs.declared.prober.Prober.{Prober}
use Rattle.turn_session_path.specs.declared.probes.Probes.{Probes}
use Rattle.turn_session_path.specs.declared.socket_errors.ErrorRun.{ErrorRun}

sooner-later : (now : ℕ) (a b : Option ℕ) → IsLater now a → IsLater now b → IsLater now (sooner a b)
sooner-later now None b left right = right
sooner-later now (Some a) None left right = left
sooner-later now (Some a) (Some b) left right = omega (arith, left, right)

-- ---- each part

errors-none : (now : ℕ) (p : Path) → (errors_task now p).0 ≡ None
    → IsLater now (run_until (errors_task now p).1.errors.run) ⊎ ((errors_task now p).1.error_request ≡ Due)
errors-none now p none = by p.errors.run refl
  where
    by : (run : Option ErrorRun) → p.errors.run ≡ run
        → IsLater now (run_until (errors_task now p).1.errors.run) ⊎ ((errors_task now p).1.error_request ≡ Due)
    by None is = inl (rw is tt)
    by (Some run) is = elim (cases_Bool (ltb now run.until)) [
      | inl before ↦ inl (rw (is, before) (ltb-true _ _ before))
      | inr over ↦ elim (cases_Bool run.is_again) [
        | inr last ↦ inl (rw (is, over, last) tt)
        | inl again ↦ elim (cases_Bool (ltb run.seconds 2)) [
          | inl follows ↦ inr (rw (is, over, again, follows) refl)
          | inr third ↦ absurd (let ends = rw (is, over, again, third) at none in cc)
        ]
      ]
    ]

request-due : (p : Path) → p.error_request ≡ Due → (error_request_task p).0 ≡ None → ⊥
request-due p due none = let ends = rw due at none in cc

request-none : (p : Path) → (error_request_task p).0 ≡ None → ((error_request_task p).1 ≡ p) × (errors_due p ≡ run_until p.errors.run)
request-none p none = by p.error_request refl
  where
    by : (request : ErrorRequest) → p.error_request ≡ request → ((error_request_task p).1 ≡ p) × (errors_due p ≡ run_until p.errors.run)
    by Due is = absurd (request-due p is none)
    by Unsent is = (rw is refl, rw is refl)
    by (Sent id) is = (rw is refl, rw is refl)

full-none : (now : ℕ) (p : Path) → full_task now p ≡ None → IsLater now (full_due p.full.since)
full-none now p none = by p.full.since refl
  where
    by : (since : Option ℕ) → p.full.since ≡ since → IsLater now (full_due p.full.since)
    by None is = rw is tt
    by (Some since) is = elim (cases_Bool (ltb now (min (since + 60_000_000_000) (2 ^ 63 - 1)))) [
      | inl before ↦ rw is (ltb-true _ _ before)
      | inr over ↦ absurd (let ends = rw (is, over) at none in cc)
    ]

check-none : (now : ℕ) (p : Path) → (check_task now p).0 ≡ None → ((check_task now p).1 ≡ p) × IsLater now (check_due p.check)
check-none now p none = by p.check refl
  where
    by : (check : Option PathCheck) → p.check ≡ check → ((check_task now p).1 ≡ p) × IsLater now (check_due p.check)
    by None is = (rw is refl, rw is tt)
    by (Some check) is = elim (cases_Bool (ltb now (due_time check.asked.round))) [
      | inl before ↦ (rw (is, before) refl, rw is (ltb-true _ _ before))
      | inr over ↦ elim (cases_Bool (ltb 2 check.asked.round.place)) [
        | inl past ↦ absurd (let ends = rw (is, over, past) at none in cc)
        | inr sends ↦ absurd (let ends = rw (is, over, sends) at none in cc)
      ]
    ]

-- a path in which nothing but the probes may differ
abbrev Beside : Path → Path → Type 0
Beside p q = (errors_due q ≡ errors_due p) × ((full_due q.full.since ≡ full_due p.full.since) × (check_due q.check ≡ check_due p.check))

-- the probes wait: the path is as it was, and the round is due later, or a round that does not count is over
abbrev Waits : ℕ → Option ℕ → Path → Path → Type 0
Waits now due p q = ((q ≡ p) × IsLater now due) ⊎ (Beside p q × IsLater now (probe_due q.prober))

-- a round that begins sends at once
begun-some : (now : ℕ) (probes : Probes) (p : Path) → (begun_step now probes p).0 ≡ None → ⊥
begun-some now probes p none = elim (cases_Bool (ltb now (due_time (asked_with probes.asks now p.ids).round))) [
  | inl before ↦ let later = ltb-true _ _ before in omega (arith, later)
  | inr over ↦ let ends = rw over at none in cc
]

begin-none : (now : ℕ) (probes : Probes) (p : Path) → (begin_step now probes p).0 ≡ None → ((begin_step now probes p).1 ≡ p) × (now < probes.due)
begin-none now probes p none = elim (cases_Bool (ltb now probes.due)) [
  | inl before ↦ (rw before refl, ltb-true _ _ before)
  | inr over ↦
      let begun : (begun_step now probes p).0 ≡ None = rw over at none in
      absurd (begun-some now probes p begun)
]

-- a round that is over
end-none : (now : ℕ) (probes : Probes) (began : ℕ) (p : Path) → (end_step now probes began p).0 ≡ None
    → Beside p (end_step now probes began p).1 × IsLater now (probe_due (end_step now probes began p).1.prober)
end-none now probes began p none = elim (cases_Bool (counts began p)) [
  | inl counted ↦ absurd (let ends = rw counted at none in cc)
  | inr late ↦
      let after = after_silence (counts began p) now probes in
      let ended : Path = record p { prober = Some (record { probes = after; asked = None }) } in
      let is : end_step now probes began p ≡ begin_step now after ended = rw late refl in
      let begins = begin-none now after ended (subst (λ (x : Option PathTask × Path). x.0 ≡ None) is none) in
      subst (λ (q : Path). Beside p q × IsLater now (probe_due q.prober)) (sym (ap (λ (x : Option PathTask × Path). x.1) is ∙ begins.0))
      ((refl, (refl, refl)), begins.1)
]

-- a round that is under way
round-none : (now : ℕ) (probes : Probes) (asked : Asked) (p : Path) → (round_task now probes asked p).0 ≡ None
    → Waits now (Some (due_time asked.round)) p (round_task now probes asked p).1
round-none now probes asked p none = elim (cases_Bool (ltb now (due_time asked.round))) [
  | inl before ↦ inl (rw before refl, ltb-true _ _ before)
  | inr over ↦ elim (cases_Bool (ltb 2 asked.round.place)) [
    | inl past ↦
        let is : round_task now probes asked p ≡ end_step now probes asked.round.began p = rw (over, past) refl in
        inr (subst (λ (x : Option PathTask × Path). Beside p x.1 × IsLater now (probe_due x.1.prober)) (sym is)
        (end-none now probes asked.round.began p (subst (λ (x : Option PathTask × Path). x.0 ≡ None) is none)))
    | inr sends ↦ absurd (let ends = rw (over, sends) at none in cc)
  ]
]

-- a probe that is under way, or that begins
abbrev round_by : ℕ → Probes → Option Asked → Path → Option PathTask × Path
round_by now probes (Some asked) p = round_task now probes asked p
round_by now probes None p = begin_step now probes p

abbrev asked_due : Probes → Option Asked → Option ℕ
asked_due probes (Some asked) = Some (due_time asked.round)
asked_due probes None = Some probes.due

round_by-none : (now : ℕ) (probes : Probes) (asked : Option Asked) (p : Path) → (round_by now probes asked p).0 ≡ None
    → Waits now (asked_due probes asked) p (round_by now probes asked p).1
round_by-none now probes (Some asked) p none = round-none now probes asked p none
round_by-none now probes None p none = inl (begin-none now probes p none)

abbrev probe_by : ℕ → Option Prober → Path → Option PathTask × Path
probe_by now None p = (None, p)
probe_by now (Some prober) p = round_by now prober.probes prober.asked p

abbrev prober_due : Option Prober → Option ℕ
prober_due None = None
prober_due (Some prober) = asked_due prober.probes prober.asked

probe_by-none : (now : ℕ) (prober : Option Prober) (p : Path) → (probe_by now prober p).0 ≡ None
    → Waits now (prober_due prober) p (probe_by now prober p).1
probe_by-none now None p none = inl (refl, tt)
probe_by-none now (Some prober) p none = round_by-none now prober.probes prober.asked p none

same_round : (now : ℕ) (probes : Probes) (asked : Option Asked) (p : Path)
    → (elim asked as (λ x. Option PathTask × Path) [ None ↦ begin_step now probes p | Some a ↦ round_task now probes a p ]) ≡ round_by now probes asked p
same_round now probes None p = refl
same_round now probes (Some a) p = refl

same_probe : (now : ℕ) (prober : Option Prober) (p : Path)
    → (elim prober as (λ x. Option PathTask × Path) [
      | None ↦ (None, p)
      | Some q ↦ elim q.asked as (λ x. Option PathTask × Path) [ None ↦ begin_step now q.probes p | Some a ↦ round_task now q.probes a p ]
    ]) ≡ probe_by now prober p
same_probe now None p = refl
same_probe now (Some q) p = same_round now q.probes q.asked p

due_round : (probes : Probes) (asked : Option Asked)
    → (elim asked as (λ x. Option ℕ) [ None ↦ Some probes.due | Some a ↦ Some (due_time a.round) ]) ≡ asked_due probes asked
due_round probes None = refl
due_round probes (Some a) = refl

same_due : (prober : Option Prober) → probe_due prober ≡ prober_due prober
same_due None = refl
same_due (Some q) = due_round q.probes q.asked

-- either way they are due later
waits-later : (now : ℕ) (p q : Path) → Waits now (probe_due p.prober) p q → Beside p q × IsLater now (probe_due q.prober)
waits-later now p q (inl same) =
    subst (λ (r : Path). Beside p r × IsLater now (probe_due r.prober)) (sym same.0) ((refl, (refl, refl)), same.1)
waits-later now p q (inr over) = over

probe-none : (now : ℕ) (p : Path) → (probe_task now p).0 ≡ None
    → Beside p (probe_task now p).1 × IsLater now (probe_due (probe_task now p).1.prober)
probe-none now p none =
    let same : probe_task now p ≡ probe_by now p.prober p = same_probe now p.prober p in
    let parts = probe_by-none now p.prober p (subst (λ (x : Option PathTask × Path). x.0 ≡ None) same none) in
    let due : Waits now (probe_due p.prober) p (probe_by now p.prober p).1
    = subst (λ (time : Option ℕ). Waits now time p (probe_by now p.prober p).1) (sym (same_due p.prober)) parts in
    waits-later now p (probe_task now p).1
    (subst (λ (x : Option PathTask × Path). Waits now (probe_due p.prober) p x.1) (sym same) due)

-- ---- all of it

or_else-none : (x : Option PathTask × Path) (next : Path → Option PathTask × Path) → (or_else x next).0 ≡ None
    → (x.0 ≡ None) × (or_else x next ≡ next x.1)
or_else-none (Some task, p) next none = absurd (let ends : Some task ≡ None = none in cc)
or_else-none (None, p) next none = (refl, refl)

abbrev then_check : ℕ → Path → Option PathTask × Path
then_check now p = or_else (check_task now p) (probe_task now)

abbrev then_full : ℕ → Path → Option PathTask × Path
then_full now p = or_else (full_task now p, p) (then_check now)

abbrev then_request : ℕ → Path → Option PathTask × Path
then_request now p = or_else (error_request_task p) (then_full now)

-- the path as its errors leave it, once no request after an error is to be sent
after-errors : (now : ℕ) (p : Path) → (errors_task now p).0 ≡ None → (error_request_task (errors_task now p).1).0 ≡ None
    → IsLater now (errors_due (errors_task now p).1)
after-errors now p none sent = elim (errors-none now p none) [
  | inl later ↦ subst (λ (time : Option ℕ). IsLater now time) (sym (request-none (errors_task now p).1 sent).1) later
  | inr due ↦ absurd (request-due (errors_task now p).1 due sent)
]

pub rests : (now : ℕ) (p : Path) → (path_step now p).0 ≡ None → IsLater now (path_due (path_step now p).1)
rests now p none =
    let a = (errors_task now p).1 in
    let b = (error_request_task a).1 in
    let d = (check_task now b).1 in
    let one = or_else-none (errors_task now p) (then_request now) none in
    let none-one : (then_request now a).0 ≡ None = subst (λ (x : Option PathTask × Path). x.0 ≡ None) one.1 none in
    let two = or_else-none (error_request_task a) (then_full now) none-one in
    let none-two : (then_full now b).0 ≡ None = subst (λ (x : Option PathTask × Path). x.0 ≡ None) two.1 none-one in
    let three = or_else-none (full_task now b, b) (then_check now) none-two in
    let none-three : (then_check now b).0 ≡ None = subst (λ (x : Option PathTask × Path). x.0 ≡ None) three.1 none-two in
    let four = or_else-none (check_task now b) (probe_task now) none-three in
    let none-four : (probe_task now d).0 ≡ None = subst (λ (x : Option PathTask × Path). x.0 ≡ None) four.1 none-three in
    let sent = request-none a two.0 in
    let full = full-none now b three.0 in
    let check = check-none now b four.0 in
    let probe = probe-none now d none-four in
    let all : path_step now p ≡ probe_task now d = one.1 ∙ (two.1 ∙ (three.1 ∙ four.1)) in
    let q = (probe_task now d).1 in
    let same-d : d ≡ a = check.0 ∙ sent.0 in
    let d-errors : IsLater now (errors_due d) = subst (λ (r : Path). IsLater now (errors_due r)) (sym same-d) (after-errors now p one.0 two.0) in
    let d-full : IsLater now (full_due d.full.since) = subst (λ (r : Path). IsLater now (full_due r.full.since)) (sym check.0) full in
    let d-check : IsLater now (check_due d.check) = subst (λ (r : Path). IsLater now (check_due r.check)) (sym check.0) check.1 in
    let q-errors : IsLater now (errors_due q) = subst (λ (time : Option ℕ). IsLater now time) (sym probe.0.0) d-errors in
    let q-full : IsLater now (full_due q.full.since) = subst (λ (time : Option ℕ). IsLater now time) (sym probe.0.1.0) d-full in
    let q-check : IsLater now (check_due q.check) = subst (λ (time : Option ℕ). IsLater now time) (sym probe.0.1.1) d-check in
    subst (λ (r : Path). IsLater now (path_due r)) (sym (ap (λ (x : Option PathTask × Path). x.1) all))
    (sooner-later now _ _ (sooner-later now _ _ q-errors q-full) (sooner-later now _ _ q-check probe.1))
