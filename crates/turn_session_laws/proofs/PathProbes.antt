-- The probes of a path that is polled.
use Rattle.std.proofs.Common.{◌≡◌, ℕ, suc, ◌+◌, ◌-◌, ◌^◌, ◌≤◌, ◌<◌, min, Bool, true, false, if◌then◌else◌, List, ◌∷◌, Option, Some, None, refl, sym, ap, subst, inl, inr, arith, ltb, leb}
use Rattle.std.proofs.lemmas.Bool.{cases_Bool, leb-true, ltb-false, ltb-true, ne_eqb}
use Rattle.turn_session_book.specs.declared.causes.Why.TheVariants.{Unanswered}
use Rattle.turn_session_path.specs.Asked.{asked_with, behind_round, id_for}
use Rattle.turn_session_path.specs.PathPoll.{begin_step, begun_step, counts, end_step, path_step, probe_task, round_task}
use Rattle.turn_session_path.specs.Probes.{after_silence}
use Rattle.turn_session_path.specs.Rounds.{due_after, due_time, next_place, request_at}
use Rattle.turn_session_path.specs.declared.asked.Asked.{Asked}
use Rattle.turn_session_path.specs.declared.path.Path.{Path}
use Rattle.turn_session_path.specs.declared.path.PathTask.{PathTask}
use Rattle.turn_session_path.specs.declared.path.PathTask.TheVariants.{Doubt, End, Send}
use Rattle.turn_session_path.specs.declared.prober.Prober.{Prober}
use Rattle.turn_session_path.specs.declared.probes.Probes.{Probes}
use Rattle.turn_session_path.specs.declared.round.Round.{Round}
use Rattle.turn_session_laws.specs.PathEnds.{AreSilent, IsRequest, PathEndsBy, after}
use Rattle.turn_session_laws.specs.PathRuns.{PathCall, path_after}
use Rattle.turn_session_laws.specs.PathRuns.PathCall.{Polled}
use Rattle.turn_session_laws.proofs.PathSilence.{ProbesOf, fewer, forget, goes-on, under_way}

-- if it is to end, there is a cause
abbrev pub EndsByCause : Path → ℕ → List PathCall → Option PathTask → Type 0
EndsByCause first now before (Some (End why)) = PathEndsBy first why now before
EndsByCause first now before _ = Unit {0}

-- ---- the probes

abbrev pub ProbesAfter : Path → ℕ → List PathCall → Path → Option PathTask × Path → Type 0
ProbesAfter first now before p x =
    EndsByCause first now before x.0 × ProbesOf first x.1.prober (Polled now ∷ before)
    × (x.1.errors.run ≡ p.errors.run) × (x.1.full.since ≡ p.full.since)

-- what the probes send, the path sends
abbrev pub IsSent : Path → ℕ → List PathCall → Option PathTask → Type 0
IsSent first now before said = IsRequest said → IsRequest (path_step now (path_after first before)).0

-- a round that begins sends at once
abbrev sent_round : ℕ → Probes → Path → Option PathTask × Path
sent_round now probes p =
    let asked = asked_with probes.asks now p.ids in
    let request = request_at probes.asks 0 in
    let after = record asked { round = record asked.round { place = next_place p.transport probes.asks 0 } } in (
      Some (Send request (id_for request asked)),
      record p { prober = Some (record { probes = probes; asked = Some after }); ids = behind_round p.ids },
    )

begun-after : (first : Path) (now : ℕ) (before : List PathCall) (probes : Probes) (p : Path) → IsSent first now before (begun_step now probes p).0
    → AreSilent first probes.unanswered None before → ProbesAfter first now before p (begun_step now probes p)
begun-after first now before probes p sent h = elim (cases_Bool (ltb now (due_time (asked_with probes.asks now p.ids).round))) [
  | inl early ↦ let later = ltb-true _ _ early in absurd (omega (arith, later))
  | inr due ↦
      let same : begun_step now probes p ≡ sent_round now probes p = rw due refl in
      let sends : IsSent first now before (sent_round now probes p).0
      = subst (λ (x : Option PathTask × Path). IsSent first now before x.0) same sent in
      subst (ProbesAfter first now before p) (sym same) (tt, inr (refl, sends tt, h), refl, refl)
]

begin-after : (first : Path) (now : ℕ) (before : List PathCall) (probes : Probes) (p : Path) → IsSent first now before (begin_step now probes p).0
    → AreSilent first probes.unanswered None before → ProbesOf first p.prober (Polled now ∷ before) → ProbesAfter first now before p (begin_step now probes p)
begin-after first now before probes p sent h kept = elim (cases_Bool (ltb now probes.due)) [
  | inl early ↦ rw early (tt, kept, refl, refl)
  | inr due ↦
      let same : begin_step now probes p ≡ begun_step now probes p = rw due refl in
      let sends : IsSent first now before (begun_step now probes p).0
      = subst (λ (x : Option PathTask × Path). IsSent first now before x.0) same sent in
      subst (ProbesAfter first now before p) (sym same) (begun-after first now before probes p sends h)
]

-- a round without a response

failed-cause : (first : Path) (now : ℕ) (before : List PathCall) (n : ℕ) (failed : Bool) → leb 3 n ≡ failed → AreSilent first n None (Polled now ∷ before)
    → EndsByCause first now before (Some (if failed then End (Unanswered 3) else Doubt))
failed-cause first now before n true is h = (refl, fewer first n 3 None (Polled now ∷ before) (leb-true 3 n is) h)
failed-cause first now before n false is h = tt

abbrev ended : Probes → Path → Path
ended probes p = record p { prober = Some (record { probes = probes; asked = None }) }

-- one that counts
counted-after : (first : Path) (now : ℕ) (before : List PathCall) (n began : ℕ) → after 3_500_000_000 began ≤ now
    → AreSilent first n (Some began) before → AreSilent first (min (n + 1) 255) None (Polled now ∷ before)
counted-after first now before n began over h =
    fewer first (suc n) (min (n + 1) 255) None (Polled now ∷ before) (omega arith) (refl, inr (now, began, refl, over, h))

end-after : (first : Path) (now : ℕ) (before : List PathCall) (probes : Probes) (began : ℕ) (p : Path)
    → IsSent first now before (end_step now probes began p).0 → after 3_500_000_000 began ≤ now
    → AreSilent first probes.unanswered (Some began) before → ProbesAfter first now before p (end_step now probes began p)
end-after first now before probes began p sent over h = elim (cases_Bool (counts began p)) [
  | inl counted ↦
      let more = counted-after first now before probes.unanswered began over h in
      rw counted (failed-cause first now before (min (probes.unanswered + 1) 255) (leb 3 (min (probes.unanswered + 1) 255)) refl more, more, refl, refl)
  | inr late ↦
      let next = after_silence false now probes in
      let same : end_step now probes began p ≡ begin_step now next (ended next p) = rw late refl in
      let sends : IsSent first now before (begin_step now next (ended next p)).0
      = subst (λ (x : Option PathTask × Path). IsSent first now before x.0) same sent in
      let silent = forget first probes.unanswered began before h in
      subst (ProbesAfter first now before p) (sym same)
      (begin-after first now before next (ended next p) sends silent (goes-on first probes.unanswered None (Polled now) before refl silent))
]

-- the last request of a round was sent, and it is over
last-due : (place : ℕ) → 2 < place → due_after place ≡ 3_500_000_000
last-due place past = rw (ne_eqb place 0 (λ is. omega arith), ne_eqb place 1 (λ is. omega arith), ne_eqb place 2 (λ is. omega arith)) refl

late-round : (r : Round) (now : ℕ) → ltb now (due_time r) ≡ false → ltb 2 r.place ≡ true → after 3_500_000_000 r.began ≤ now
late-round r now over past =
    let due : due_time r ≡ after 3_500_000_000 r.began
    = ap (λ (nanos : ℕ). min (r.began + nanos) (2 ^ 63 - 1)) (last-due r.place (ltb-true 2 r.place past)) in
    subst (λ (time : ℕ). time ≤ now) due (ltb-false now (due_time r) over)

round-after : (first : Path) (now : ℕ) (before : List PathCall) (probes : Probes) (asked : Asked) (p : Path)
    → IsSent first now before (round_task now probes asked p).0 → AreSilent first probes.unanswered (Some asked.round.began) before
    → ProbesOf first p.prober (Polled now ∷ before) → ProbesAfter first now before p (round_task now probes asked p)
round-after first now before probes asked p sent h kept = elim (cases_Bool (ltb now (due_time asked.round))) [
  | inl early ↦ rw early (tt, kept, refl, refl)
  | inr over ↦ elim (cases_Bool (ltb 2 asked.round.place)) [
    | inl past ↦
        let same : round_task now probes asked p ≡ end_step now probes asked.round.began p = rw (over, past) refl in
        let sends : IsSent first now before (end_step now probes asked.round.began p).0
        = subst (λ (x : Option PathTask × Path). IsSent first now before x.0) same sent in
        subst (ProbesAfter first now before p) (sym same)
        (end-after first now before probes asked.round.began p sends (late-round asked.round now over past) h)
    | inr next ↦ rw (over, next) (tt, goes-on first probes.unanswered (Some asked.round.began) (Polled now) before refl h, refl, refl)
  ]
]

abbrev round_by : ℕ → Probes → Option Asked → Path → Option PathTask × Path
round_by now probes (Some asked) p = round_task now probes asked p
round_by now probes None p = begin_step now probes p

round_by-after : (first : Path) (now : ℕ) (before : List PathCall) (probes : Probes) (asked : Option Asked) (p : Path)
    → IsSent first now before (round_by now probes asked p).0 → AreSilent first probes.unanswered (under_way asked) before
    → ProbesOf first p.prober (Polled now ∷ before) → ProbesAfter first now before p (round_by now probes asked p)
round_by-after first now before probes (Some asked) p sent h kept = round-after first now before probes asked p sent h kept
round_by-after first now before probes None p sent h kept = begin-after first now before probes p sent h kept

abbrev probe_by : ℕ → Option Prober → Path → Option PathTask × Path
probe_by now None p = (None, p)
probe_by now (Some prober) p = round_by now prober.probes prober.asked p

probe_by-after : (first : Path) (now : ℕ) (before : List PathCall) (q : Option Prober) (p : Path) → IsSent first now before (probe_by now q p).0
    → ProbesOf first q before → ProbesOf first p.prober (Polled now ∷ before) → ProbesAfter first now before p (probe_by now q p)
probe_by-after first now before None p sent h kept = (tt, kept, refl, refl)
probe_by-after first now before (Some q) p sent h kept = round_by-after first now before q.probes q.asked p sent h kept

same_round : (now : ℕ) (probes : Probes) (asked : Option Asked) (p : Path)
    → (elim asked as (λ x. Option PathTask × Path) [ None ↦ begin_step now probes p | Some a ↦ round_task now probes a p ]) ≡ round_by now probes asked p
same_round now probes None p = refl
same_round now probes (Some a) p = refl

same_probe : (now : ℕ) (prober : Option Prober) (p : Path)
    → (elim prober as (λ x. Option PathTask × Path) [
      | None ↦ (None, p)
      | Some q ↦ elim q.asked as (λ x. Option PathTask × Path) [ None ↦ begin_step now q.probes p | Some a ↦ round_task now q.probes a p ]
    ]) ≡ probe_by now prober p
same_probe now None p = refl
same_probe now (Some q) p = same_round now q.probes q.asked p

pub probes-after : (first : Path) (now : ℕ) (before : List PathCall) (p : Path) → IsSent first now before (probe_task now p).0
    → ProbesOf first p.prober before → ProbesOf first p.prober (Polled now ∷ before) → ProbesAfter first now before p (probe_task now p)
probes-after first now before p sent h kept =
    let same : probe_task now p ≡ probe_by now p.prober p = same_probe now p.prober p in
    let sends : IsSent first now before (probe_by now p.prober p).0
    = subst (λ (x : Option PathTask × Path). IsSent first now before x.0) same sent in
    subst (ProbesAfter first now before p) (sym same) (probe_by-after first now before p.prober p sends h kept)
