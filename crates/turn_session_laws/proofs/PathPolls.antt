-- A path that is polled, one part after the other.
use Rattle.std.proofs.Common.{◌≡◌, ℕ, ◌-◌, ◌+◌, ◌^◌, min, false, List, [], ◌∷◌, Option, Some, None, refl, sym, subst, inl, inr, ltb}
use Rattle.std.proofs.lemmas.Bool.{cases_Bool, ltb-false}
use Rattle.turn_stun.specs.declared.transport.TransportType.{TransportType}
use Rattle.turn_agent.specs.TransactionIds.{Source}
use Rattle.turn_session_book.specs.declared.causes.Why.TheVariants.{SocketErrors}
use Rattle.turn_session_path.specs.Path.{first_path}
use Rattle.turn_session_path.specs.PathPoll.{check_task, error_request_task, errors_task, full_task, or_else, path_step, probe_task}
use Rattle.turn_session_path.specs.Rounds.{due_time}
use Rattle.turn_session_path.specs.SocketErrors.{second_after}
use Rattle.turn_session_path.specs.declared.path.ErrorRequest.{ErrorRequest}
use Rattle.turn_session_path.specs.declared.path.ErrorRequest.TheVariants as Request
use Rattle.turn_session_path.specs.declared.path.Path.{Path}
use Rattle.turn_session_path.specs.declared.path.PathCheck.{PathCheck}
use Rattle.turn_session_path.specs.declared.path.PathTask.{PathTask}
use Rattle.turn_session_path.specs.declared.path.PathTask.TheVariants.{End}
use Rattle.turn_session_path.specs.declared.socket_errors.ErrorRun.{ErrorRun}
use Rattle.turn_session_laws.specs.PathEnds.{IsRequest}
use Rattle.turn_session_laws.specs.PathRuns.{PathCall, path_after, step}
use Rattle.turn_session_laws.specs.PathRuns.PathCall.{Received, Responded, Failed, Full, Room, Sent, Checked, GivenUp, Probed, Polled}
use Rattle.turn_session_laws.proofs.PathErrors.{Errors, errors-go_on, next-second, third-second}
use Rattle.turn_session_laws.proofs.PathFull.{IsFull, still-full}
use Rattle.turn_session_laws.proofs.PathHistory.{IsHistory, Keeps, checked-keeps, failed-by, filled, kept-history, new-history, probed, received, responded, roomy}
use Rattle.turn_session_laws.proofs.PathProbes.{EndsByCause, IsSent, probes-after}
use Rattle.turn_session_laws.proofs.PathSilence.{ProbesOf, probes-go_on}

-- ---- errors of the socket

abbrev ErrorsAfter : Path → ℕ → List PathCall → Path → Option PathTask × Path → Type 0
ErrorsAfter first now before p x =
    EndsByCause first now before x.0 × Errors first x.1.errors.run (Polled now ∷ before)
    × (x.1.prober ≡ p.prober) × (x.1.full.since ≡ p.full.since)

abbrev with_run : Option ErrorRun → Path → Path
with_run run p = record p { errors = record { run = run } }

errors-after : (first : Path) (now : ℕ) (before : List PathCall) (p : Path) → Errors first p.errors.run before
    → ErrorsAfter first now before p (errors_task now p)
errors-after first now before p h = by p.errors.run refl h
  where
    by : (run : Option ErrorRun) → p.errors.run ≡ run → Errors first run before → ErrorsAfter first now before p (errors_task now p)
    by None is h =
        let same : errors_task now p ≡ (None, with_run None p) = rw is refl in
        subst (ErrorsAfter first now before p) (sym same) (tt, tt, refl, refl)
    by (Some run) is h = elim (cases_Bool (ltb now run.until)) [
      | inl early ↦
          let same : errors_task now p ≡ (None, with_run (Some run) p) = rw (is, early) refl in
          subst (ErrorsAfter first now before p) (sym same) (tt, errors-go_on first (Some run) (Polled now) before refl h, refl, refl)
      | inr over ↦ elim (cases_Bool run.is_again) [
        | inr last ↦
            let same : errors_task now p ≡ (None, with_run None p) = rw (is, over, last) refl in
            subst (ErrorsAfter first now before p) (sym same) (tt, tt, refl, refl)
        | inl again ↦ elim (cases_Bool (ltb run.seconds 2)) [
          | inl follows ↦
              let next = record run { seconds = run.seconds + 1; until = second_after now; is_again = false } in
              let same : errors_task now p ≡ (None, record (with_run (Some next) p) { error_request = Request.Due }) = rw (is, over, again, follows) refl in
              let second = next-second first now run before (ltb-false now run.until over) again h in
              subst (ErrorsAfter first now before p) (sym same) (tt, errors-go_on first (Some next) (Polled now) before refl second, refl, refl)
          | inr third ↦
              let same : errors_task now p ≡ (Some (End (SocketErrors run.tag)), with_run (Some run) p) = rw (is, over, again, third) refl in
              let ends = third-second first now run before (ltb-false now run.until over) again (ltb-false run.seconds 2 third) h in
              subst (ErrorsAfter first now before p) (sym same) (ends, errors-go_on first (Some run) (Polled now) before refl h, refl, refl)
        ]
      ]
    ]

-- ---- the other parts

abbrev Beside : Path → ℕ → List PathCall → Path → Option PathTask × Path → Type 0
Beside first now before p x = EndsByCause first now before x.0 × Keeps p x.1

beside : (p q : Path) → q.prober ≡ p.prober → q.errors.run ≡ p.errors.run → q.full.since ≡ p.full.since → Keeps p q
beside p q prober errors full = record { prober = prober; errors = errors; full = full }

request-beside : (first : Path) (now : ℕ) (before : List PathCall) (p : Path) (request : ErrorRequest)
    → Beside first now before p (error_request_task (record p { error_request = request }))
request-beside first now before p Request.Unsent = (tt, beside p _ refl refl refl)
request-beside first now before p Request.Due = (tt, beside p _ refl refl refl)
request-beside first now before p (Request.Sent id) = (tt, beside p _ refl refl refl)

check-beside : (first : Path) (now : ℕ) (before : List PathCall) (p : Path) → Beside first now before p (check_task now p)
check-beside first now before p = by p.check refl
  where
    by : (check : Option PathCheck) → p.check ≡ check → Beside first now before p (check_task now p)
    by None is = rw is (tt, record { prober = refl; errors = refl; full = refl })
    by (Some check) is = elim (cases_Bool (ltb now (due_time check.asked.round))) [
      | inl early ↦ rw (is, early) (tt, record { prober = refl; errors = refl; full = refl })
      | inr over ↦ elim (cases_Bool (ltb 2 check.asked.round.place)) [
        | inl past ↦ rw (is, over, past) (tt, record { prober = refl; errors = refl; full = refl })
        | inr next ↦ rw (is, over, next) (tt, record { prober = refl; errors = refl; full = refl })
      ]
    ]

full-ends : (first : Path) (now : ℕ) (before : List PathCall) (p : Path) → IsFull first p.full.since before
    → EndsByCause first now before (full_task now p)
full-ends first now before p h = by p.full.since refl h
  where
    by : (since : Option ℕ) → p.full.since ≡ since → IsFull first since before → EndsByCause first now before (full_task now p)
    by None is h = rw is tt
    by (Some since) is h = elim (cases_Bool (ltb now (min (since + 60_000_000_000) (2 ^ 63 - 1)))) [
      | inl early ↦ rw (is, early) tt
      | inr over ↦ rw (is, over) (since, ltb-false now (min (since + 60_000_000_000) (2 ^ 63 - 1)) over, h)
    ]

-- ---- one after the other

-- the errors were polled, and the others were not yet
record Stage (first : Path) (now : ℕ) (before : List PathCall) (q : Path) : Type 0 where
  probes : ProbesOf first q.prober before
  errors : Errors first q.errors.run (Polled now ∷ before)
  full : IsFull first q.full.since before

kept-stage : (first : Path) (now : ℕ) (before : List PathCall) (p q : Path) → Keeps p q → Stage first now before p → Stage first now before q
kept-stage first now before p q keeps s = record {
  probes = rw keeps.prober s.probes;
  errors = rw keeps.errors s.errors;
  full = rw keeps.full s.full;
}

abbrev Whole : Path → ℕ → List PathCall → Option PathTask × Path → Type 0
Whole first now before x = EndsByCause first now before x.0 × IsHistory first x.1 (Polled now ∷ before)

stage-history : (first : Path) (now : ℕ) (before : List PathCall) (q : Path) → Stage first now before q → IsHistory first q (Polled now ∷ before)
stage-history first now before q s = record {
  probes = probes-go_on first q.prober (Polled now) before refl s.probes;
  errors = s.errors;
  full = still-full first q.full.since (Polled now) before refl s.full;
}

else-whole : (first : Path) (now : ℕ) (before : List PathCall) (x : Option PathTask × Path) (next : Path → Option PathTask × Path)
    → path_step now (path_after first before) ≡ or_else x next → EndsByCause first now before x.0 → Stage first now before x.1
    → (path_step now (path_after first before) ≡ next x.1 → Whole first now before (next x.1)) → Whole first now before (or_else x next)
else-whole first now before (Some task, q) next is ends stage rest = (ends, stage-history first now before q stage)
else-whole first now before (None, q) next is ends stage rest = rest is

probe-whole : (first : Path) (now : ℕ) (before : List PathCall) (p : Path) → path_step now (path_after first before) ≡ probe_task now p
    → Stage first now before p → Whole first now before (probe_task now p)
probe-whole first now before p is stage =
    let sent : IsSent first now before (probe_task now p).0 = λ s. subst (λ (x : Option PathTask × Path). IsRequest x.0) (sym is) s in
    let kept = probes-go_on first p.prober (Polled now) before refl stage.probes in
    let after = probes-after first now before p sent stage.probes kept in (
      after.0,
      record {
        probes = after.1;
        errors = rw after.2 stage.errors;
        full = rw after.3 (still-full first p.full.since (Polled now) before refl stage.full);
      },
    )

abbrev then_check : ℕ → Path → Option PathTask × Path
then_check now p = or_else (check_task now p) (probe_task now)

abbrev then_full : ℕ → Path → Option PathTask × Path
then_full now p = or_else (full_task now p, p) (then_check now)

abbrev then_request : ℕ → Path → Option PathTask × Path
then_request now p = or_else (error_request_task p) (then_full now)

polled : (first : Path) (now : ℕ) (before : List PathCall) → IsHistory first (path_after first before) before
    → Whole first now before (path_step now (path_after first before))
polled first now before h =
    let p = path_after first before in
    let errors = errors-after first now before p h.errors in
    let a = (errors_task now p).1 in
    let stage-a : Stage first now before a = record { probes = rw errors.2 h.probes; errors = errors.1; full = rw errors.3 h.full } in
    else-whole first now before (errors_task now p) (then_request now) refl errors.0 stage-a λ is-a.
    let request = request-beside first now before a a.error_request in
    let b = (error_request_task a).1 in
    let stage-b = kept-stage first now before a b request.1 stage-a in
    else-whole first now before (error_request_task a) (then_full now) is-a request.0 stage-b λ is-b.
    else-whole first now before (full_task now b, b) (then_check now) is-b (full-ends first now before b stage-b.full) stage-b λ is-c.
    let check = check-beside first now before b in
    let d = (check_task now b).1 in
    let stage-d = kept-stage first now before b d check.1 stage-b in
    else-whole first now before (check_task now b) (probe_task now) is-c check.0 stage-d λ is-d.
    probe-whole first now before d is-d stage-d

-- ---- a run

call-history : (first : Path) (call : PathCall) (before : List PathCall)
    → IsHistory first (path_after first before) before → IsHistory first (path_after first (call ∷ before)) (call ∷ before)
call-history first (Received now) before h = received first now before h
call-history first (Responded id now) before h = responded first id now before h
call-history first (Failed tag now) before h = failed-by first tag now before (path_after first before) (path_after first before).transport h
call-history first (Full now) before h = filled first now before h
call-history first Room before h = roomy first before h
call-history first (Sent now) before h =
    kept-history first (step (Sent now) (path_after first before)) (Sent now) before (beside (path_after first before) _ refl refl refl) refl refl h
call-history first (Checked ticket now) before h =
    let p = path_after first before in
    kept-history first (step (Checked ticket now) p) (Checked ticket now) before (checked-keeps ticket now p p.check) refl refl h
call-history first GivenUp before h =
    kept-history first (step GivenUp (path_after first before)) GivenUp before (beside (path_after first before) _ refl refl refl) refl refl h
call-history first (Probed every now) before h = probed first every now before h
call-history first (Polled now) before h = (polled first now before h).1

run-history : (transport : TransportType) (every : Option ℕ) (ids : Source) (began : ℕ) (before : List PathCall)
    → let first = first_path transport every ids began in IsHistory first (path_after first before) before
run-history transport every ids began [] = new-history transport every ids began
run-history transport every ids began (call ∷ before) =
    call-history (first_path transport every ids began) call before (run-history transport every ids began before)

pub end-cause : (transport : TransportType) (every : Option ℕ) (ids : Source) (began now : ℕ) (before : List PathCall)
    → let first = first_path transport every ids began in EndsByCause first now before (path_step now (path_after first before)).0
end-cause transport every ids began now before =
    (polled (first_path transport every ids began) now before (run-history transport every ids began before)).0
