-- Before its time a path does nothing.
use Rattle.std.proofs.Common.{◌≡◌, ◌∙◌, ℕ, ◌+◌, ◌-◌, ◌^◌, ◌<◌, min, Bool, true, false, if◌then◌else◌, Option, Some, None, is_some, refl, sym, ap, subst, arith}
use Rattle.std.proofs.lemmas.Bool.{lt-ltb}
use Rattle.turn_session_path.specs.PathDue.{IsLater, check_due, errors_due, full_due, path_due, probe_due, sooner}
use Rattle.turn_session_path.specs.PathPoll.{begin_step, check_task, error_request_task, errors_task, full_task, or_else, path_step, probe_task, round_task}
use Rattle.turn_session_path.specs.Rounds.{due_time}
use Rattle.turn_session_path.specs.declared.asked.Asked.{Asked}
use Rattle.turn_session_path.specs.declared.path.ErrorRequest.{ErrorRequest}
use Rattle.turn_session_path.specs.declared.path.ErrorRequest.TheVariants.{Unsent, Due, Sent}
use Rattle.turn_session_path.specs.declared.path.Path.{Path}
use Rattle.turn_session_path.specs.declared.path.PathCheck.{PathCheck}
use Rattle.turn_session_path.specs.declared.path.PathTask.{PathTask}
use Rattle.turn_session_path.specs.declared.path.PathTask.TheVariants as Tasks
use Rattle.turn_session_path.specs.declared.prober.Prober.{Prober}
use Rattle.turn_session_path.specs.declared.probes.Probes.{Probes}
use Rattle.turn_session_path.specs.declared.socket_errors.ErrorRun.{ErrorRun}
use Rattle.turn_session_life.specs.Watch.{after_poll, next_wait, watch_step, with_path}
use Rattle.turn_session_life.specs.declared.watch.Watch.{Watch}
use Rattle.turn_session_life.specs.declared.watch.WatchStep.{WatchStep}
use Rattle.turn_session_life.specs.declared.watch.WatchStep.TheVariants as Watching
use Rattle.turn_session_laws.specs.SleepLaws.{path_waits}

pub sooner-parts : (now : ℕ) (a b : Option ℕ) → IsLater now (sooner a b) → IsLater now a × IsLater now b
sooner-parts now None b later = (tt, later)
sooner-parts now (Some a) None later = (later, tt)
sooner-parts now (Some a) (Some b) later = (omega (arith, later), omega (arith, later))

-- ---- each part

abbrev no_task : Path → Option PathTask × Path
no_task p = (None, p)

abbrev with_run : Option ErrorRun → Path → Path
with_run run p = record p { errors = record { run = run } }

-- the errors are as they were
errors-sleep : (now : ℕ) (p : Path) → IsLater now (errors_due p) → errors_task now p ≡ no_task p
errors-sleep now p later = by p.error_request p.errors.run refl refl
  where
    same : (run : Option ErrorRun) → p.errors.run ≡ run → no_task (with_run run p) ≡ no_task p
    same run is = ap (λ (r : Option ErrorRun). no_task (with_run r p)) (sym is)

    early : (request : ErrorRequest) (run : ErrorRun) → p.errors.run ≡ Some run → now < run.until → errors_task now p ≡ no_task p
    early request run is before =
        let waits : errors_task now p ≡ no_task (with_run (Some run) p) = rw (is, lt-ltb now run.until before) refl in
        waits ∙ same (Some run) is

    none : p.errors.run ≡ None → errors_task now p ≡ no_task p
    none is = let idle : errors_task now p ≡ no_task (with_run None p) = rw is refl in idle ∙ same None is

    by : (request : ErrorRequest) (run : Option ErrorRun) → p.error_request ≡ request → p.errors.run ≡ run → errors_task now p ≡ no_task p
    by Due run r is = let soon : now < 0 = rw r at later in absurd (omega (arith, soon))
    by Unsent None r is = none is
    by Unsent (Some run) r is = early Unsent run is (rw (r, is) at later)
    by (Sent id) None r is = none is
    by (Sent id) (Some run) r is = early (Sent id) run is (rw (r, is) at later)

request-sleeps : (now : ℕ) (p : Path) → IsLater now (errors_due p) → error_request_task p ≡ no_task p
request-sleeps now p later = by p.error_request refl
  where
    by : (request : ErrorRequest) → p.error_request ≡ request → error_request_task p ≡ no_task p
    by Due r = let soon : now < 0 = rw r at later in absurd (omega (arith, soon))
    by Unsent r = rw r refl
    by (Sent id) r = rw r refl

full-sleeps : (now : ℕ) (p : Path) → IsLater now (full_due p.full.since) → full_task now p ≡ None
full-sleeps now p later = by p.full.since refl
  where
    by : (since : Option ℕ) → p.full.since ≡ since → full_task now p ≡ None
    by None is = rw is refl
    by (Some since) is =
        let before : now < min (since + 60_000_000_000) (2 ^ 63 - 1) = rw is at later in
        rw (is, lt-ltb now (min (since + 60_000_000_000) (2 ^ 63 - 1)) before) refl

check-sleeps : (now : ℕ) (p : Path) → IsLater now (check_due p.check) → check_task now p ≡ no_task p
check-sleeps now p later = by p.check refl
  where
    by : (check : Option PathCheck) → p.check ≡ check → check_task now p ≡ no_task p
    by None is = rw is refl
    by (Some check) is =
        let before : now < due_time check.asked.round = rw is at later in
        rw (is, lt-ltb now (due_time check.asked.round) before) refl

-- the probes, by the round that is under way
round-sleeps : (now : ℕ) (probes : Probes) (asked : Asked) (p : Path) → now < due_time asked.round → round_task now probes asked p ≡ no_task p
round-sleeps now probes asked p before = rw (lt-ltb now (due_time asked.round) before) refl

begin-sleeps : (now : ℕ) (probes : Probes) (p : Path) → now < probes.due → begin_step now probes p ≡ no_task p
begin-sleeps now probes p before = rw (lt-ltb now probes.due before) refl

abbrev asked_due : Probes → Option Asked → Option ℕ
asked_due probes (Some asked) = Some (due_time asked.round)
asked_due probes None = Some probes.due

abbrev prober_due : Option Prober → Option ℕ
prober_due None = None
prober_due (Some prober) = asked_due prober.probes prober.asked

due-asked : (probes : Probes) (asked : Option Asked)
    → (elim asked as (λ x. Option ℕ) [ None ↦ Some probes.due | Some a ↦ Some (due_time a.round) ]) ≡ asked_due probes asked
due-asked probes None = refl
due-asked probes (Some a) = refl

due-prober : (prober : Option Prober) → probe_due prober ≡ prober_due prober
due-prober None = refl
due-prober (Some q) = due-asked q.probes q.asked

asked-sleeps : (now : ℕ) (probes : Probes) (asked : Option Asked) (p : Path) → IsLater now (asked_due probes asked)
    → (elim asked as (λ x. Option PathTask × Path) [ None ↦ begin_step now probes p | Some a ↦ round_task now probes a p ]) ≡ no_task p
asked-sleeps now probes None p later = begin-sleeps now probes p later
asked-sleeps now probes (Some a) p later = round-sleeps now probes a p later

prober-sleeps : (now : ℕ) (prober : Option Prober) (p : Path) → IsLater now (prober_due prober)
    → (elim prober as (λ x. Option PathTask × Path) [
      | None ↦ (None, p)
      | Some q ↦ elim q.asked as (λ x. Option PathTask × Path) [ None ↦ begin_step now q.probes p | Some a ↦ round_task now q.probes a p ]
    ]) ≡ no_task p
prober-sleeps now None p later = refl
prober-sleeps now (Some q) p later = asked-sleeps now q.probes q.asked p later

probe-sleeps : (now : ℕ) (p : Path) → IsLater now (probe_due p.prober) → probe_task now p ≡ no_task p
probe-sleeps now p later = prober-sleeps now p.prober p (subst (IsLater now) (due-prober p.prober) later)

-- ---- all of it

abbrev then_check : ℕ → Path → Option PathTask × Path
then_check now p = or_else (check_task now p) (probe_task now)

abbrev then_full : ℕ → Path → Option PathTask × Path
then_full now p = or_else (full_task now p, p) (then_check now)

abbrev then_request : ℕ → Path → Option PathTask × Path
then_request now p = or_else (error_request_task p) (then_full now)

abbrev full_and : Path → Option PathTask → Option PathTask × Path
full_and p task = (task, p)

pub path-sleeps : (now : ℕ) (p : Path) → IsLater now (path_due p) → path_step now p ≡ (None, p)
path-sleeps now p later =
    let all = sooner-parts now (sooner (errors_due p) (full_due p.full.since)) (sooner (check_due p.check) (probe_due p.prober)) later in
    let first = sooner-parts now (errors_due p) (full_due p.full.since) all.0 in
    let last = sooner-parts now (check_due p.check) (probe_due p.prober) all.1 in
    ap (λ (x : Option PathTask × Path). or_else x (then_request now)) (errors-sleep now p first.0)
    ∙ ap (λ (x : Option PathTask × Path). or_else x (then_full now)) (request-sleeps now p first.0)
    ∙ ap (λ (task : Option PathTask). or_else (full_and p task) (then_check now)) (full-sleeps now p first.1)
    ∙ ap (λ (x : Option PathTask × Path). or_else x (probe_task now)) (check-sleeps now p last.0)
    ∙ probe-sleeps now p last.1

-- ---- the watch

abbrev watch_by : Bool → Bool → Option PathTask × Path → Watch → WatchStep × Watch
watch_by moved unsent step w =
    if moved then (Watching.Moved, record w { is_moved = false })
    else (if unsent then (Watching.Now, w) else after_poll step.0 (with_path step.1 w))

watch-is : (now : ℕ) (w : Watch) (moved unsent : Bool) (step : Option PathTask × Path) → w.is_moved ≡ moved → is_some w.outbox ≡ unsent
    → path_step now w.path ≡ step → watch_step now w ≡ watch_by moved unsent step w
watch-is now w moved unsent step m u s =
    ap (λ (b : Bool). watch_by b (is_some w.outbox) (path_step now w.path) w) m
    ∙ ap (λ (b : Bool). watch_by moved b (path_step now w.path) w) u
    ∙ ap (λ (x : Option PathTask × Path). watch_by moved unsent x w) s

-- it waits only if it does nothing
abbrev acts : WatchStep → Bool
acts (Watching.WaitUntil time) = false
acts Watching.Idle = false
acts _ = true

waits-rest : (time : Option ℕ) → acts (path_waits time) ≡ false
waits-rest None = refl
waits-rest (Some time) = refl

no-act : (step : WatchStep) (time : Option ℕ) → acts step ≡ true → step ≡ path_waits time → ⊥
no-act step time act is = let no : true ≡ false = sym act ∙ ap acts is ∙ waits-rest time in cc

-- it has told the time at which the path has something to do
abbrev Waits : Option ℕ → Watch → Watch → Type 0
Waits time v w = (w ≡ v) × (next_wait v ≡ path_waits time)

abbrev step_of : WatchStep × Watch → WatchStep
step_of x = x.0

after-told : (task : Option PathTask) (v w : Watch) (time : Option ℕ) → after_poll task v ≡ (path_waits time, w) → Waits time v w
after-told None v w time told = (sym (ap (λ (x : WatchStep × Watch). x.1) told), ap step_of told)
after-told (Some (Tasks.Send request id)) v w time told = absurd (no-act Watching.Now time refl (ap step_of told))
after-told (Some (Tasks.Unanswered ticket)) v w time told = absurd (no-act Watching.Now time refl (ap step_of told))
after-told (Some Tasks.Doubt) v w time told = absurd (no-act Watching.Doubt time refl (ap step_of told))
after-told (Some (Tasks.End why)) v w time told = absurd (no-act (Watching.End why) time refl (ap step_of told))

watch-told : (now : ℕ) (time : Option ℕ) (was w : Watch) (moved unsent : Bool) → was.is_moved ≡ moved → is_some was.outbox ≡ unsent
    → watch_by moved unsent (path_step now was.path) was ≡ (path_waits time, w)
    → (moved ≡ false) × (unsent ≡ false) × Waits time (with_path (path_step now was.path).1 was) w
watch-told now time was w true unsent m u told = absurd (no-act Watching.Moved time refl (ap step_of told))
watch-told now time was w false true m u told = absurd (no-act Watching.Now time refl (ap step_of told))
watch-told now time was w false false m u told =
    (refl, refl, after-told (path_step now was.path).0 (with_path (path_step now was.path).1 was) w time told)

due-told : (due time : Option ℕ) (v : Watch) → path_due v.path ≡ due → next_wait v ≡ path_waits time → due ≡ time
due-told None None v is told = refl
due-told None (Some time) v is told = absurd (let ends : Watching.Idle ≡ Watching.WaitUntil time = rw is at told in cc)
due-told (Some due) None v is told = absurd (let ends : Watching.WaitUntil due ≡ Watching.Idle = rw is at told in cc)
due-told (Some due) (Some time) v is told = let waits : Watching.WaitUntil due ≡ Watching.WaitUntil time = rw is at told in cc

-- it does nothing before its time
pub watch-again : (later : ℕ) (v : Watch) → v.is_moved ≡ false → is_some v.outbox ≡ false → IsLater later (path_due v.path)
    → watch_step later v ≡ (next_wait v, v)
watch-again later v still empty is_later = watch-is later v false false (None, v.path) still empty (path-sleeps later v.path is_later)

again : (later : ℕ) (time : Option ℕ) (v : Watch) → v.is_moved ≡ false → is_some v.outbox ≡ false → next_wait v ≡ path_waits time
    → IsLater later time → watch_step later v ≡ (path_waits time, v)
again later time v still empty told is_later =
    let due : path_due v.path ≡ time = due-told (path_due v.path) time v refl told in
    watch-again later v still empty (subst (IsLater later) (sym due) is_later) ∙ ap (λ (step : WatchStep). (step, v)) told

pub watch-sleeps : (now later : ℕ) (time : Option ℕ) (was w : Watch) → watch_step now was ≡ (path_waits time, w) → IsLater later time
    → watch_step later w ≡ (path_waits time, w)
watch-sleeps now later time was w told is_later =
    let parts = watch-told now time was w was.is_moved (is_some was.outbox) refl refl told in
    let v = with_path (path_step now was.path).1 was in
    let waits = parts.2 in
    subst (λ (x : Watch). watch_step later x ≡ (path_waits time, x)) (sym waits.0) (again later time v parts.0 parts.1 waits.1 is_later)

-- no request was left to be sent
pub unsent : (now : ℕ) (time : Option ℕ) (was w : Watch) → watch_step now was ≡ (path_waits time, w) → is_some was.outbox ≡ false
unsent now time was w told = (watch-told now time was w was.is_moved (is_some was.outbox) refl refl told).1

-- what waits has nothing to do before its time
pub due-waits : (now : ℕ) (time : Option ℕ) (w : Watch) → watch_step now w ≡ (path_waits time, w)
    → (w.is_moved ≡ false) × (is_some w.outbox ≡ false) × (path_due w.path ≡ time)
due-waits now time w told =
    let parts = watch-told now time w w w.is_moved (is_some w.outbox) refl refl told in
    let v = with_path (path_step now w.path).1 w in
    let waits = parts.2 in
    let due : path_due v.path ≡ time = due-told (path_due v.path) time v refl waits.1 in
    (parts.0, parts.1, ap (λ (x : Watch). path_due x.path) waits.0 ∙ due)
