-- When something is due on the path.
use Rattle.std.specs.Prelude.{ℕ, ◌+◌, ◌-◌, ◌^◌, ◌<◌, min, Option, Some, None, ⊤}
use Rattle.turn_session_path.specs.Rounds.{due_time}
use Rattle.turn_session_path.specs.declared.asked.Asked.{Asked}
use Rattle.turn_session_path.specs.declared.path.ErrorRequest.{ErrorRequest}
use Rattle.turn_session_path.specs.declared.path.ErrorRequest.TheVariants.{Due}
use Rattle.turn_session_path.specs.declared.path.Path.{Path}
use Rattle.turn_session_path.specs.declared.path.PathCheck.{PathCheck}
use Rattle.turn_session_path.specs.declared.prober.Prober.{Prober}
use Rattle.turn_session_path.specs.SocketErrors.{run_until}

-- the sooner of two times, of which each may be missing
abbrev pub sooner : Option ℕ → Option ℕ → Option ℕ
sooner None b = b
sooner (Some a) None = Some a
sooner (Some a) (Some b) = Some (min a b)

-- the second after an error ends, or a request is to be sent at once
abbrev pub errors_due : Path → Option ℕ
errors_due p = by p.error_request
  where
    by : ErrorRequest → Option ℕ
    by Due = Some 0
    by _ = run_until p.errors.run

abbrev pub full_due : Option ℕ → Option ℕ
full_due None = None
full_due (Some since) = Some (min (since + 60_000_000_000) (2 ^ 63 - 1))

abbrev pub check_due : Option PathCheck → Option ℕ
check_due None = None
check_due (Some check) = Some (due_time check.asked.round)

-- the round under way, or else the next one
abbrev pub probe_due : Option Prober → Option ℕ
probe_due None = None
probe_due (Some prober) = by prober.asked
  where
    by : Option Asked → Option ℕ
    by (Some asked) = Some (due_time asked.round)
    by None = Some prober.probes.due

abbrev pub path_due : Path → Option ℕ
path_due p = sooner (sooner (errors_due p) (full_due p.full.since)) (sooner (check_due p.check) (probe_due p.prober))

-- nothing is due now or before
abbrev pub IsLater : ℕ → Option ℕ → Type 0
IsLater now None = ⊤
IsLater now (Some time) = now < time
