-- A stream to the server that takes no bytes.
use Rattle.std.specs.Prelude.{ℕ, ◌+◌, ◌-◌, ◌^◌, min, nat_lt, if◌then◌else◌, Option, Some, None}
use Rattle.turn_session_path.specs.declared.full_stream.FullStep.{FullStep}
use Rattle.turn_session_path.specs.declared.full_stream.FullStep.TheVariants.{WaitUntil, Idle, Ended}

-- it is full since it first was
abbrev pub full_since : ℕ → Option ℕ → Option ℕ
full_since now None = Some now
full_since now (Some since) = Some since

-- what is received while it is full begins its time anew
abbrev pub since_received : ℕ → Option ℕ → Option ℕ
since_received now None = None
since_received now (Some since) = Some now

-- 60 s later it has ended
abbrev pub full_step : ℕ → Option ℕ → FullStep
full_step now None = Idle
full_step now (Some since) =
    let end = min (since + 60_000_000_000) (2 ^ 63 - 1) in
    if nat_lt now end then WaitUntil end else Ended
