-- With which of a server's addresses a connection is attempted, and when (RFC 8305, section 5).
use Rattle.std.specs.Prelude.{ℕ, ◌+◌, ◌-◌, ◌^◌, min, nat_lt, not, Bool, if◌then◌else◌}
use Rattle.turn_relay_tries.specs.Tries.{after}
use Rattle.turn_relay_tries.specs.declared.attempts.Attempts.{Attempts}
use Rattle.turn_relay_tries.specs.declared.attempts.AttemptStep.{AttemptStep}
use Rattle.turn_relay_tries.specs.declared.attempts.AttemptStep.TheVariants.{Begin, WaitUntil, Idle}

abbrev pub no_attempts : ℕ → Attempts
no_attempts addresses = record { addresses = addresses; begun = 0; failed = 0; due = 0 }

-- an attempt begins, and the next one 250 ms later
abbrev pub begin_attempt : ℕ → Attempts → AttemptStep × Attempts
begin_attempt now a = (Begin a.begun, record a { begun = a.begun + 1; due = after now 250_000_000 })

-- the result of `poll`, and the attempts after it
abbrev pub attempt_step : ℕ → Attempts → AttemptStep × Attempts
attempt_step now a =
    if not (nat_lt a.begun a.addresses) then (Idle, a)
    else (if nat_lt now a.due then (WaitUntil a.due, a)
    else begin_attempt now a)

-- the next one begins at once if the last one has failed
abbrev pub due_after_failure : ℕ → Attempts → ℕ
due_after_failure place a = if nat_lt (min (place + 1) (2 ^ 64 - 1)) a.begun then a.due else 0

abbrev pub after_failure : ℕ → Attempts → Attempts
after_failure place a = record a { failed = min (a.failed + 1) (2 ^ 64 - 1); due = due_after_failure place a }

abbrev pub has_failed : Attempts → Bool
has_failed a = not (nat_lt a.failed a.addresses)
