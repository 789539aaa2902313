-- Errors of a socket over UDP, and when they end a session.
use Rattle.std.specs.Prelude.{ℕ, ◌+◌, ◌-◌, ◌^◌, min, nat_lt, not, true, false, if◌then◌else◌, Option, Some, None}
use Rattle.turn_session_path.specs.declared.socket_errors.ErrorRun.{ErrorRun}
use Rattle.turn_session_path.specs.declared.socket_errors.ErrorStep.{ErrorStep}
use Rattle.turn_session_path.specs.declared.socket_errors.ErrorStep.TheVariants.{SendBinding, WaitUntil, Idle, Ended}
use Rattle.turn_session_book.specs.declared.tags.Tag.{Tag}

abbrev pub second_after : ℕ → ℕ
second_after now = min (now + 1_000_000_000) (2 ^ 63 - 1)

-- the first error begins a second, and a further one is noted in its second
abbrev pub after_error : Tag → ℕ → Option ErrorRun → Option ErrorRun
after_error tag now None = Some (record { tag = tag; seconds = 0; until = second_after now; is_again = false })
after_error tag now (Some run) = Some (record run { is_again = true })

abbrev pub run_until : Option ErrorRun → Option ℕ
run_until None = None
run_until (Some run) = Some run.until

-- the result of `poll`, and the errors after it: a second without a further error ends the run, and one with such an error begins
-- the next, with a Binding request; the third of them ends the session
abbrev pub errors_step : ℕ → Option ErrorRun → ErrorStep × Option ErrorRun
errors_step now None = (Idle, None)
errors_step now (Some run) =
    if nat_lt now run.until then (WaitUntil run.until, Some run)
    else (if not run.is_again then (Idle, None)
    else (if nat_lt run.seconds 2 then (SendBinding, Some (record run { seconds = run.seconds + 1; until = second_after now; is_again = false }))
    else (Ended run.tag, Some run)))
