-- What is due on the path. Each part has the task that is due in it, if there is one, and the path after it.
use Rattle.std.specs.Prelude.{ℕ, ◌+◌, ◌-◌, ◌^◌, min, nat_le, nat_lt, Bool, true, if◌then◌else◌, Option, Some, None}
use Rattle.turn_stun.specs.declared.transport.TransportType.{TransportType}
use Rattle.turn_stun.specs.declared.transport.TransportType.TheVariants.{Tcp}
use Rattle.turn_agent.specs.TransactionIds.{next_id, behind_id}
use Rattle.turn_session_path.specs.Asked.{asked_step, asked_with, behind_round}
use Rattle.turn_session_path.specs.FullStream.{full_step}
use Rattle.turn_session_path.specs.Probes.{after_silence, has_failed}
use Rattle.turn_session_path.specs.SocketErrors.{errors_step}
use Rattle.turn_session_path.specs.declared.asked.Asked.{Asked}
use Rattle.turn_session_path.specs.declared.asked.AskedStep.{AskedStep}
use Rattle.turn_session_path.specs.declared.asked.AskedStep.TheVariants as Asking
use Rattle.turn_session_book.specs.declared.causes.Why.TheVariants as Why
use Rattle.turn_session_path.specs.declared.full_stream.FullStep.{FullStep}
use Rattle.turn_session_path.specs.declared.full_stream.FullStep.TheVariants as Full
use Rattle.turn_session_path.specs.declared.path.ErrorRequest.{ErrorRequest}
use Rattle.turn_session_path.specs.declared.path.ErrorRequest.TheVariants.{Due, Sent}
use Rattle.turn_session_path.specs.declared.path.Path.{Path}
use Rattle.turn_session_path.specs.declared.path.PathCheck.{PathCheck}
use Rattle.turn_session_path.specs.declared.path.PathTask.{PathTask}
use Rattle.turn_session_path.specs.declared.path.PathTask.TheVariants.{Send, Unanswered, Doubt, End}
use Rattle.turn_session_path.specs.declared.prober.Prober.{Prober}
use Rattle.turn_session_path.specs.declared.probes.Probes.{Probes}
use Rattle.turn_session_path.specs.declared.round.CheckRequest.TheVariants.{Binding}
use Rattle.turn_session_path.specs.declared.socket_errors.ErrorRun.{ErrorRun}
use Rattle.turn_session_path.specs.declared.socket_errors.ErrorStep.{ErrorStep}
use Rattle.turn_session_path.specs.declared.socket_errors.ErrorStep.TheVariants as Errors

-- ---- errors of the socket

-- a second with a further error leads to a Binding request, and the third one ends the session
abbrev pub errors_task : ℕ → Path → Option PathTask × Path
errors_task now p = by (errors_step now p.errors.run)
  where
    by : ErrorStep × Option ErrorRun → Option PathTask × Path
    by (Errors.Ended tag, run) = (Some (End (Why.SocketErrors tag)), record p { errors = record { run = run } })
    by (Errors.SendBinding, run) = (None, record p { errors = record { run = run }; error_request = Due })
    by (_, run) = (None, record p { errors = record { run = run } })

-- that request
abbrev pub error_request_task : Path → Option PathTask × Path
error_request_task p = by p.error_request
  where
    by : ErrorRequest → Option PathTask × Path
    by Due = (Some (Send Binding (next_id p.ids)), record p { error_request = Sent (next_id p.ids); ids = behind_id p.ids })
    by _ = (None, p)

-- ---- a full stream

abbrev pub full_task : ℕ → Path → Option PathTask
full_task now p = by (full_step now p.full.since)
  where
    by : FullStep → Option PathTask
    by Full.Ended = Some (End Why.StreamFull)
    by _ = None

-- ---- the caller's check

abbrev pub check_task : ℕ → Path → Option PathTask × Path
check_task now p = by p.check
  where
    step : ℕ → AskedStep × Asked → Option PathTask × Path
    step ticket (Asking.Send request id, asked) =
        (Some (Send request id), record p { check = Some (record { ticket = ticket; asked = asked }) })
    step ticket (Asking.WaitUntil time, asked) = (None, p)
    step ticket (Asking.Unanswered, asked) = (Some (Unanswered ticket), record p { check = None })

    by : Option PathCheck → Option PathTask × Path
    by None = (None, p)
    by (Some check) = step check.ticket (asked_step p.transport now check.asked)

-- ---- probes

-- over a stream, data that was sent within 10 s before a round began delays responses
abbrev pub counts : ℕ → Path → Bool
counts began p = by p.sent p.transport
  where
    by : Option ℕ → TransportType → Bool
    by (Some sent) Tcp = nat_le (min (sent + 10_000_000_000) (2 ^ 63 - 1)) began
    by _ _ = true

-- the round that begins now, and its first request
abbrev pub begun_step : ℕ → Probes → Path → Option PathTask × Path
begun_step now probes p = by (asked_step p.transport now (asked_with probes.asks now p.ids))
  where
    by : AskedStep × Asked → Option PathTask × Path
    by (Asking.Send request id, after) =
        (Some (Send request id), record p { prober = Some (record { probes = probes; asked = Some after }); ids = behind_round p.ids })
    by (_, after) = (None, record p { ids = behind_round p.ids })

-- a round begins when it is due
abbrev pub begin_step : ℕ → Probes → Path → Option PathTask × Path
begin_step now probes p = if nat_lt now probes.due then (None, p) else begun_step now probes p

-- a round without a response: the third in a row ends the session, and after another the allocation is in doubt; one that does not
-- count leads to nothing, so the next one begins if it is due
abbrev pub end_step : ℕ → Probes → ℕ → Path → Option PathTask × Path
end_step now probes began p =
    let after = after_silence (counts began p) now probes in
    let ended = record p { prober = Some (record { probes = after; asked = None }) } in
    if counts began p then (Some (if has_failed after then End (Why.Unanswered 3) else Doubt), ended) else begin_step now after ended

abbrev pub round_task : ℕ → Probes → Asked → Path → Option PathTask × Path
round_task now probes asked p = by (asked_step p.transport now asked)
  where
    by : AskedStep × Asked → Option PathTask × Path
    by (Asking.Send request id, after) =
        (Some (Send request id), record p { prober = Some (record { probes = probes; asked = Some after }) })
    by (Asking.WaitUntil time, after) = (None, p)
    by (Asking.Unanswered, after) = end_step now probes after.round.began p

abbrev pub probe_task : ℕ → Path → Option PathTask × Path
probe_task now p = by p.prober
  where
    round : Probes → Option Asked → Option PathTask × Path
    round probes (Some asked) = round_task now probes asked p
    round probes None = begin_step now probes p

    by : Option Prober → Option PathTask × Path
    by None = (None, p)
    by (Some prober) = round prober.probes prober.asked

-- ---- all of it

-- the task of the first part, or else that of the next
abbrev pub or_else : Option PathTask × Path → (Path → Option PathTask × Path) → Option PathTask × Path
or_else (Some task, p) next = (Some task, p)
or_else (None, p) next = next p

-- the result of `poll`, and the path after it
abbrev pub path_step : ℕ → Path → Option PathTask × Path
path_step now p =
    or_else (errors_task now p) (λ a.
    or_else (error_request_task a) (λ b.
    or_else (full_task now b, b) (λ c.
    or_else (check_task now c) (probe_task now))))
