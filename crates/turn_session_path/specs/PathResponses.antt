-- What is received from the server, and what it says of the path.
use Rattle.std.specs.Prelude.{ℕ, ◌==◌, Bool, false, if◌then◌else◌, Option, Some, None}
use Rattle.std.specs.Option.{option_map}
use Rattle.turn_session_path.specs.Asked.{request_with}
use Rattle.turn_session_path.specs.FullStream.{since_received}
use Rattle.turn_session_path.specs.Prober.{after_other, after_probe_answer}
use Rattle.turn_session_path.specs.declared.asked.Asked.{Asked}
use Rattle.turn_session_path.specs.declared.path.ErrorRequest.{ErrorRequest}
use Rattle.turn_session_path.specs.declared.path.ErrorRequest.TheVariants.{Unsent, Sent}
use Rattle.turn_session_path.specs.declared.path.Path.{Path}
use Rattle.turn_session_path.specs.declared.path.PathCheck.{PathCheck}
use Rattle.turn_session_path.specs.declared.path.PathResponse.{PathResponse}
use Rattle.turn_session_path.specs.declared.path.PathResponse.TheVariants.{Other, Check, Own}
use Rattle.turn_session_path.specs.declared.prober.Prober.{Prober}
use Rattle.turn_session_path.specs.declared.round.CheckRequest.{CheckRequest}

-- the errors of the socket are forgotten, and a full stream has another 60 s
abbrev pub after_sign : ℕ → Path → Path
after_sign now p =
    record p { errors = record { run = None }; error_request = Unsent; full = record { since = since_received now p.full.since } }

-- and no probe was unanswered
abbrev pub after_received : ℕ → Path → Path
after_received now p = record (after_sign now p) { prober = option_map (after_other now) p.prober }

-- ---- responses to the path's own requests

abbrev pub check_with : ℕ → Option PathCheck → Option ℕ
check_with id None = None
check_with id (Some check) = if id == check.asked.binding then Some check.ticket else None

abbrev pub is_error_request : ℕ → ErrorRequest → Bool
is_error_request id (Sent sent) = id == sent
is_error_request id _ = false

-- the request of the probe under way that has this ID
abbrev pub request_in : ℕ → Option Asked → Option CheckRequest
request_in id None = None
request_in id (Some asked) = request_with id asked

abbrev pub probe_request : ℕ → Option Prober → Option CheckRequest
probe_request id None = None
probe_request id (Some prober) = request_in id prober.asked

-- a response to it ends the probe
abbrev pub probe_response : ℕ → ℕ → Path → PathResponse × Path
probe_response id now p = by (probe_request id p.prober)
  where
    by : Option CheckRequest → PathResponse × Path
    by None = (Other, p)
    by (Some request) = (Own, record (after_sign now p) { prober = option_map (after_probe_answer request now) p.prober })

-- a response with this ID: to the caller's check, to the request after an error, or to a probe
abbrev pub respond_step : ℕ → ℕ → Path → PathResponse × Path
respond_step id now p = by (check_with id p.check)
  where
    by : Option ℕ → PathResponse × Path
    by (Some ticket) = (Check ticket, record (after_received now p) { check = None })
    by None = if is_error_request id p.error_request then (Own, after_received now p) else probe_response id now p
