-- The checks of the path to the server: what is sent and reported next.
use Rattle.std.specs.Prelude.{ℕ, Bool, true, false, if◌then◌else◌, Option, Some, None, is_some}
use Rattle.std.specs.declared.net.socket_addr.SocketAddr.{SocketAddr}
use Rattle.turn_agent.specs.TransactionIds.{Source}
use Rattle.turn_stun.specs.declared.transport.TransportType.{TransportType}
use Rattle.turn_session_book.specs.Keys.{same_peer}
use Rattle.turn_session_path.specs.Path.{after_check, after_probing, first_path, ticket_of}
use Rattle.turn_session_path.specs.PathDue.{path_due}
use Rattle.turn_session_path.specs.PathPoll.{path_step}
use Rattle.turn_session_path.specs.PathResponses.{respond_step}
use Rattle.turn_session_path.specs.declared.path.Path.{Path}
use Rattle.turn_session_path.specs.declared.path.PathCheck.{PathCheck}
use Rattle.turn_session_path.specs.declared.path.PathResponse.{PathResponse}
use Rattle.turn_session_path.specs.declared.path.PathResponse.TheVariants as Responses
use Rattle.turn_session_path.specs.declared.path.PathTask.{PathTask}
use Rattle.turn_session_path.specs.declared.path.PathTask.TheVariants as Tasks
use Rattle.turn_session_life.specs.declared.watch.Checked.{Checked}
use Rattle.turn_session_life.specs.declared.watch.OwnRequest.{OwnRequest}
use Rattle.turn_session_life.specs.declared.watch.Watch.{Watch}
use Rattle.turn_session_life.specs.declared.watch.WatchStep.{WatchStep}
use Rattle.turn_session_life.specs.declared.watch.WatchStep.TheVariants.{Now, WaitUntil, Idle, Doubt, Moved, End}

abbrev pub watching : TransportType → Option ℕ → Source → ℕ → Watch
watching transport every ids now =
    record { path = first_path transport every ids now; outbox = None; result = None; mapped = None; moved = None; is_moved = false }

-- the path of an open session is probed, and its moves are seen from this address on
abbrev pub after_opening : Option ℕ → Option SocketAddr → ℕ → Watch → Watch
after_opening every mapped now w = record w { path = after_probing every now w.path; mapped = mapped }

abbrev pub with_path : Path → Watch → Watch
with_path path w = record w { path = path }

-- ---- the caller's check

-- who asks before its result was reported shares its ticket
abbrev pub shared_ticket : ℕ → Watch → ℕ
shared_ticket ticket w = by w.result
  where
    by : Option Checked → ℕ
    by (Some checked) = checked.ticket
    by None = ticket_of ticket w.path

abbrev pub watched_check : ℕ → ℕ → Watch → Watch
watched_check ticket now w = if is_some w.result then w else with_path (after_check ticket now w.path) w

abbrev pub unanswered_check : ℕ → Checked
unanswered_check ticket = record { ticket = ticket; is_answered = false; mapped = None }

abbrev pub answered_check : ℕ → Option SocketAddr → Checked
answered_check ticket mapped = record { ticket = ticket; is_answered = true; mapped = mapped }

-- ---- what is due

abbrev pub next_wait : Watch → WatchStep
next_wait w = by (path_due w.path)
  where
    by : Option ℕ → WatchStep
    by (Some time) = WaitUntil time
    by None = Idle

abbrev pub after_task : PathTask → Watch → WatchStep × Watch
after_task (Tasks.Send request id) w = (Now, record w { outbox = Some (record { request = request; id = id }) })
after_task (Tasks.Unanswered ticket) w = (Now, record w { result = Some (unanswered_check ticket) })
after_task Tasks.Doubt w = (Doubt, w)
after_task (Tasks.End why) w = (End why, w)

abbrev pub after_poll : Option PathTask → Watch → WatchStep × Watch
after_poll (Some task) w = after_task task w
after_poll None w = (next_wait w, w)

-- a move comes first, and then a request that was not sent yet
abbrev pub watch_step : ℕ → Watch → WatchStep × Watch
watch_step now w =
    if w.is_moved then (Moved, record w { is_moved = false })
    else (if is_some w.outbox then (Now, w)
    else (let step = path_step now w.path in after_poll step.0 (with_path step.1 w)))

-- ---- responses

-- another address than the one before is a move
abbrev pub moved_from : Option SocketAddr → SocketAddr → Watch → Watch
moved_from None address w = w
moved_from (Some before) address w = if same_peer before address then w else record w { moved = Some address; is_moved = true }

abbrev pub after_look : Option SocketAddr → Watch → Watch
after_look None w = w
after_look (Some address) w = record (moved_from w.mapped address w) { mapped = Some address }

abbrev pub after_path_response : PathResponse → Option SocketAddr → Watch → Bool × Watch
after_path_response Responses.Other mapped w = (false, w)
after_path_response (Responses.Check ticket) mapped w =
    (true, after_look mapped (record w { result = Some (answered_check ticket mapped) }))
after_path_response Responses.Own mapped w = (true, after_look mapped w)

-- a response with this ID, to a request of the path or not
abbrev pub watched_response : ℕ → Option SocketAddr → ℕ → Watch → Bool × Watch
watched_response id mapped now w =
    let step = respond_step id now w.path in after_path_response step.0 mapped (with_path step.1 w)

-- ---- what is sent and reported, each once

abbrev pub taken_request : Watch → Option OwnRequest × Watch
taken_request w = (w.outbox, record w { outbox = None })

abbrev pub taken_result : Watch → Option Checked × Watch
taken_result w = (w.result, record w { result = None })

abbrev pub taken_move : Watch → Option SocketAddr × Watch
taken_move w = (w.moved, record w { moved = None })

-- a check that is under way had no response
abbrev pub given_up : Watch → Option Checked × Watch
given_up w = by w.path.check
  where
    by : Option PathCheck → Option Checked × Watch
    by None = (None, w)
    by (Some check) = (Some (unanswered_check check.ticket), with_path (record w.path { check = None }) w)
