-- Calls that the relay passes on to its sessions, answers to its tasks, and leaving.
use Rattle.std.specs.Prelude.{◌≡◌, ◌⊎◌, ℕ, ◌∷◌, [], ◌++◌, false, List, map, Option, Some, None, Result, Ok, Err}
use Rattle.turn_client_api.specs.State.{State}
use Rattle.turn_session_book.specs.declared.causes.Why.TheVariants as Whys
use Rattle.turn_session_book.specs.declared.tags.Tag.{Tag}
use Rattle.turn_session_client.specs.Ending as Noted
use Rattle.turn_session.specs.Ending.{after_failure, after_full, after_room}
use Rattle.turn_session.specs.SessionState.{SessionState, new_session, with_noted}
use Rattle.turn_session.specs.declared.settings.SessionSettings.{SessionSettings}
use Rattle.turn_relay_tries.specs.declared.causes.Cause.{Cause}
use Rattle.turn_relay_tries.specs.declared.causes.Cause.TheVariants.{OwnError}
use Rattle.turn_relay_tries.specs.declared.tasks.Attempt.{Attempt}
use Rattle.turn_relay_plan.specs.Answering.{attempt_of, failed_task, socket_opened}
use Rattle.turn_relay_plan.specs.Failing as Plan
use Rattle.turn_relay_plan.specs.PlanState.{PlanState}
use Rattle.turn_relay_plan.specs.declared.error.TaskError.{TaskError}
use Rattle.turn_relay_plan.specs.declared.error.TaskError.TheVariants.{NoTask, OutOfMemory}
use Rattle.turn_relay_lives.specs.LiveState.{is_socket, left, new_live}
use Rattle.turn_relay.specs.Ending.{failure_event}
use Rattle.turn_relay.specs.RelayState.{RelayState, CallsFirst, called_first}
use Rattle.turn_relay.specs.Settings.{AreFor}
use Rattle.turn_relay.specs.declared.report.SocketReport.{SocketReport}
use Rattle.turn_relay.specs.declared.report.SocketReport.TheVariants as Of

-- ---- calls

-- the session of this socket is called
abbrev pub called_of : ℕ → (SessionState → SessionState) → RelayState → RelayState
called_of socket call r = called_first (is_socket socket) call r

abbrev pub CallsOf : ℕ → (SessionState → SessionState → Type 0) → Type 0 → RelayState → RelayState → Type 0
CallsOf socket call otherwise was r = CallsFirst (is_socket socket) call otherwise was r

abbrev pub reported : SocketReport → ℕ → SessionState → SessionState
reported (Of.Error tag) now s = after_failure tag now s
reported (Of.Ended tag) now s = with_noted (Noted.ended (Whys.SocketEnded tag) s.noted) s
reported Of.Full now s = after_full now s
reported Of.Room now s = after_room s
reported (Of.NoRoute tag) now s = with_noted (Noted.ended (Whys.NoRoute tag) s.noted) s
reported (Of.HostMoved tag) now s = with_noted (Noted.left_for (Whys.HostMoved tag) now s.noted) s

-- ---- tasks

abbrev pub with_plan : PlanState → RelayState → RelayState
with_plan plan r = record r { plan = plan }

-- one more session tries
abbrev pub opened : ℕ → Attempt → SessionState → RelayState → RelayState
opened number attempt session r =
    record r { plan = (socket_opened number r.plan).1; lives = r.lives ++ new_live number attempt session ∷ [] }

abbrev pub OpensFor : ℕ → Attempt → SessionState → RelayState → RelayState → Result Unit TaskError → Type 0
OpensFor number attempt session was r result =
    ((result ≡ Ok tt) × (r ≡ opened number attempt session was)) ⊎ ((result ≡ Err OutOfMemory) × (r ≡ was))

-- the session of this client has the settings of the relay
abbrev pub Opens : ℕ → List ℕ → ℕ → State → RelayState → RelayState → Result Unit TaskError → Type 0
Opens number seed now client was r result = by (attempt_of number was.plan)
  where
    by : Option Attempt → Type 0
    by None = (result ≡ Err NoTask) × (r ≡ was)
    by (Some attempt) = (settings : SessionSettings) × AreFor was.settings client.transport settings
        × OpensFor number attempt (new_session settings seed now client) was r result

-- the try has failed: its sessions leave, and that is reported
abbrev pub failed_by : Option Cause → ℕ → RelayState → RelayState
failed_by None now r = r
failed_by (Some cause) now r = record r {
  lives = map (left now) r.lives;
  report = failure_event false cause r.plan;
  redirects = r.settings.redirects;
  asked = [];
}

abbrev pub after_task : Result (Option Cause) TaskError × PlanState → ℕ → RelayState → Result Unit TaskError × RelayState
after_task (Ok cause, plan) now r = (Ok tt, failed_by cause now (with_plan plan r))
after_task (Err error, plan) now r = (Err error, with_plan plan r)

abbrev pub failed_task_step : ℕ → Tag → ℕ → RelayState → Result Unit TaskError × RelayState
failed_task_step number tag now r = after_task (failed_task number tag now r.plan) now r

-- ---- leaving

-- nothing is left to do for a session that has ended
abbrev pub all_left : ℕ → RelayState → RelayState
all_left now r = record r { lives = map (left now) r.lives; job = None }

abbrev pub left_relay : ℕ → RelayState → RelayState
left_relay now r = record (all_left now r) { plan = Plan.left r.plan }

-- an error of the caller's own, which no other try could mend
abbrev pub given_up_by_caller : Tag → ℕ → RelayState → RelayState
given_up_by_caller tag now r = record (all_left now r) { plan = Plan.after_failure (OwnError tag) now r.plan }
