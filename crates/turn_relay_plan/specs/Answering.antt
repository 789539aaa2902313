-- Answers of the caller to its tasks.
use Rattle.std.specs.Prelude.{◌≡◌, ◌⊎◌, ℕ, ◌==◌, if◌then◌else◌, Bool, Option, Some, None, Result, Ok, Err}
use Rattle.std.specs.declared.net.socket_addr.SocketAddr.{SocketAddr}
use Rattle.turn_session_book.specs.declared.tags.Tag.{Tag}
use Rattle.turn_relay_tries.specs.Addresses.{addresses_left, next_address}
use Rattle.turn_relay_tries.specs.Addresses as Addresses
use Rattle.turn_relay_tries.specs.Attempts.{no_attempts}
use Rattle.turn_relay_tries.specs.Tasks.{added, after_end, work_of}
use Rattle.turn_relay_tries.specs.declared.causes.Cause.{Cause}
use Rattle.turn_relay_tries.specs.declared.causes.Cause.TheVariants.{NoCredentials, NotConnected, NotResolved}
use Rattle.turn_relay_tries.specs.declared.tasks.Attempt.{Attempt}
use Rattle.turn_relay_tries.specs.declared.tasks.Work.{Work}
use Rattle.turn_relay_tries.specs.declared.tasks.Work.TheVariants.{Credentials, Resolve, Socket}
use Rattle.turn_relay_course.specs.Course.{after_ready, try_end}
use Rattle.turn_relay_plan.specs.Attempting.{task_end}
use Rattle.turn_relay_plan.specs.Failing.{after_failure, attempt_failed}
use Rattle.turn_relay_plan.specs.PlanState.{PlanState}
use Rattle.turn_relay_plan.specs.declared.error.TaskError.{TaskError}
use Rattle.turn_relay_plan.specs.declared.error.TaskError.TheVariants.{NoTask, NoAddress, OutOfMemory}

-- ---- answers that want memory

-- it becomes this, or without memory nothing changes
abbrev pub IsDone : PlanState → Result Unit TaskError → PlanState → PlanState → Type 0
IsDone t result was s = ((result ≡ Ok tt) × (s ≡ t)) ⊎ ((result ≡ Err OutOfMemory) × (s ≡ was))

-- what is refused changes nothing
abbrev pub Answers : Option PlanState → Result Unit TaskError → PlanState → PlanState → Type 0
Answers None result was s = (result ≡ Err NoTask) × (s ≡ was)
Answers (Some t) result was s = IsDone t result was s

-- ---- user name and password

-- the addresses of the server are wanted before the try has had its time
abbrev pub after_credentials : ℕ → ℕ → PlanState → PlanState
after_credentials number now s = record s {
  tasks = after_end number (added (Resolve s.course.server) (task_end now (try_end now s.course)) s.tasks);
  course = after_ready now s.course;
}

abbrev pub credentials_given : ℕ → ℕ → PlanState → Option PlanState
credentials_given number now s = by (work_of number s.tasks)
  where
    by : Option Work → Option PlanState
    by (Some Credentials) = Some (after_credentials number now s)
    by _ = None

-- ---- addresses

abbrev pub after_address : SocketAddr → PlanState → PlanState
after_address address s = record s { addresses = Addresses.added address s.addresses }

abbrev pub found_address : ℕ → SocketAddr → PlanState → Option PlanState
found_address number address s = by (work_of number s.tasks)
  where
    by : Option Work → Option PlanState
    by (Some (Resolve server)) = Some (after_address address s)
    by _ = None

abbrev pub after_resolving : ℕ → PlanState → PlanState
after_resolving number s =
    let next = next_address s.addresses in
    record s {
      tasks = after_end number s.tasks;
      attempts = no_attempts (addresses_left s.addresses);
      next = next.0;
      addresses = next.1;
    }

abbrev pub resolved_by : ℕ → PlanState → Result Unit TaskError × PlanState
resolved_by number s = if addresses_left s.addresses == 0 then (Err NoAddress, s) else (Ok tt, after_resolving number s)

abbrev pub resolved_name : ℕ → PlanState → Result Unit TaskError × PlanState
resolved_name number s = by (work_of number s.tasks)
  where
    by : Option Work → Result Unit TaskError × PlanState
    by (Some (Resolve server)) = resolved_by number s
    by _ = (Err NoTask, s)

-- ---- sockets

abbrev pub after_task : ℕ → PlanState → PlanState
after_task number s = record s { tasks = after_end number s.tasks }

abbrev pub attempt_of : ℕ → PlanState → Option Attempt
attempt_of number s = by (work_of number s.tasks)
  where
    by : Option Work → Option Attempt
    by (Some (Socket attempt)) = Some attempt
    by _ = None

abbrev pub socket_opened : ℕ → PlanState → Result Attempt TaskError × PlanState
socket_opened number s = by (work_of number s.tasks)
  where
    by : Option Work → Result Attempt TaskError × PlanState
    by (Some (Socket attempt)) = (Ok attempt, after_task number s)
    by _ = (Err NoTask, s)

-- ---- tasks that failed

abbrev pub failed_by : Cause → ℕ → PlanState → Result (Option Cause) TaskError × PlanState
failed_by cause now s = (Ok (Some cause), after_failure cause now s)

-- the cause of a try that has failed
abbrev pub cause_if : Cause → Bool → Option Cause
cause_if cause has_failed = if has_failed then Some cause else None

abbrev pub failed_socket : ℕ → Attempt → ℕ → PlanState → Result (Option Cause) TaskError × PlanState
failed_socket number attempt now s =
    let step = attempt_failed attempt.place NotConnected now (after_task number s) in (Ok (cause_if NotConnected step.0), step.1)

abbrev pub failed_task : ℕ → Tag → ℕ → PlanState → Result (Option Cause) TaskError × PlanState
failed_task number tag now s = by (work_of number s.tasks)
  where
    by : Option Work → Result (Option Cause) TaskError × PlanState
    by (Some Credentials) = failed_by (NoCredentials tag) now s
    by (Some (Resolve server)) = failed_by (NotResolved tag) now s
    by (Some (Socket attempt)) = failed_socket number attempt now s
    by _ = (Err NoTask, s)
