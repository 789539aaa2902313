-- Attempts with the addresses of a server (RFC 8305, section 5).
use Rattle.std.specs.Prelude.{ℕ, Option, Some, None}
use Rattle.std.specs.declared.net.socket_addr.SocketAddr.{SocketAddr}
use Rattle.turn_session_path.specs.PathDue.{sooner}
use Rattle.turn_relay_tries.specs.Addresses.{next_address}
use Rattle.turn_relay_tries.specs.Attempts as Attempting
use Rattle.turn_relay_tries.specs.Tasks.{added, deadline_of}
use Rattle.turn_relay_tries.specs.Tries.{after}
use Rattle.turn_relay_tries.specs.declared.attempts.Attempts.{Attempts}
use Rattle.turn_relay_tries.specs.declared.attempts.AttemptStep.{AttemptStep}
use Rattle.turn_relay_tries.specs.declared.attempts.AttemptStep.TheVariants.{Begin, WaitUntil, Idle}
use Rattle.turn_relay_tries.specs.declared.tasks.Attempt.{Attempt}
use Rattle.turn_relay_tries.specs.declared.tasks.Work.TheVariants.{Socket}
use Rattle.turn_relay_course.specs.Course.{due_time}
use Rattle.turn_relay_course.specs.declared.course.Phase.{Phase}
use Rattle.turn_relay_course.specs.declared.course.Phase.TheVariants.{Trying}
use Rattle.turn_relay_plan.specs.PlanState.{PlanState}
use Rattle.turn_relay_plan.specs.declared.step.PlanStep.{PlanStep}
use Rattle.turn_relay_plan.specs.declared.step.PlanStep.TheVariants.{Again, Wait}

-- a task is to be done before the try has had its time, or within 30 s if it has none
abbrev pub task_end : ℕ → Option ℕ → ℕ
task_end now (Some until) = until
task_end now None = after now 30_000_000_000

abbrev pub socket_end : ℕ → Phase → ℕ
socket_end now (Trying until) = task_end now until
socket_end now _ = task_end now None

abbrev pub attempt_of : ℕ → SocketAddr → PlanState → Attempt
attempt_of place to s = record { server = s.course.server; place = place; to = to }

abbrev pub attempted : ℕ → SocketAddr → Attempts → ℕ → PlanState → PlanState
attempted place to attempts now s =
    let next = next_address s.addresses in
    record s {
      tasks = added (Socket (attempt_of place to s)) (socket_end now s.course.phase) s.tasks;
      next = next.0;
      addresses = next.1;
      attempts = attempts;
    }

-- when something is due that is no attempt
abbrev pub plan_due : PlanState → Option ℕ
plan_due s = sooner (due_time s.course) (deadline_of s.tasks)

abbrev pub attempt_by : AttemptStep × Attempts → SocketAddr → ℕ → PlanState → PlanStep × PlanState
attempt_by (Begin place, attempts) to now s = (Again, attempted place to attempts now s)
attempt_by (WaitUntil time, attempts) to now s = (Wait (sooner (plan_due s) (Some time)), s)
attempt_by (Idle, attempts) to now s = (Wait (plan_due s), s)

abbrev pub attempt_to : SocketAddr → ℕ → PlanState → PlanStep × PlanState
attempt_to to now s = attempt_by (Attempting.attempt_step now s.attempts) to now s

abbrev pub attempt_step : ℕ → PlanState → PlanStep × PlanState
attempt_step now s = by s.next
  where
    by : Option SocketAddr → PlanStep × PlanState
    by (Some to) = attempt_to to now s
    by None = (Wait (plan_due s), s)
