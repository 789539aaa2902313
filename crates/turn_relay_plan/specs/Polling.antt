-- What is due next in a plan: a try that begins or has had its time, a task that is late, and then an attempt.
use Rattle.std.specs.Prelude.{ℕ, if◌then◌else◌, Option, Some, None}
use Rattle.turn_relay_tries.specs.Tasks.{added, late_task}
use Rattle.turn_relay_tries.specs.Tries.{after}
use Rattle.turn_relay_tries.specs.declared.causes.Cause.TheVariants.{NotDone, TooSlow}
use Rattle.turn_relay_tries.specs.declared.tasks.Task.{Task}
use Rattle.turn_relay_tries.specs.declared.tasks.Work.TheVariants.{Credentials}
use Rattle.turn_relay_course.specs.Course.{begin_step, is_due, is_late}
use Rattle.turn_relay_plan.specs.Attempting.{attempt_step}
use Rattle.turn_relay_plan.specs.Failing.{failed_step}
use Rattle.turn_relay_plan.specs.PlanState.{PlanState}
use Rattle.turn_relay_plan.specs.declared.step.PlanStep.{PlanStep}
use Rattle.turn_relay_plan.specs.declared.step.PlanStep.TheVariants.{Again}

-- user name and password are wanted within 30 s
abbrev pub begun : ℕ → PlanState → PlanState
begun now s = record s { tasks = added Credentials (after now 30_000_000_000) s.tasks; course = (begin_step now s.course).1 }

abbrev pub too_slow : ℕ → PlanState → PlanStep × PlanState
too_slow now s = failed_step (TooSlow s.course.tries.length) now s

abbrev pub late_or : ℕ → PlanState → PlanStep × PlanState
late_or now s = by (late_task now s.tasks)
  where
    by : Option Task → PlanStep × PlanState
    by (Some task) = failed_step (NotDone task.work) now s
    by None = attempt_step now s

abbrev pub plan_step : ℕ → PlanState → PlanStep × PlanState
plan_step now s =
    if is_due now s.course then (Again, begun now s)
    else (if is_late now s.course then too_slow now s
    else late_or now s)
