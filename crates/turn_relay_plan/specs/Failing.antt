-- What has failed.
use Rattle.std.specs.Prelude.{ℕ, Bool, if◌then◌else◌, None}
use Rattle.turn_relay_tries.specs.Addresses.{no_addresses}
use Rattle.turn_relay_tries.specs.Attempts.{has_failed, no_attempts}
use Rattle.turn_relay_tries.specs.Attempts as Attempting
use Rattle.turn_relay_tries.specs.Failures.{after_leaving}
use Rattle.turn_relay_tries.specs.Tasks.{withdrawn}
use Rattle.turn_relay_tries.specs.declared.causes.Cause.{Cause}
use Rattle.turn_relay_course.specs.Course as Courses
use Rattle.turn_relay_plan.specs.PlanState.{PlanState}
use Rattle.turn_relay_plan.specs.declared.step.PlanStep.{PlanStep}
use Rattle.turn_relay_plan.specs.declared.step.PlanStep.TheVariants.{Failed}

-- no further address is attempted, and no answer to a task is awaited
abbrev pub stopped : PlanState → PlanState
stopped s = record s { tasks = withdrawn s.tasks; addresses = no_addresses; next = None; attempts = no_attempts 0 }

-- the try has failed, or the relay is down
abbrev pub after_failure : Cause → ℕ → PlanState → PlanState
after_failure cause now s = stopped (record s { course = Courses.after_failure cause now s.course })

abbrev pub failed_step : Cause → ℕ → PlanState → PlanStep × PlanState
failed_step cause now s = (Failed cause, after_failure cause now s)

-- the try fails with its last address
abbrev pub attempt_failed : ℕ → Cause → ℕ → PlanState → Bool × PlanState
attempt_failed place cause now s =
    let attempts = Attempting.after_failure place s.attempts in
    let t = record s { attempts = attempts } in
    (has_failed attempts, if has_failed attempts then after_failure cause now t else t)

-- the server may keep an allocation that the relay had
abbrev pub allocation_left : ℕ → PlanState → PlanState
allocation_left until s = record s { course = record s.course { failures = after_leaving until s.course.failures } }

abbrev pub left : PlanState → PlanState
left s = stopped (record s { course = Courses.after_leaving s.course })
