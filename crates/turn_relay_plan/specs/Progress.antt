-- How far a relay comes.
use Rattle.std.specs.Prelude.{ℕ, Some}
use Rattle.std.specs.declared.net.socket_addr.SocketAddr.{SocketAddr}
use Rattle.turn_relay_tries.specs.Attempts.{no_attempts}
use Rattle.turn_relay_course.specs.Course.{after_sign, opened_course}
use Rattle.turn_relay_course.specs.Course as Courses
use Rattle.turn_relay_plan.specs.Failing.{stopped}
use Rattle.turn_relay_plan.specs.PlanState.{PlanState}

-- the first attempt that the server responds to is used, and no other begins
abbrev pub after_response : PlanState → PlanState
after_response s = stopped (record s { course = after_sign s.course })

-- another server is attempted in the place of this one (RFC 8489, section 10)
abbrev pub redirected : SocketAddr → PlanState → PlanState
redirected to s = record s { next = Some to; attempts = no_attempts 1 }

abbrev pub after_opening : PlanState → PlanState
after_opening s = record s { course = opened_course s.course }

abbrev pub after_restoring : ℕ → PlanState → PlanState
after_restoring now s = record s { course = Courses.after_restoring now s.course }
