-- What the steps of the sessions lead to.
use Rattle.std.specs.Prelude.{ℕ, Bool, false, if◌then◌else◌, map, Option, Some}
use Rattle.std.specs.declared.net.socket_addr.SocketAddr.{SocketAddr}
use Rattle.turn_session_book.specs.declared.causes.Why.{Why}
use Rattle.turn_session_book.specs.declared.events.Event.{Event}
use Rattle.turn_session_book.specs.declared.events.Event.TheVariants as Said
use Rattle.turn_relay_tries.specs.Wanted.{anew}
use Rattle.turn_relay_tries.specs.declared.causes.Cause.TheVariants.{Life}
use Rattle.turn_relay_tries.specs.declared.tasks.Work.TheVariants.{Close}
use Rattle.turn_relay_plan.specs.Failing.{attempt_failed}
use Rattle.turn_relay_plan.specs.PlanState.{PlanState}
use Rattle.turn_relay_plan.specs.Progress.{after_opening, after_response}
use Rattle.turn_relay_lives.specs.LiveState.{chosen}
use Rattle.turn_relay_lives.specs.declared.link.Link.{Link}
use Rattle.turn_relay_lives.specs.declared.link.Role.{Role}
use Rattle.turn_relay_lives.specs.declared.link.Role.TheVariants.{Trying, InUse, Leaving}
use Rattle.turn_relay_lives.specs.declared.step.LifeStep.{LifeStep}
use Rattle.turn_relay_lives.specs.declared.step.LifeStep.TheVariants as Step
use Rattle.turn_relay.specs.Ending.{again, failed_step, left_at}
use Rattle.turn_relay.specs.RelayState.{RelayState}
use Rattle.turn_relay.specs.Restoring.{outcome_step}
use Rattle.turn_relay.specs.declared.due.RelayDue.{RelayDue}
use Rattle.turn_relay.specs.declared.due.RelayDue.TheVariants as Due
use Rattle.turn_relay.specs.declared.events.RelayEvent.TheVariants as Relay
use Rattle.turn_relay.specs.declared.job.Job.TheVariants.{End, WantAgain}

abbrev pub said : Event → RelayState → RelayDue × RelayState
said event r = (Due.Event (Relay.Session event), r)

-- ---- a session whose server has not responded

-- the first that is heard is used, and the others leave
abbrev pub heard : Link → ℕ → RelayState → RelayDue × RelayState
heard link now r =
    said Said.Heard (record r { lives = map (chosen link.socket now) r.lives; plan = after_response r.plan })

abbrev pub failed_if : Bool × PlanState → Why → ℕ → RelayState → RelayDue × RelayState
failed_if (has_failed, p) why now r =
    let t = record r { plan = p } in if has_failed then failed_step false (Life why) now t else (again now, t)

-- with the last attempt the try has failed
abbrev pub attempt_lost : Link → Why → ℕ → RelayState → RelayDue × RelayState
attempt_lost link why now r =
    failed_if (attempt_failed link.attempt.place (Life why) now r.plan) why now
    (record r { lives = left_at link.socket now r.lives })

abbrev pub sign_step : Link → Event → ℕ → RelayState → RelayDue × RelayState
sign_step link Said.Heard now r = heard link now r
sign_step link (Said.Ending why) now r = attempt_lost link why now r
sign_step link (Said.Over why) now r = attempt_lost link why now r
sign_step link _ now r = (again now, r)

-- ---- the session that is used

-- there is an address, and what the session before had is requested again
abbrev pub opened : SocketAddr → Option SocketAddr → ℕ → RelayState → RelayDue × RelayState
opened relayed mapped now r = (
  again now,
  record r {
    plan = after_opening r.plan;
    wanted = anew r.wanted;
    addresses = Some (record { relayed = relayed; mapped = mapped; before = r.last });
  },
)

abbrev pub used_step : Link → Event → ℕ → RelayState → RelayDue × RelayState
used_step link (Said.Up relayed mapped) now r = opened relayed mapped now r
used_step link (Said.Outcome ticket key outcome) now r = outcome_step key outcome now r
used_step link (Said.Lost key outcome) now r = (Due.Event (Relay.Lost key outcome), record r { job = Some (WantAgain key) })
used_step link (Said.Ending why) now r = (again now, record r { job = Some (End link why) })
used_step link (Said.Over why) now r = (again now, record r { job = Some (End link why) })
used_step link event now r = said event r

-- ---- a session that leaves

-- of which only the result of a check is reported
abbrev pub leaving_due : Event → ℕ → RelayDue
leaving_due (Said.Checked ticket is_answered mapped) now = Due.Event (Relay.Session (Said.Checked ticket is_answered mapped))
leaving_due _ now = again now

-- ---- the step

abbrev pub event_in : Role → Link → Event → ℕ → RelayState → RelayDue × RelayState
event_in Trying link event now r = sign_step link event now r
event_in InUse link event now r = used_step link event now r
event_in Leaving link event now r = (leaving_due event now, r)

abbrev pub event_step : Link → Event → ℕ → RelayState → RelayDue × RelayState
event_step link event now r = event_in link.role link event now r

abbrev pub taken_step : LifeStep → ℕ → RelayState → RelayDue × RelayState
taken_step (Step.Connection link answer) now r = (Due.Connection link.socket answer, r)
taken_step (Step.Packet link packet) now r = (Due.Packet link.socket packet, r)
taken_step (Step.Event link event) now r = event_step link event now r
taken_step Step.Again now r = (again now, r)
taken_step (Step.Closed link) now r = (Due.Task (record { number = link.socket; work = Close }), r)
taken_step (Step.Wait time) now r = (Due.Wait time, r)
