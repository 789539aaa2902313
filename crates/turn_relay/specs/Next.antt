-- What is due next in a relay: what was reported, what an event has led to, then its sessions, then its requests, its tasks and
-- its plan.
use Rattle.std.specs.Prelude.{◌≡◌, ◌⊎◌, ℕ, List, Option, Some, None}
use Rattle.turn_session_path.specs.PathDue.{sooner}
use Rattle.turn_relay_tries.specs.Tasks.{after_giving, next_task}
use Rattle.turn_session_book.specs.declared.keys.Key.{Key}
use Rattle.turn_relay_tries.specs.Wanted.{due_in, next_key}
use Rattle.turn_relay_tries.specs.declared.tasks.Task.{Task}
use Rattle.turn_relay_course.specs.declared.course.Phase.{Phase}
use Rattle.turn_relay_course.specs.declared.course.Phase.TheVariants as At
use Rattle.turn_relay_plan.specs.PlanState.{PlanState}
use Rattle.turn_relay_plan.specs.Polling.{plan_step}
use Rattle.turn_relay_plan.specs.declared.step.PlanStep.{PlanStep}
use Rattle.turn_relay_plan.specs.declared.step.PlanStep.TheVariants as Plan
use Rattle.turn_relay_lives.specs.LifeSteps.{LivesFail, LivesNext}
use Rattle.turn_relay_lives.specs.LiveState.{LiveState}
use Rattle.turn_relay_lives.specs.declared.step.LifeStep.{LifeStep}
use Rattle.turn_relay_lives.specs.declared.step.LifeStep.TheVariants as Step
use Rattle.turn_relay.specs.Ending.{EndsLater, again, end_step, given_up, wanted_again}
use Rattle.turn_relay.specs.Finishing.{finish_step}
use Rattle.turn_relay.specs.RelayState.{RelayState}
use Rattle.turn_relay.specs.Restoring.{AskingFails, Restores}
use Rattle.turn_relay.specs.Taking.{taken_step}
use Rattle.turn_relay.specs.declared.due.RelayDue.{RelayDue}
use Rattle.turn_relay.specs.declared.due.RelayDue.TheVariants as Due
use Rattle.turn_relay.specs.declared.events.RelayEvent.{RelayEvent}
use Rattle.turn_relay.specs.declared.job.Job.{Job}
use Rattle.turn_relay.specs.declared.job.Job.TheVariants.{End, WantAgain}

-- ---- the plan

abbrev pub after_plan : Option ℕ → ℕ → PlanStep → RelayState → RelayDue × RelayState
after_plan others now Plan.Again r = (again now, r)
after_plan others now (Plan.Failed cause) r = given_up cause now r
after_plan others now (Plan.Wait time) r = (Due.Wait (sooner others time), r)

abbrev pub polled : Option ℕ → ℕ → PlanStep × PlanState → RelayState → RelayDue × RelayState
polled others now (step, p) r = after_plan others now step (record r { plan = p })

abbrev pub task_given : Task → RelayState → RelayDue × RelayState
task_given task r = (Due.Task task, record r { plan = record r.plan { tasks = after_giving r.plan.tasks } })

abbrev pub plan_next : Option ℕ → ℕ → RelayState → RelayDue × RelayState
plan_next others now r = by (next_task r.plan.tasks)
  where
    by : Option Task → RelayDue × RelayState
    by (Some task) = task_given task r
    by None = polled others now (plan_step now r.plan) r

-- ---- a relay with an address

abbrev pub OpenLeads : Option ℕ → ℕ → RelayState → RelayState → RelayDue → Option RelayDue → Type 0
OpenLeads lives now t r due (Some first) = (due ≡ first) × (r ≡ t)
OpenLeads lives now t r due None = (due, r) ≡ plan_next (sooner lives (due_in t.wanted.session t.wanted.keys)) now t

abbrev pub OpenNext : Option ℕ → ℕ → RelayState → RelayState → RelayDue → Type 0
OpenNext lives now was r due =
    (t : RelayState) × (first : Option RelayDue) × Restores now was t first × OpenLeads lives now t r due first

-- ---- the relay itself, whose sessions have nothing to do before a time

abbrev pub OwnNextIn : Phase → Option ℕ → ℕ → RelayState → RelayState → RelayDue → Type 0
OwnNextIn (At.Over cause) lives now was r due = (due, r) ≡ finish_step cause lives now was
OwnNextIn At.Restoring lives now was r due = OpenNext lives now was r due
OwnNextIn (At.Up since) lives now was r due = OpenNext lives now was r due
OwnNextIn _ lives now was r due = (due, r) ≡ plan_next lives now was

abbrev pub OwnNext : Option ℕ → ℕ → RelayState → RelayState → RelayDue → Type 0
OwnNext lives now was r due = OwnNextIn was.plan.course.phase lives now was r due

-- ---- the sessions

abbrev pub StepLeads : LifeStep → ℕ → RelayState → RelayState → RelayDue → Type 0
StepLeads (Step.Wait time) now t r due = OwnNext time now t r due
StepLeads step now t r due = (due, r) ≡ taken_step step now t

abbrev pub with_lives : List LiveState → RelayState → RelayState
with_lives lives r = record r { lives = lives }

abbrev pub LivesLead : ℕ → RelayState → RelayState → RelayDue → Type 0
LivesLead now was r due =
    (lives : List LiveState) × (step : LifeStep) × LivesNext now was.lives lives step
    × StepLeads step now (with_lives lives was) r due

-- ---- the call

-- what an event has led to is done
abbrev pub job_step : Job → ℕ → RelayState → RelayDue × RelayState
job_step (End link why) now r = end_step link why now r
job_step (WantAgain key) now r = wanted_again key now r

abbrev pub JobLeads : Option Job → ℕ → RelayState → RelayState → RelayDue → Type 0
JobLeads (Some job) now was r due = (due, r) ≡ job_step job now was
JobLeads None now was r due = LivesLead now was r due

abbrev pub NextsBy : Option RelayEvent → ℕ → RelayState → RelayState → RelayDue → Type 0
NextsBy (Some event) now was r due = (due ≡ Due.Event event) × (r ≡ record was { report = None })
NextsBy None now was r due = JobLeads was.job now was r due

abbrev pub Nexts : ℕ → RelayState → RelayState → RelayDue → Type 0
Nexts now was r due = NextsBy was.report now was r due

-- ---- without memory

-- a request could not be made, or nothing has changed
abbrev pub OpenFails : ℕ → RelayState → RelayState → Type 0
OpenFails now was r = (r ≡ was) ⊎ ((key : Key) × (next_key was.wanted ≡ Some key) × AskingFails key now was r)

abbrev pub OwnFailsIn : Phase → ℕ → RelayState → RelayState → Type 0
OwnFailsIn (At.Over cause) now was r = ⊥
OwnFailsIn At.Restoring now was r = OpenFails now was r
OwnFailsIn (At.Up since) now was r = OpenFails now was r
OwnFailsIn _ now was r = r ≡ was

-- a session has found none, or the relay itself
abbrev pub LivesLeadFails : ℕ → RelayState → RelayState → Type 0
LivesLeadFails now was r =
    ((lives : List LiveState) × LivesFail now was.lives lives × (r ≡ with_lives lives was))
    ⊎ ((lives : List LiveState) × (time : Option ℕ) × LivesNext now was.lives lives (Step.Wait time)
    × OwnFailsIn was.plan.course.phase now (with_lives lives was) r)

-- it is still to be done
abbrev pub JobFails : Job → RelayState → RelayState → Type 0
JobFails (End link why) was r = EndsLater link why was r
JobFails (WantAgain key) was r = r ≡ was

abbrev pub NextFailsBy : Option Job → ℕ → RelayState → RelayState → Type 0
NextFailsBy (Some job) now was r = JobFails job was r
NextFailsBy None now was r = LivesLeadFails now was r

abbrev pub NextFails : ℕ → RelayState → RelayState → Type 0
NextFails now was r = (was.report ≡ None) × NextFailsBy was.job now was r
