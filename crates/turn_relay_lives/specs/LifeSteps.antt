-- What the sessions of a relay do next.
use Rattle.std.specs.Prelude.{◌≡◌, ℕ, List, slice_get, slice_set, remove, Option, Some, None}
use Rattle.std.specs.List.{position}
use Rattle.turn_session.specs.Due.{IsNext, NextFails}
use Rattle.turn_session.specs.SessionState.{SessionState}
use Rattle.turn_session.specs.declared.due.Due.{Due}
use Rattle.turn_session.specs.declared.due.Due.TheVariants as Session
use Rattle.turn_relay_lives.specs.LiveState.{LiveState, due_after, is_due}
use Rattle.turn_relay_lives.specs.Lives.{next_due}
use Rattle.turn_relay_lives.specs.declared.link.Link.{Link}
use Rattle.turn_relay_lives.specs.declared.step.LifeStep.{LifeStep}
use Rattle.turn_relay_lives.specs.declared.step.LifeStep.TheVariants as Life

-- ---- one session

-- it is asked what is due
abbrev pub LiveNext : ℕ → LiveState → LiveState → Due → Type 0
LiveNext now was l due =
    (s : SessionState) × IsNext now was.session s due × (l ≡ record was { session = s; due = due_after due was.due })

-- without memory it is still due
abbrev pub LiveFails : ℕ → LiveState → LiveState → Type 0
LiveFails now was l = (s : SessionState) × NextFails now was.session s × (l ≡ record was { session = s })

-- what is due in it
abbrev pub step_of : Link → Due → LifeStep
step_of link (Session.Connection answer) = Life.Connection link answer
step_of link (Session.Packet packet) = Life.Packet link packet
step_of link (Session.Event event) = Life.Event link event
step_of link (Session.Wait time) = Life.Again
step_of link Session.Over = Life.Closed link

-- ---- one of them

-- one that has ended is removed
abbrev pub after_due : ℕ → Due → List LiveState → List LiveState
after_due place Session.Over rows = remove rows place
after_due place due rows = rows

abbrev pub StepsAt : ℕ → ℕ → List LiveState → List LiveState → LifeStep → Type 0
StepsAt place now was rows step =
    (live : LiveState) × (slice_get was place ≡ Some live) × (l : LiveState) × (due : Due) × LiveNext now live l due
    × (step ≡ step_of live.link due) × (rows ≡ after_due place due (slice_set was place l))

abbrev pub StepFailsAt : ℕ → ℕ → List LiveState → List LiveState → Type 0
StepFailsAt place now was rows =
    (live : LiveState) × (slice_get was place ≡ Some live) × (l : LiveState) × LiveFails now live l × (rows ≡ slice_set was place l)

-- ---- the first that may have something to do

abbrev pub LivesNext : ℕ → List LiveState → List LiveState → LifeStep → Type 0
LivesNext now was rows step = by (position (is_due now) was)
  where
    by : Option ℕ → Type 0
    by (Some place) = StepsAt place now was rows step
    by None = (step ≡ Life.Wait (next_due was)) × (rows ≡ was)

abbrev pub LivesFail : ℕ → List LiveState → List LiveState → Type 0
LivesFail now was rows = by (position (is_due now) was)
  where
    by : Option ℕ → Type 0
    by (Some place) = StepFailsAt place now was rows
    by None = ⊥
