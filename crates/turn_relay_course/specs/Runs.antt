-- What a caller of a course does, one call after the other.
use Rattle.std.specs.Prelude.{ℕ, ◌<◌, if◌then◌else◌, List, [], ◌∷◌, Option, Some, None}
use Rattle.turn_relay_tries.specs.Tries.{after}
use Rattle.turn_relay_tries.specs.declared.causes.Cause.{Cause}
use Rattle.turn_relay_course.specs.Course.{after_failure, after_leaving, after_ready, after_restoring, after_sign, begin_step, is_due, opened_course}
use Rattle.turn_relay_course.specs.declared.course.Course.{Course}
use Rattle.turn_relay_course.specs.declared.course.Phase.{Phase}
use Rattle.turn_relay_course.specs.declared.course.Phase.TheVariants as At

-- the calls that change a course, at these times
pub data Call : Type 0 where
  Begin : ℕ → Call
  Ready : ℕ → Call
  Heard : Call
  Opened : Call
  Restored : ℕ → Call
  Failed : Cause → ℕ → Call
  Leave : Call

abbrev pub step : Call → Course → Course
step (Begin now) c = (begin_step now c).1
step (Ready now) c = after_ready now c
step Heard c = after_sign c
step Opened c = opened_course c
step (Restored now) c = after_restoring now c
step (Failed cause now) c = after_failure cause now c
step Leave c = after_leaving c

abbrev pub run : List Call → Course → Course
run [] c = c
run (call ∷ calls) c = run calls (step call c)

-- ---- when tries begin

-- the time of the try that this call begins, if it begins one
abbrev pub begun_by : Call → Course → Option ℕ
begun_by (Begin now) c = if is_due now c then Some now else None
begun_by _ c = None

abbrev pub with_time : Option ℕ → List ℕ → List ℕ
with_time None times = times
with_time (Some time) times = time ∷ times

abbrev pub begin_times : List Call → Course → List ℕ
begin_times [] c = []
begin_times (call ∷ calls) c = with_time (begun_by call c) (begin_times calls (step call c))

-- ---- relays that do not hold

-- a relay that goes down was up for less than 60 s
abbrev pub IsSoonIn : Phase → ℕ → Type 0
IsSoonIn (At.Up since) now = now < after since 60_000_000_000
IsSoonIn _ now = Unit {0}

abbrev pub IsSoon : Call → Course → Type 0
IsSoon (Failed cause now) c = IsSoonIn c.phase now
IsSoon _ c = Unit {0}

abbrev pub AreSoon : List Call → Course → Type 0
AreSoon [] c = Unit {0}
AreSoon (call ∷ calls) c = IsSoon call c × AreSoon calls (step call c)
