-- What holds of a course whatever its caller does.
use Rattle.std.specs.Prelude.{◌≡◌, ℕ, ◌+◌, ◌*◌, ◌-◌, ◌/◌, ◌^◌, ◌<◌, ◌≤◌, max, min, Bool, true, false, List, [], ◌∷◌, length, Some, None}
use Rattle.turn_relay_tries.specs.Backoff.{next_wait}
use Rattle.turn_relay_tries.specs.Tries.{after}
use Rattle.turn_relay_tries.specs.declared.backoff.Backoff.{Backoff}
use Rattle.turn_relay_tries.specs.declared.causes.Cause.{Cause}
use Rattle.turn_relay_course.specs.Course.{begin_step, due_time, is_due, is_late, is_own_error, new_course}
use Rattle.turn_relay_course.specs.Runs.{AreSoon, Call, begin_times, run, step}
use Rattle.turn_relay_course.specs.Runs.Call.{Begin, Failed}
use Rattle.turn_relay_course.specs.declared.course.Course.{Course}
use Rattle.turn_relay_course.specs.declared.course.Phase.{Phase}
use Rattle.turn_relay_course.specs.declared.course.Phase.TheVariants as At
use Rattle.turn_relay_course.specs.declared.reopen.Reopen.{Reopen}
use Rattle.turn_relay_course.specs.declared.reopen.Reopen.TheVariants.{Never, Always}

-- ---- tries are spaced

-- a wait less the most that can be random of it
abbrev pub least_wait : Backoff → ℕ → ℕ
least_wait b wait = wait * (1_000 - min b.jitter 1_000) / 1_000

-- the first of these times is not before `due`, and each one a wait behind the one before it; waits double, up to the longest
abbrev pub AreSpaced : Backoff → ℕ → ℕ → List ℕ → Type 0
AreSpaced b due wait [] = Unit {0}
AreSpaced b due wait (time ∷ times) = (due ≤ time) × AreSpaced b (after time (least_wait b wait)) (next_wait b wait) times

abbrev pub is_begun : Phase → Bool
is_begun At.Resting = false
is_begun (At.Over why) = false
is_begun _ = true

-- of a relay that comes back, whatever the caller does, unless it was up for 60 s
pub record TriesAreSpaced : Type 0 where
  -- a relay begins with the first wait
  pub first : (servers : ℕ) (b : Backoff) (seed : List ℕ) (calls : List Call)
      → AreSoon calls (new_course Always servers b seed) → AreSpaced b 0 b.first (begin_times calls (new_course Always servers b seed))
  -- at any time in it
  pub later : (calls : List Call) (c : Course) → c.reopen ≡ Always → AreSoon calls c
      → AreSpaced c.backoff c.tries.due c.tries.wait (begin_times calls c)
  -- no try is due within 0.2 s of the end of one before it
  pub rests : (cause : Cause) (now : ℕ) (c : Course) → c.reopen ≡ Always → AreSoon (Failed cause now ∷ []) c → is_begun c.phase ≡ true
      → after now 200_000_000 ≤ (step (Failed cause now) c).tries.due

-- ---- one life tries each server once

-- whatever the caller does; without a server there is one try
abbrev pub EachServerOnce : Type 0
EachServerOnce = (servers : ℕ) (b : Backoff) (seed : List ℕ) (calls : List Call) → servers < 2 ^ 64
    → length (begin_times calls (new_course Never servers b seed)) ≤ max servers 1

-- ---- the next try comes

-- a relay that begins with waits of which the first is no longer than the longest, whatever its caller does
pub record NextTryComes : Type 0 where
  -- a try that begins makes the next one due a longest wait later at the latest
  pub begins : (reopen : Reopen) (servers : ℕ) (b : Backoff) (seed : List ℕ) (calls : List Call) (now : ℕ) → b.first ≤ b.longest
      → is_due now (run calls (new_course reopen servers b seed)) ≡ true
      → (step (Begin now) (run calls (new_course reopen servers b seed))).tries.due ≤ now + (run calls (new_course reopen servers b seed)).backoff.longest
  -- its end, and the end of a relay that was up, does so 0.2 s later, unless it is due later
  pub ends : (cause : Cause) (due now : ℕ) (c : Course) → c.tries.due ≤ due → (step (Failed cause now) c).tries.due ≤ max due (now + 200_000_000)

-- ---- nothing is slept through

abbrev pub IsAsleep : ℕ → Course → Type 0
IsAsleep now c = (begin_step now c ≡ (false, c)) × (is_late now c ≡ false)

-- before its time a course has nothing to do, and without one it never has
pub record SleepsThroughNothing : Type 0 where
  pub before : (c : Course) (time now : ℕ) → due_time c ≡ Some time → now < time → IsAsleep now c
  pub never : (c : Course) (now : ℕ) → due_time c ≡ None → IsAsleep now c

-- ---- no single failure is the end

-- a relay that was just up, or has just begun
pub record NothingFailed (c : Course) : Type 0 where
  pub credentials : c.failures.credentials ≡ 0
  pub refused : c.failures.refused ≡ 0
  pub quota : c.failures.quota ≡ 0

-- nobody has to have signed what one try failed by
abbrev pub OneFailureEndsNothing : Type 0
OneFailureEndsNothing = (c : Course) (cause : Cause) (now : ℕ) → NothingFailed c → c.reopen ≡ Always → is_own_error cause ≡ false
    → is_begun c.phase ≡ true → (step (Failed cause now) c).phase ≡ At.Resting
