-- How a session begins, with a number for each error.
use Rattle.std.specs.Prelude.{◌≡◌, ◌⊎◌, ℕ, List, Result, Ok, Err}
use Rattle.std.specs.declared.alloc.Global.{Global}
use Rattle.std.specs.declared.boxed.Box.{Box}
use Rattle.turn_c_calls.specs.Held.{Held}
use Rattle.turn_c_calls.specs.Open.{error_code, session_of}
use Rattle.turn_c_calls.specs.declared.code.TheConstants.{OUT_OF_MEMORY}
use Rattle.turn_c_calls.specs.declared.opening.OpenError.{OpenError}
use Rattle.turn_c_calls.specs.declared.settings.Settings.{Settings}

-- the requested session
abbrev pub IsStarted : Settings → List ℕ → List ℕ → List ℕ → Held → Type 0
IsStarted settings user password seed session = session_of settings user password seed ≡ Ok session

-- the number of an error
abbrev pub IsNumberOf : Result Held OpenError → ℕ → Type 0
IsNumberOf (Ok _) code = ⊥
IsNumberOf (Err fault) code = code ≡ error_code fault

-- memory allocation failed, or this is the number of the first error in the request
abbrev pub NewIsRefused : Settings → List ℕ → List ℕ → List ℕ → ℕ → Type 0
NewIsRefused settings user password seed code = (code ≡ OUT_OF_MEMORY) ⊎ IsNumberOf (session_of settings user password seed) code

-- a session in a box, or the number of the error
abbrev pub Starts : Settings → List ℕ → List ℕ → List ℕ → Result (Box Held Global) ℕ → Type 0
Starts settings user password seed (Ok session) = IsStarted settings user password seed session.value
Starts settings user password seed (Err code) = NewIsRefused settings user password seed code
