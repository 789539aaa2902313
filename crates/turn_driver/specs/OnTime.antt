-- A caller that wakes up when the loop said is on time (`turn_client_runs::grants_last_while_the_server_answers`).
use Rattle.std.specs.Prelude.{◌≡◌, ℕ, ◌^◌, ◌≤◌, List, [], ◌∷◌, ◌++◌, Option, ⊤}
use Rattle.std.specs.List.{AllByRecursion}
use Rattle.turn_stun.specs.declared.transport.Transmit.{Transmit}
use Rattle.turn_client_api.specs.State.{State}
use Rattle.turn_client_api.specs.Steps.{state_after, state_after_all}
use Rattle.turn_client_api.specs.declared.call.Call.{Call}
use Rattle.turn_client_runs.specs.OnTime.{IsOnTime, time_of}
use Rattle.turn_driver.specs.Next.{IsRestful}
use Rattle.turn_driver.specs.Run.{IsAsk, hand_in_calls}
use Rattle.turn_driver.specs.declared.task.Rest.{Rest}
use Rattle.turn_driver.specs.declared.task.Rest.TheVariants.{Until, Now, Ended}

-- The next call is on time if it is made by the deadline, or at once where work may be left, and if the client is not called
-- before it.
abbrev pub WakesOnTime : Rest → ℕ → State → Type 0
WakesOnTime (Until deadline) now s = (next : ℕ) → now ≤ next → next ≤ deadline → next ≤ 2 ^ 62 → IsOnTime now next s
WakesOnTime Now now s = IsOnTime now now s
WakesOnTime Ended now s = ⊤

-- each of these calls is on time, the first one after a call at this time
abbrev pub AllOnTime : ℕ → State → List Call → Type 0
AllOnTime before s [] = ⊤
AllOnTime before s (call ∷ calls) =
    IsOnTime before (time_of before call) s × AllOnTime (time_of before call) (state_after call s) calls

-- ---- a whole loop

-- one iteration: its time, the packet that is passed in, the polls, and what follows
pub record Iteration : Type 0 where
  pub now : ℕ
  pub came : Option (Transmit (List ℕ))
  pub asks : List Call
  pub rest : Rest

abbrev pub calls_in : Iteration → List Call
calls_in one = hand_in_calls one.came one.now ++ one.asks

abbrev pub calls_of : List Iteration → List Call
calls_of [] = []
calls_of (one ∷ later) = calls_in one ++ calls_of later

-- the next iteration begins by the deadline, and at the same time where work may be left
abbrev pub BeginsInTime : Rest → ℕ → ℕ → Type 0
BeginsInTime (Until deadline) now next = (now ≤ next) × (next ≤ deadline) × (next ≤ 2 ^ 62)
BeginsInTime Now now next = next ≡ now
BeginsInTime Ended now next = ⊥

-- The iterations follow each other so, and each polls at its time and ends as `drive_client` ensures (`whole`, `restful`).
abbrev pub IsLoop : Rest → ℕ → State → List Iteration → Type 0
IsLoop rest before s [] = ⊤
IsLoop rest before s (one ∷ later) =
    let t = state_after_all s (calls_in one) in
    BeginsInTime rest before one.now × AllByRecursion (IsAsk one.now) one.asks × IsRestful one.rest one.now t × IsLoop one.rest one.now t later

-- all calls of a loop are on time, whatever is passed in, from a state on in which it may rest
abbrev pub LoopsAreOnTime : Type 0
LoopsAreOnTime =
    (rest : Rest) (before : ℕ) (s : State) (loop : List Iteration) → before ≤ 2 ^ 62 → IsRestful rest before s → IsLoop rest before s loop
    → AllOnTime before s (calls_of loop)
