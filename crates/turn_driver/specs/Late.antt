-- A caller that wakes up late is late by no more than that (`turn_client_runs::grants_last_while_the_server_answers`).
use Rattle.std.specs.Prelude.{◌≡◌, ℕ, ◌+◌, ◌^◌, ◌≤◌, List, [], ◌∷◌, ⊤}
use Rattle.std.specs.List.{AllByRecursion}
use Rattle.turn_client_api.specs.State.{State}
use Rattle.turn_client_api.specs.Steps.{state_after, state_after_all}
use Rattle.turn_client_api.specs.declared.call.Call.{Call}
use Rattle.turn_client_runs.specs.Late.{IsLate, since_next}
use Rattle.turn_client_runs.specs.OnTime.{time_of, time_of_all}
use Rattle.turn_driver.specs.Next.{IsRestful}
use Rattle.turn_driver.specs.OnTime.{Iteration, calls_in, calls_of}
use Rattle.turn_driver.specs.Run.{IsAsk}
use Rattle.turn_driver.specs.declared.task.Rest.{Rest}
use Rattle.turn_driver.specs.declared.task.Rest.TheVariants.{Until, Now, Ended}

-- each of these calls is late by so much at most, where a packet may have been waiting since then
abbrev pub AllLate : ℕ → ℕ → ℕ → State → List Call → Type 0
AllLate late since before s [] = ⊤
AllLate late since before s (call ∷ calls) =
    (start : ℕ) × IsLate late since before start (time_of before call) s
    × AllLate late (since_next call s start) (time_of before call) (state_after call s) calls

-- the next iteration begins so late after the deadline at most, and at the same time where work may be left
abbrev pub BeginsLate : ℕ → Rest → ℕ → ℕ → Type 0
BeginsLate late (Until deadline) now next = (now ≤ next) × (next ≤ deadline + late) × (next ≤ 2 ^ 62)
BeginsLate late Now now next = next ≡ now
BeginsLate late Ended now next = ⊥

-- As `IsLoop`, with iterations that begin late. Each has a call at its time, as `drive_client` makes one.
abbrev pub IsLateLoop : ℕ → Rest → ℕ → State → List Iteration → Type 0
IsLateLoop late rest before s [] = ⊤
IsLateLoop late rest before s (one ∷ later) =
    let t = state_after_all s (calls_in one) in
    BeginsLate late rest before one.now × AllByRecursion (IsAsk one.now) one.asks
    × (time_of_all before (calls_in one) ≡ one.now) × IsRestful one.rest one.now t
    × IsLateLoop late one.rest one.now t later

-- no call of such a loop is later than its iterations begin
abbrev pub LoopsAreLate : Type 0
LoopsAreLate =
    (late : ℕ) (rest : Rest) (before : ℕ) (s : State) (loop : List Iteration)
    → before ≤ 2 ^ 62 → IsRestful rest before s → IsLateLoop late rest before s loop
    → AllLate late before before s (calls_of loop)
