-- What `poll` returns in a run.
use Rattle.std.specs.Prelude.{ℕ, ◌<◌, ◌≤◌, ◌^◌, true, List, [], ◌∷◌, All, ⊤}
use Rattle.std.specs.List.{Contains}
use Rattle.turn_client_api.specs.State.{State, seconds}
use Rattle.turn_client_api.specs.Alarm.{IsTimely}
use Rattle.turn_client_laws.specs.LawsMessages.{ms}
use Rattle.turn_client_laws.specs.LawsRows.{granted_at, relayed_v4}
use Rattle.turn_client_api.specs.Poll.{poll_step}
use Rattle.turn_client_api.specs.Steps.{state_after}
use Rattle.turn_client_api.specs.declared.call.Call.{Call}
use Rattle.turn_client_api.specs.declared.call.Call.TheVariants.{Poll}
use Rattle.turn_client_api.specs.declared.grant.Grant.TheVariants.{Allocation}
use Rattle.turn_client_api.specs.declared.grant.Relay.{Relay}
use Rattle.turn_client_api.specs.declared.poll.TurnPollRet.{TurnPollRet}
use Rattle.turn_client_api.specs.declared.poll.TurnPollRet.TheVariants.{WaitUntil}

-- the client is polled at a time that is at most 2^62, of the 2^63 nanoseconds that there are
abbrev pub IsPolledInTime : Call → Type 0
IsPolledInTime (Poll now) = now ≤ 2 ^ 62
IsPolledInTime _ = ⊤

-- no allocation expires after now and before that time, whether or not it is marked as expired
abbrev pub WaitsForAllocations : TurnPollRet → ℕ → State → Type 0
WaitsForAllocations (WaitUntil time) now s = (a : Relay) → Contains s.grants (Allocation a) → now < a.expiry → time ≤ a.expiry
WaitsForAllocations _ now s = ⊤

-- worked: an allocation that expires at 1000.05 s, and was marked as expired before
abbrev pub with_marked : State → State
with_marked s =
    granted_at (ms 100) (Allocation (record { relayed = relayed_v4; first_lifetime = seconds 1000; expiry = ms 1_000_050; is_expired = true }) ∷ []) s

-- what the call returns, if it is `poll`, is timely
abbrev pub ReportsTimely : State → Call → Type 0
ReportsTimely s (Poll now) =
    IsTimely (poll_step now s).0 now s (poll_step now s).1 × WaitsForAllocations (poll_step now s).0 now (poll_step now s).1
ReportsTimely s _ = ⊤

-- a caller that sleeps until the time that each `poll` of the run returns misses no deadline
abbrev pub SleepsThroughNothing : State → List Call → Type 0
SleepsThroughNothing s [] = ⊤
SleepsThroughNothing s (call ∷ calls) = ReportsTimely s call × SleepsThroughNothing (state_after call s) calls

-- as long as it polls at times that are not too late
abbrev pub SleepsInTime : State → List Call → Type 0
SleepsInTime s calls = All IsPolledInTime calls → SleepsThroughNothing s calls

-- what the client returns, if it is polled next, is timely
abbrev pub ReportsTimelyNext : State → Type 0
ReportsTimelyNext s = (now : ℕ) → now ≤ 2 ^ 62 → ReportsTimely s (Poll now)
