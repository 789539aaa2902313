-- How long requests are queued by a caller that is on time.
use Rattle.std.specs.Prelude.{ℕ, ◌+◌, ◌*◌, ◌≤◌, max, not, Bool, false, if◌then◌else◌, List, [], ◌∷◌, find, is_some, IsSome, ⊤}
use Rattle.turn_client_api.specs.Due.{pause_end}
use Rattle.turn_client_api.specs.Queue.{has_ended}
use Rattle.turn_client_api.specs.State.{State}
use Rattle.turn_client_api.specs.Steps.{state_after}
use Rattle.turn_client_api.specs.Transmit.{next_transmit}
use Rattle.turn_client_api.specs.declared.call.Call.{Call}
use Rattle.turn_client_api.specs.declared.call.Call.TheVariants.{PollTransmit}
use Rattle.turn_client_runs.specs.OnTime.{IsOnTime, time_of, time_of_all}

-- the call gives a packet to send
abbrev pub gives_packet : Call → State → Bool
gives_packet (PollTransmit now) s = is_some (next_transmit now s)
gives_packet call s = false

-- how many of these calls do
abbrev pub packets_given : State → List Call → ℕ
packets_given s [] = 0
packets_given s (call ∷ calls) = (if gives_packet call s then 1 else 0) + packets_given (state_after call s) calls

-- the caller is on time, and before each call a packet is queued that is still to be sent
abbrev pub RunsQueued : ℕ → State → List Call → Type 0
RunsQueued before s [] = ⊤
RunsQueued before s (call ∷ calls) =
    IsOnTime before (time_of before call) s × IsSome (find (λ q. not (has_ended s q)) s.queue)
    × RunsQueued (time_of before call) (state_after call s) calls

-- So long a packet leaves at the end of each pause: those that leave take one pause each, and no time is lost between them.
abbrev pub QueuesDrain : Type 0
QueuesDrain =
    (start : ℕ) (s : State) (calls : List Call) → RunsQueued start s calls
    → time_of_all start calls ≤ max start (pause_end s) + s.config.request_cadence * packets_given s calls
