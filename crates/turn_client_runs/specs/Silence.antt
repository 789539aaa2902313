-- A client whose server does not answer (RFC 8489, section 6.2).
use Rattle.std.specs.Prelude.{◌≡◌, ℕ, ◌+◌, ◌≤◌, List, [], ◌∷◌, sum, None, ⊤}
use Rattle.std.specs.declared.net.socket_addr.SocketAddr.{SocketAddr}
use Rattle.turn_stun.specs.declared.transport.TransportType.{TransportType}
use Rattle.turn_agent.specs.Schedule.{schedule}
use Rattle.turn_client_api.specs.Config.{Config, timers_of}
use Rattle.turn_client_api.specs.State.{State, initial}
use Rattle.turn_client_api.specs.declared.state.Phase.TheVariants.{Closed}
use Rattle.turn_client_api.specs.Transmit.{next_transmit}
use Rattle.turn_client_api.specs.Steps.{state_after, state_after_all}
use Rattle.turn_client_api.specs.declared.call.Call.{Call}
use Rattle.turn_client_api.specs.declared.call.Call.TheVariants.{Poll, PollTransmit, PollEvent}
use Rattle.turn_client_runs.specs.OnTime.{IsOnTime, time_of, time_of_all}

-- the call sends what is due, or time passes, or it changes nothing, as what strangers send
abbrev pub BringsNothing : Call → State → Type 0
BringsNothing (Poll now) s = ⊤
BringsNothing (PollTransmit now) s = ⊤
BringsNothing PollEvent s = ⊤
BringsNothing call s = state_after call s ≡ s

-- nothing is received that counts
abbrev pub RunsInSilence : ℕ → State → List Call → Type 0
RunsInSilence before s [] = ⊤
RunsInSilence before s (call ∷ calls) =
    IsOnTime before (time_of before call) s × BringsNothing call s × RunsInSilence (time_of before call) (state_after call s) calls

-- Whatever its configuration, a new client that gets no answer, and whose caller is on time from this time
-- on, ends once the waits after all sends of its first request have passed: when it is polled then, with
-- nothing to send.
abbrev pub GivesUpInSilence : Type 0
GivesUpInSilence =
    (transport : TransportType) (local remote : SocketAddr) (config : Config) (seed : List ℕ) (start now : ℕ) (calls : List Call)
    → let first = initial transport local remote config seed in let last = state_after_all first calls in
    RunsInSilence start first calls → IsOnTime (time_of_all start calls) now last → next_transmit now last ≡ None
    → start + sum (schedule (timers_of config)) ≤ now
    → (state_after (Poll now) last).phase ≡ Closed
