-- A client whose server answers its first requests (RFC 8489, section 9.2; RFC 8656, section 7).
use Rattle.std.specs.Prelude.{◌≡◌, ◌≢◌, ◌⊎◌, ℕ, ◌+◌, ◌<◌, ◌≤◌, max, min, true, if◌then◌else◌, List, [], ◌∷◌, Some, IsSome, ⊤}
use Rattle.std.specs.declared.net.socket_addr.SocketAddr.{SocketAddr}
use Rattle.turn_stun.specs.Message.{id_of}
use Rattle.turn_stun.specs.declared.message.header.MessageClass.TheVariants.{Success}
use Rattle.turn_stun.specs.declared.transport.TransportType.TheVariants.{Udp}
use Rattle.turn_stun.specs.declared.transport.Transmit.{Transmit}
use Rattle.turn_auth.specs.Validation.{IsValidated, validation_of}
use Rattle.turn_agent.specs.Agent.{is_outstanding}
use Rattle.turn_agent.specs.Schedule.{wait_at}
use Rattle.turn_client_api.specs.Config.{Config, timers_of}
use Rattle.turn_client_api.specs.State.{State, auth_of, initial, seconds}
use Rattle.turn_client_api.specs.declared.state.Phase.TheVariants.{Requesting, Authenticating, Allocated}
use Rattle.turn_client_api.specs.Judgement.{answers_allocate, answers_one, challenge_in, class_in, lifetime_in}
use Rattle.turn_client_api.specs.Effect.{relayed_in, taken_addresses}
use Rattle.turn_client_runs.specs.Lasting.{HasRoom, IsSteady, HoldsAtMost}
use Rattle.turn_client_api.specs.Steps.{state_after, state_after_all}
use Rattle.turn_client_api.specs.declared.call.Call.{Call}
use Rattle.turn_client_api.specs.declared.call.Call.TheVariants.{Poll, PollTransmit, PollEvent, Recv}
use Rattle.turn_client_runs.specs.OnTime.{IsInTime, time_of, time_of_all}
use Rattle.turn_client_runs.specs.OnTime.{IsFromServer}

-- the server asks for a signature
pub record IsFirstChallenge (packet : Transmit (List ℕ)) (s : State) : Type 0 where
  pub arrives : IsFromServer packet s
  pub phase : s.phase ≡ Requesting
  pub answers : answers_one s packet.payload ≡ true
  pub challenge : IsSome (challenge_in s packet.payload)

-- the server allocates an address of a requested family
pub record IsAllocating (packet : Transmit (List ℕ)) (s : State) : Type 0 where
  pub arrives : IsFromServer packet s
  pub phase : s.phase ≡ Authenticating
  pub answers : answers_allocate s packet.payload ≡ true
  pub success : class_in packet.payload ≡ Success
  pub signed : IsValidated (validation_of (auth_of s) packet.payload)
  pub outstanding : is_outstanding (id_of packet.payload) s.transactions ≡ true
  pub lifetime : IsSome (lifetime_in packet.payload)
  pub relayed : taken_addresses s.families (relayed_in packet.payload) ≢ []

-- the call sends what is due, or time passes, or an answer comes, or it changes nothing
abbrev pub IsStep : Call → State → Type 0
IsStep (Poll now) s = ⊤
IsStep (PollTransmit now) s = ⊤
IsStep PollEvent s = ⊤
IsStep (Recv packet now) s = IsFirstChallenge packet s ⊎ (IsAllocating packet s ⊎ (state_after (Recv packet now) s ≡ s))
IsStep call s = state_after call s ≡ s

abbrev pub RunsHandshake : ℕ → ℕ → State → List Call → Type 0
RunsHandshake delay before s [] = ⊤
RunsHandshake delay before s (call ∷ calls) =
    IsInTime delay before (time_of before call) s × IsStep call s × RunsHandshake delay (time_of before call) (state_after call s) calls

-- How long after the first request the second one begins to wait, at the latest: it does so as it is made, which is when the
-- challenge is there. If requests wait from their first copies on, it does so as it is given out, once the pause after the first
-- one is over, too.
abbrev pub second_within : ℕ → Config → ℕ
second_within delay config = if config.timed_from_send then max delay config.request_cadence else delay

-- A new client over UDP, whose server answers both of its requests within the delay, has an allocation at any time that is
-- later than both waits: than twice the delay, or, if requests wait from their first copies on and the pause is longer than the
-- delay, than the pause and the delay.
abbrev pub HandshakeSucceeds : Type 0
HandshakeSucceeds =
    (local remote : SocketAddr) (config : Config) (seed : List ℕ) (delay start now : ℕ) (calls : List Call)
    → let first = initial Udp local remote config seed in let last = state_after_all first calls in
    1 ≤ config.max_stale_nonces → delay < wait_at (timers_of config) Udp 0
    → RunsHandshake delay start first calls → IsInTime delay (time_of_all start calls) now last
    → start + second_within delay config + delay < now
    → last.phase ≡ Allocated

-- The state just after is one in which no grant will be lost, if the second request had left the queue, the
-- server allocated for the default of 600 s or more (RFC 8656, section 7.2), and there is room.
abbrev pub HandshakeEndsSteadily : Type 0
HandshakeEndsSteadily =
    (local remote : SocketAddr) (config : Config) (seed : List ℕ) (delay start now : ℕ) (calls : List Call)
    (packet : Transmit (List ℕ)) (count slots extras lifetime : ℕ)
    → let first = initial Udp local remote config seed in let last = state_after_all first calls in let next = state_after (Recv packet now) last in
    1 ≤ config.max_stale_nonces → delay < wait_at (timers_of config) Udp 0
    → RunsHandshake delay start first calls → IsInTime delay (time_of_all start calls) now last
    → IsAllocating packet last → last.queue ≡ [] → lifetime_in packet.payload ≡ Some lifetime → 600 ≤ lifetime
    → HasRoom count slots extras config.request_cadence delay (min config.refresh_ahead (seconds 150)) → HoldsAtMost count slots next
    → IsSteady count slots extras delay now next
