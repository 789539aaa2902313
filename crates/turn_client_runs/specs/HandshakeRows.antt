-- A worked handshake: a new client, and a server that challenges it and then allocates an address.
use Rattle.std.specs.Prelude.{◌≡◌, ℕ, List, [], ◌∷◌, None, false}
use Rattle.std.specs.declared.net.socket_addr.SocketAddr.{SocketAddr}
use Rattle.turn_stun.specs.XorAddress.{xor_value}
use Rattle.turn_stun.specs.declared.message.header.MessageClass.TheVariants.{Success, Error}
use Rattle.turn_stun.specs.declared.transport.TransportType.TheVariants.{Udp}
use Rattle.turn_stun.specs.declared.transport.Transmit.{Transmit}
use Rattle.turn_types.specs.declared.family.AddressFamily.TheVariants.{IPV4}
use Rattle.turn_auth.specs.declared.integrity.IntegrityAlgorithm.TheVariants.{Sha1}
use Rattle.turn_agent.specs.declared.transaction.Transaction.{Transaction}
use Rattle.turn_client_api.specs.Config.{Config, default_max_stale_nonces, default_refresh_ahead, default_request_cadence}
use Rattle.turn_client_api.specs.State.{State, initial}
use Rattle.turn_client_api.specs.declared.state.Phase.TheVariants.{Authenticating}
use Rattle.turn_client_api.specs.declared.call.Call.{Call}
use Rattle.turn_client_api.specs.declared.call.Call.TheVariants.{PollTransmit, Recv}
use Rattle.turn_client_api.specs.Effect.{new_allocation}
use Rattle.turn_client_api.specs.Requests.{allocate_method, attribute, error_kind, lifetime_attribute, message_of, relayed_kind, signed}
use Rattle.turn_client_api.specs.Steps.{state_after, state_after_all}
use Rattle.turn_client_laws.specs.LawsRows.{relayed_v4}
use Rattle.turn_client_runs.specs.Handshake.{IsAllocating, RunsHandshake}
use Rattle.turn_client_runs.specs.Lasting.{IsSteady}
use Rattle.turn_client_runs.specs.LastingBursts.{timed}
use Rattle.turn_client_runs.specs.OnTime.{IsInTime}
use Rattle.turn_client_runs.specs.Server.{from_server}

-- ---- the server

-- 401 with the realm "realm" and the nonce "nonce", not signed (RFC 8489, section 9.2.3.1)
abbrev pub challenge_text : ℕ → List ℕ
challenge_text id = message_of allocate_method Error (
    attribute error_kind (0 ∷ 0 ∷ 4 ∷ 1 ∷ [])
    ∷ attribute 0x0014 (0x72 ∷ 0x65 ∷ 0x61 ∷ 0x6c ∷ 0x6d ∷ [])
    ∷ attribute 0x0015 (0x6e ∷ 0x6f ∷ 0x6e ∷ 0x63 ∷ 0x65 ∷ [])
    ∷ []
    ) id

-- an address over IPv4 for 600 s, signed
abbrev pub allocated_text : State → ℕ → List ℕ
allocated_text s id =
    signed s (message_of allocate_method Success (attribute relayed_kind (xor_value relayed_v4 id) ∷ lifetime_attribute 600 ∷ []) id)

-- the ID of the only request that is outstanding
abbrev pub awaited : List Transaction → ℕ
awaited (x ∷ others) = x.id
awaited [] = 0

-- ---- the client

-- a new client over UDP that requests an address over IPv4, signs by SHA-1, and has the default times
abbrev pub new_client : SocketAddr → SocketAddr → Config → List ℕ → State
new_client local remote config seed = initial Udp local remote (record config {
  allocation_transport = Udp;
  address_families = IPV4 ∷ [];
  supported_integrity = Sha1 ∷ [];
  request_timers = None;
  max_stale_nonces = default_max_stale_nonces;
  request_cadence = default_request_cadence;
  keepalive = None;
  refresh_ahead = default_refresh_ahead;
  timed_from_send = false;
}) seed

-- the challenge comes 100 ms after the first request, and the second request is sent at once
abbrev pub handshake_calls : State → List Call
handshake_calls s =
    let sent = state_after (PollTransmit 0) s in
    PollTransmit 0 ∷ Recv (from_server sent (challenge_text (awaited sent.transactions))) 100_000_000 ∷ PollTransmit 100_000_000 ∷ []

-- the success to it, which comes 100 ms later
abbrev pub allocation_packet : State → Transmit (List ℕ)
allocation_packet s = from_server s (allocated_text s (awaited s.transactions))

-- The handshake keeps its premises, and just after it the client has its allocation, and begins as no grant is lost: with at
-- most three grants, a queued packet and a delay of 100 ms.
pub record EndsSteadily (first : State) (last : State) (packet : Transmit (List ℕ)) : Type 0 where
  pub runs : RunsHandshake 100_000_000 0 first (handshake_calls first)
  pub allocates : IsAllocating packet last
  pub granted : (state_after (Recv packet 200_000_000) last).grants ≡ new_allocation 600 200_000_000 relayed_v4 ∷ []
  pub steady : IsSteady 3 1 0 100_000_000 200_000_000 (state_after (Recv packet 200_000_000) last)

-- whatever its addresses, credentials and IDs are
abbrev pub HandshakeIsWorked : Type 0
HandshakeIsWorked =
    (local remote : SocketAddr) (config : Config) (seed : List ℕ)
    → let first = new_client local remote config seed in
    let last = state_after_all first (handshake_calls first) in
    EndsSteadily first last (allocation_packet last)

-- ---- a client whose requests are timed from their first copies

-- the challenge comes after 20 ms, and the second request is sent at the end of the pause after the first one
abbrev pub paused_calls : State → List Call
paused_calls s =
    let sent = state_after (PollTransmit 0) s in
    PollTransmit 0 ∷ Recv (from_server sent (challenge_text (awaited sent.transactions))) 20_000_000 ∷ PollTransmit 50_000_000 ∷ []

-- The handshake keeps its premises with a delay of 20 ms, also until 70 ms, when the success to the second request comes, and gives
-- the allocation. Until then the client has none: at no earlier time than that of the pause and the delay.
pub record WaitsForThePause (first : State) (last : State) (packet : Transmit (List ℕ)) : Type 0 where
  pub runs : RunsHandshake 20_000_000 0 first (paused_calls first)
  pub in_time : IsInTime 20_000_000 50_000_000 70_000_000 last
  pub waits : last.phase ≡ Authenticating
  pub allocates : IsAllocating packet last
  pub granted : (state_after (Recv packet 70_000_000) last).grants ≡ new_allocation 600 70_000_000 relayed_v4 ∷ []

abbrev pub PausedHandshakeIsWorked : Type 0
PausedHandshakeIsWorked =
    (local remote : SocketAddr) (config : Config) (seed : List ℕ)
    → let first = timed (new_client local remote config seed) in
    let last = state_after_all first (paused_calls first) in
    WaitsForThePause first last (allocation_packet last)
