-- A worked run: a client and a server that grants what is requested, for 700 s.
use Rattle.std.specs.Prelude.{◌≡◌, ℕ, ◌+◌, List, [], ◌∷◌, IsSome, false, true}
use Rattle.turn_stun.specs.declared.transport.TransportType.TheVariants.{Udp}
use Rattle.turn_client_api.specs.State.{State, seconds}
use Rattle.turn_client_api.specs.declared.call.Call.{Call}
use Rattle.turn_client_api.specs.declared.call.Call.TheVariants.{BindChannel, Recv, Poll, PollTransmit, PollEvent}
use Rattle.turn_client_api.specs.declared.grant.Grant.{Grant}
use Rattle.turn_client_api.specs.declared.grant.Grant.TheVariants.{Allocation, Channel, Permission}
use Rattle.turn_client_api.specs.declared.grant.Listing.{Listing}
use Rattle.turn_client_api.specs.declared.grant.Purpose.TheVariants.{ForAllocation}
use Rattle.turn_client_api.specs.Effect.{granted_until, new_allocation}
use Rattle.turn_client_api.specs.Steps.{state_after, state_after_all}
use Rattle.turn_client_laws.specs.LawsRows.{granted_at, ip_of_peer, peer, relayed_v4}
use Rattle.turn_client_runs.specs.History.{no_history}
use Rattle.turn_client_runs.specs.Lasting.{IsSteady, RunsSteadily}
use Rattle.turn_client_runs.specs.Server.{from_server, success_for}

-- ---- the server

-- the purpose and the ID of the request that was made first
abbrev pub first_request : List Listing → Listing
first_request (l ∷ others) = l
first_request [] = record { id = 0; purpose = ForAllocation }

-- its success is received at this time
abbrev pub granted_call : ℕ → State → Call
granted_call now s = let l = first_request s.listed in Recv (from_server s (success_for s l.purpose l.id)) now

-- ---- the caller

-- At each of these times the caller sends what is due. The server grants it 100 ms later, and the caller takes the events.
-- At the last time the client is polled.
abbrev pub served : ℕ → List ℕ → State → List Call
served last [] s = Poll last ∷ []
served last (now ∷ later) s =
    let sent = state_after (PollTransmit now) s in
    let reply = granted_call (now + 100_000_000) sent in
    PollTransmit now ∷ reply ∷ PollEvent ∷ PollEvent
    ∷ served last later (state_after PollEvent (state_after PollEvent (state_after reply sent)))

-- ---- the run

-- a client over UDP with an allocation of 600 s from 200 ms on, its last packet sent at 100 ms
abbrev pub with_allocation : State → State
with_allocation s = granted_at 100_000_000 (new_allocation 600 200_000_000 relayed_v4 ∷ []) s

-- It binds a channel at 1 s. What it refreshes later is due a minute before it expires: the permission twice, the
-- allocation and the channel.
abbrev pub calls_of_700_s : State → List Call
calls_of_700_s s =
    let bind = BindChannel Udp peer 1_000_000_000 in
    bind ∷ served (seconds 700) (1_000_000_000 ∷ 241_100_000_000 ∷ 481_200_000_000 ∷ 540_200_000_000 ∷ 541_100_000_000 ∷ []) (state_after bind s)

-- granted for 600 s at 540.3 s, for 300 s at 481.3 s, and for 600 s at 541.2 s
abbrev pub refreshed_grants : List Grant
refreshed_grants =
    Allocation (record { relayed = relayed_v4; first_lifetime = seconds 600; expiry = 1_140_300_000_000; is_expired = false })
    ∷ Permission ip_of_peer (granted_until 781_300_000_000 true)
    ∷ Channel 0x4000 peer (granted_until 1_141_200_000_000 true)
    ∷ []

-- With at most three grants, a queued packet and a delay of 100 ms, it begins and runs as no grant is lost, and each of the
-- three is refreshed.
pub record LastsFor700Seconds (s : State) : Type 0 where
  pub begins : IsSteady 3 1 0 100_000_000 200_000_000 s
  pub runs : RunsSteadily 3 1 0 100_000_000 200_000_000 (no_history s) s (calls_of_700_s s)
  pub refreshes : (state_after_all s (calls_of_700_s s)).grants ≡ refreshed_grants

-- whatever the client's addresses, credentials and IDs are
abbrev pub RelayStaysUp : Type 0
RelayStaysUp = (s : State) → IsSome s.held → LastsFor700Seconds (with_allocation s)
