-- Worked states, so that the check computes the machine's answers in them.
use Rattle.std.specs.Prelude.{◌≡◌, ℕ, zero, suc, ◌*◌, List, [], ◌∷◌, ◌++◌, length, map, Option, Some, None, false, true}
use Rattle.std.specs.declared.net.ip_addr.IpAddr.{IpAddr}
use Rattle.std.specs.declared.net.ip_addr.IpAddr.TheVariants as Ip
use Rattle.std.specs.declared.net.socket_addr.SocketAddr.{SocketAddr}
use Rattle.turn_stun.specs.Number.{id_bytes}
use Rattle.turn_stun.specs.XorAddress.{xor_v4, xor_v6}
use Rattle.std.specs.declared.net.socket_addr.SocketAddr.TheVariants.{V4, V6}
use Rattle.turn_stun.specs.declared.transport.TransportType.{TransportType}
use Rattle.turn_stun.specs.declared.transport.TransportType.TheVariants.{Udp}
use Rattle.turn_types.specs.declared.family.AddressFamily.{AddressFamily}
use Rattle.turn_types.specs.declared.family.AddressFamily.TheVariants.{IPV4, IPV6}
use Rattle.turn_auth.specs.LongTerm.{Challenge}
use Rattle.turn_agent.specs.declared.transaction.Transaction.{Transaction}
use Rattle.turn_agent.specs.Agent.{first_sent}
use Rattle.turn_client_api.specs.Config.{default_max_stale_nonces, default_refresh_ahead, default_request_cadence}
use Rattle.turn_client_api.specs.State.{State}
use Rattle.turn_client_api.specs.declared.state.Phase.TheVariants.{Requesting, Allocated}
use Rattle.turn_client_api.specs.declared.grant.Purpose.TheVariants.{ForAllocation, ForRefresh}
use Rattle.turn_client_api.specs.declared.grant.Grant.{Grant}
use Rattle.turn_client_api.specs.declared.grant.Grant.TheVariants.{Channel, Permission}
use Rattle.turn_client_api.specs.declared.grant.Progress.TheVariants.{Pending}
use Rattle.turn_client_api.specs.declared.grant.Purpose.{Purpose}
use Rattle.turn_client_api.specs.declared.grant.Purpose.TheVariants.{ForChannel, ForPermission}
use Rattle.turn_client_api.specs.Requests.{first_allocate, listings}
use Rattle.turn_client_api.specs.Effect.{new_allocation, granted_until}
use Rattle.turn_client_api.specs.Retry.{state_after_retry}
use Rattle.turn_client_api.specs.Calls.{all_expired, create_permission_step, delete_step}
use Rattle.turn_client_api.specs.Poll.{poll_step}
use Rattle.turn_client_api.specs.Transmit.{transmit_step}
use Rattle.turn_agent.specs.Schedule.{Timers}
use Rattle.turn_client_api.specs.declared.poll.TurnPollRet.{TurnPollRet}
use Rattle.turn_client_api.specs.declared.poll.TurnPollRet.TheVariants.{WaitUntil, Closed as Ended}

-- ---- addresses

-- 10.0.0.1:5000, and with the last group 1 of IPv6
abbrev pub relayed_v4 : SocketAddr
relayed_v4 = V4 (xor_v4 (10 ∷ 0 ∷ 0 ∷ 1 ∷ []) 5000)

abbrev pub relayed_v6 : SocketAddr
relayed_v6 = V6 (xor_v6 (0x2001 ∷ 0xdb8 ∷ 0 ∷ 0 ∷ 0 ∷ 0 ∷ 0 ∷ 1 ∷ []) 5000)

-- 10.0.0.3, and its port 9000
abbrev pub ip_of_peer : IpAddr
ip_of_peer = Ip.V4 (record { octets = 10 ∷ 0 ∷ 0 ∷ 3 ∷ [] })

abbrev pub peer : SocketAddr
peer = V4 (xor_v4 (10 ∷ 0 ∷ 0 ∷ 3 ∷ []) 9000)

-- ---- states

-- a client over UDP with these grants, that sent its last request at this time and awaits nothing
abbrev pub granted_at : ℕ → List Grant → State → State
granted_at time grants s = record s {
  config = record s.config {
    allocation_transport = Udp;
    request_timers = None;
    max_stale_nonces = default_max_stale_nonces;
    request_cadence = default_request_cadence;
    keepalive = None;
    refresh_ahead = default_refresh_ahead;
    timed_from_send = false;
  };
  transport = Udp;
  phase = Allocated;
  grants = grants;
  listed = [];
  transactions = [];
  queue = [];
  last_send = Some time;
  events = [];
  closes = [];
}

-- a new client over UDP that sent its first ALLOCATE, number 7, at time 0
abbrev pub requesting : List ℕ → State → State
requesting text s = record (granted_at 0 [] s) {
  phase = Requesting;
  listed = listings 7 (ForAllocation ∷ []);
  transactions = first_sent 7 s.remote 0 text ∷ [];
}

-- it answered a challenge at 10 ms
abbrev pub challenged_once : List ℕ → Challenge → State → State
challenged_once text challenge s = state_after_retry (requesting text s) 7 ForAllocation challenge 10_000_000

-- it has allocations of both families, of 1000 s from 50 ms on
abbrev pub with_both_families : State → State
with_both_families s = granted_at 0 (new_allocation 1000 50_000_000 relayed_v4 ∷ new_allocation 1000 50_000_000 relayed_v6 ∷ []) s

-- it has an allocation over IPv4 and a permission, which was granted at 100 ms, and sent its last request
-- at this time
abbrev pub with_permission : ℕ → State → State
with_permission time s =
    granted_at time (new_allocation 1800 50_000_000 relayed_v4 ∷ Permission ip_of_peer (granted_until 300_100_000_000 true) ∷ []) s

-- it requests a permission at 60 ms, 10 ms after its last request
abbrev pub asking_at_60_ms : State → State
asking_at_60_ms s =
    (create_permission_step Udp ip_of_peer 60_000_000 (granted_at 50_000_000 (new_allocation 1800 50_000_000 relayed_v4 ∷ []) s)).1

-- with this pause between two requests
abbrev pub pausing : ℕ → State → State
pausing cadence s = record s { config = record s.config { request_cadence = cadence } }

-- refreshing so long ahead
abbrev pub refreshing_ahead : ℕ → State → State
refreshing_ahead ahead s = record s { config = record s.config { refresh_ahead = ahead } }

-- an allocation over IPv4 of so many seconds from 50 ms on, a channel of 600 s and a permission of 300 s from 100 ms on
abbrev pub with_all : ℕ → State → State
with_all lifetime s =
    granted_at 50_000_000
    (new_allocation lifetime 50_000_000 relayed_v4
    ∷ Channel 0x4000 peer (granted_until 600_100_000_000 true)
    ∷ Permission ip_of_peer (granted_until 300_100_000_000 true)
    ∷ []) s

-- keeping its path to the server alive, so long after the last packet
abbrev pub keeping_alive : ℕ → State → State
keeping_alive wait s = record s { config = record s.config { keepalive = Some wait } }

-- the same, 15 s after the last packet, which was sent at 100 ms
abbrev pub kept_alive : State → State
kept_alive s = keeping_alive 15_000_000_000 (with_permission 100_000_000 s)

-- a Binding indication without attributes (RFC 8489, section 5)
abbrev pub indication_bytes : ℕ → List ℕ
indication_bytes id = (0x00 ∷ 0x11 ∷ 0x00 ∷ 0x00 ∷ 0x21 ∷ 0x12 ∷ 0xa4 ∷ 0x42 ∷ []) ++ id_bytes id

-- ---- a server that does not respond

-- 600 ms after the first send, 1 s at most after others, three sends, and 3 s after the last
abbrev pub short_timers : Timers
short_timers = record { initial = 600_000_000; max = 1_000_000_000; transmissions = 3; last = 3_000_000_000 }

-- the client has sent its first ALLOCATE at time 0 over this transport, and waits by these timers, or by
-- default
abbrev pub requesting_by : Option Timers → TransportType → List ℕ → State → State
requesting_by timers transport text s = record (requesting text s) {
  config = record s.config {
    request_timers = timers;
    request_cadence = default_request_cadence;
    keepalive = None;
    refresh_ahead = default_refresh_ahead;
    timed_from_send = false;
  };
  transport = transport;
}

abbrev pub poll_and_then : (ℕ → State → List TurnPollRet) → TurnPollRet × State → List TurnPollRet
poll_and_then later (WaitUntil time, s) = WaitUntil time ∷ later time s
poll_and_then later (answer, s) = answer ∷ []

-- The results of so many calls of `poll`: each at the time that the one before returned, once what is due
-- was sent.
unfoldable pub polls_in_sequence : ℕ → ℕ → State → List TurnPollRet
polls_in_sequence zero now s = []
polls_in_sequence (suc n) now s = poll_and_then (polls_in_sequence n) (poll_step now (transmit_step now s).1)

-- these times, in milliseconds, and then that it has ended
abbrev pub waits_and_ends : List ℕ → List TurnPollRet
waits_and_ends times = map (λ m. WaitUntil (m * 1_000_000)) times ++ Ended ∷ []

-- the client waits for a first ALLOCATE until each of these times in sequence, and has ended after the last
-- one
abbrev pub WaitsInSilence : Option Timers → TransportType → List ℕ → Type 0
WaitsInSilence timers transport times =
    (text : List ℕ) (s : State) → polls_in_sequence (suc (length times)) 0 (requesting_by timers transport text s) ≡ waits_and_ends times

-- ---- the first ALLOCATE (RFC 8656, section 7.1)

-- so many bytes after the header, a lifetime of 1800 s, and UDP to be relayed unfragmented
abbrev pub allocate_bytes : ℕ → ℕ → List ℕ → List ℕ
allocate_bytes len id others =
    (0x00 ∷ 0x03 ∷ 0x00 ∷ len ∷ 0x21 ∷ 0x12 ∷ 0xa4 ∷ 0x42 ∷ []) ++ id_bytes id
    ++ (0x00 ∷ 0x0d ∷ 0x00 ∷ 0x04 ∷ 0x00 ∷ 0x00 ∷ 0x07 ∷ 0x08 ∷ [])
    ++ (0x00 ∷ 0x19 ∷ 0x00 ∷ 0x04 ∷ 0x11 ∷ 0x00 ∷ 0x00 ∷ 0x00 ∷ [])
    ++ (0x00 ∷ 0x1a ∷ 0x00 ∷ 0x00 ∷ []) ++ others

-- over UDP it is so encoded for these families: so many bytes after the header, and these after the others
abbrev pub IsFirstAllocate : List AddressFamily → ℕ → List ℕ → Type 0
IsFirstAllocate families len others =
    (s : State) (id : ℕ) → s.config.allocation_transport ≡ Udp → s.families ≡ families → first_allocate s id ≡ allocate_bytes len id others

-- ---- requests that get no response

-- Over UDP with the default times a request times out 39.5 s after its first send: this one, number 7, was
-- first sent at 1 s, and for the seventh and last time at 32.5 s (RFC 8489, section 6.2.1).
abbrev pub last_sent : SocketAddr → List ℕ → Transaction
last_sent to text = record { id = 7; to = to; resends = 6; last_send = 32_500_000_000; request = text }

-- the request was made for these
abbrev pub awaiting : List Purpose → SocketAddr → List ℕ → State → State
awaiting purposes to text s = record s { transactions = last_sent to text ∷ []; listed = listings 7 purposes }

-- allocations of both families, granted for 1800 s at 50 ms
abbrev pub both_allocations : List Grant
both_allocations = new_allocation 1800 50_000_000 relayed_v4 ∷ new_allocation 1800 50_000_000 relayed_v6 ∷ []

-- the client deletes them at 1 s
abbrev pub giving_back : State → State
giving_back s = (delete_step 1_000_000_000 (granted_at 0 both_allocations s)).1

-- it did so, and got no response
abbrev pub deleted_in_silence : SocketAddr → List ℕ → State → State
deleted_in_silence to text s =
    awaiting (ForRefresh IPV4 0 ∷ ForRefresh IPV6 0 ∷ []) to text (all_expired 1_000_000_000 (granted_at 32_500_000_000 both_allocations s))

-- the client requested a channel and the permission that it needs, and got no response
abbrev pub binding_in_silence : SocketAddr → List ℕ → State → State
binding_in_silence to text s =
    awaiting (ForChannel 0x4000 peer ∷ ForPermission ip_of_peer ∷ []) to text
    (granted_at 32_500_000_000 (new_allocation 1800 50_000_000 relayed_v4 ∷ Channel 0x4000 peer (Pending true) ∷ Permission ip_of_peer (Pending true) ∷ []) s)

-- this holds of the result of a client that is polled when that request times out
abbrev pub WhenGivenUp : (TurnPollRet × State → Type 0) → Type 0
WhenGivenUp Is = (to : SocketAddr) (text : List ℕ) (s : State) → Is (poll_step 40_500_000_000 (binding_in_silence to text s))
