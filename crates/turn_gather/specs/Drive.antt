-- Lists of calls: each call is its own step, in order.
use Rattle.std.specs.Prelude.{◌<◌, ◌≤◌, ◌^◌, length, List, [], ◌∷◌, ◌++◌, Option, Some, None, ⊤, if◌then◌else◌}
use Rattle.std.specs.declared.net.socket_addr.SocketAddr.{SocketAddr}
use Rattle.turn_stun.specs.declared.transport.TransportType.{TransportType}
use Rattle.turn_client_api.specs.State.{State}
use Rattle.turn_client_api.specs.Payloads.{Payload}
use Rattle.turn_client_api.specs.Streams.{payload_in, poll_recv_step}
use Rattle.turn_client_api.specs.Calls.{create_permission_step, relayed_addresses_of, send_to_step, FitsDatagram}
use Rattle.turn_client_api.specs.Poll.{poll_step}
use Rattle.turn_client_api.specs.Transmit.{transmit_step}
use Rattle.turn_client_api.specs.Answers.{event_step}
use Rattle.turn_client_api.specs.Steps.{packet_step}
use Rattle.turn_client_calls.specs.Run.{peer_data}
use Rattle.turn_client_calls.specs.declared.reply.PeerData.{PeerData}
use Rattle.turn_gather.specs.Gathering.{Gathering, check_step, is_checked_in}
use Rattle.turn_gather.specs.Received.{Gathered, gathered, gathered_poll}
use Rattle.turn_gather.specs.Received as G
use Rattle.turn_gather.specs.declared.calls.call.GatherCall.{GatherCall}
use Rattle.turn_gather.specs.declared.calls.call.GatherCall.TheVariants.{Candidates, IsChecked, Check, Recv, PollRecv, CreatePermission, SendTo, Poll}
use Rattle.turn_gather.specs.declared.calls.call.GatherCall.TheVariants.{PollTransmit, PollEvent}
use Rattle.turn_gather.specs.declared.calls.reply.GatherReply.{GatherReply}
use Rattle.turn_gather.specs.declared.calls.reply.GatherReply.TheVariants as Replies

-- ---- one call

-- the answer of `recv`
abbrev pub gathered_reply : Gathered → GatherReply
gathered_reply G.Handled = Replies.Handled
gathered_reply G.Ignored = Replies.Ignored
gathered_reply (G.PassedUp payload) = Replies.Payload (peer_data payload)
gathered_reply G.Dropped = Replies.Dropped

-- the answer of `poll_recv`
abbrev pub polled_reply : Option Gathered → GatherReply
polled_reply None = Replies.NoPayload
polled_reply (Some given) = gathered_reply given

-- the answer of the call, if memory allocation succeeds
abbrev pub gather_reply_of : GatherCall → Gathering → GatherReply
gather_reply_of Candidates s = Replies.Candidates (relayed_addresses_of s.client)
gather_reply_of (IsChecked transport peer) s = Replies.IsChecked (is_checked_in transport peer s.checked)
gather_reply_of (Check transport peer) s = Replies.Check (check_step transport peer s.checked).0
gather_reply_of (Recv packet now) s = gathered_reply (gathered s.checked (packet_step packet now s.client).0)
gather_reply_of (PollRecv now) s = polled_reply (gathered_poll now s)
gather_reply_of (CreatePermission transport peer now) s = Replies.CreatePermission (create_permission_step transport peer now s.client).0
gather_reply_of (SendTo transport peer bytes now) s = Replies.SendTo (send_to_step transport peer bytes now s.client).0
gather_reply_of (Poll now) s = Replies.Poll (poll_step now s.client).0
gather_reply_of (PollTransmit now) s = Replies.Transmit (transmit_step now s.client).0
gather_reply_of PollEvent s = Replies.Event (event_step s.client).0

-- the client after it
abbrev pub client_after : GatherCall → State → State
client_after Candidates s = s
client_after (IsChecked transport peer) s = s
client_after (Check transport peer) s = s
client_after (Recv packet now) s = (packet_step packet now s).1
client_after (PollRecv now) s = (poll_recv_step now s).1
client_after (CreatePermission transport peer now) s = (create_permission_step transport peer now s).1
client_after (SendTo transport peer bytes now) s = (send_to_step transport peer bytes now s).1
client_after (Poll now) s = (poll_step now s).1
client_after (PollTransmit now) s = (transmit_step now s).1
client_after PollEvent s = (event_step s).1

-- the pairs after it: only `check` changes them
abbrev pub checked_after : GatherCall → List (TransportType × SocketAddr) → List (TransportType × SocketAddr)
checked_after Candidates pairs = pairs
checked_after (IsChecked transport peer) pairs = pairs
checked_after (Check transport peer) pairs = (check_step transport peer pairs).1
checked_after (Recv packet now) pairs = pairs
checked_after (PollRecv now) pairs = pairs
checked_after (CreatePermission transport peer now) pairs = pairs
checked_after (SendTo transport peer bytes now) pairs = pairs
checked_after (Poll now) pairs = pairs
checked_after (PollTransmit now) pairs = pairs
checked_after PollEvent pairs = pairs

abbrev pub after : GatherCall → Gathering → Gathering
after call s = record { client = client_after call s.client; checked = checked_after call s.checked }

-- the answer, and the gatherer after it
abbrev pub gather_step : Gathering → GatherCall → GatherReply × Gathering
gather_step s call = (gather_reply_of call s, after call s)

-- the answer has a copy of data, which are not empty
abbrev pub IsCopied : GatherReply → Type 0
IsCopied (Replies.Payload payload) = 0 < length payload.«data»
IsCopied _ = ⊥

-- ---- calls that can be made

-- the call is allowed on a gatherer whose client's allocations relay over this transport
abbrev pub IsGatherCallable : TransportType → GatherCall → Type 0
IsGatherCallable relays Candidates = ⊤
IsGatherCallable relays (IsChecked transport peer) = ⊤
IsGatherCallable relays (Check transport peer) = ⊤
IsGatherCallable relays (Recv packet now) = now ≤ 2 ^ 62
IsGatherCallable relays (PollRecv now) = now ≤ 2 ^ 62
IsGatherCallable relays (CreatePermission transport peer now) = now ≤ 2 ^ 62
IsGatherCallable relays (SendTo transport peer bytes now) = (now ≤ 2 ^ 62) × FitsDatagram relays bytes
IsGatherCallable relays (Poll now) = now ≤ 2 ^ 62
IsGatherCallable relays (PollTransmit now) = now ≤ 2 ^ 62
IsGatherCallable relays PollEvent = ⊤

-- ---- many calls

-- the answers of the calls, in order
abbrev pub all_replies : Gathering → List GatherCall → List GatherReply
all_replies s [] = []
all_replies s (call ∷ calls) = gather_reply_of call s ∷ all_replies (after call s) calls

-- the gatherer after all calls
abbrev pub after_all : Gathering → List GatherCall → Gathering
after_all s [] = s
after_all s (call ∷ calls) = after_all (after call s) calls

-- ---- the payloads passed up

-- the payload that an answer passes up
abbrev pub passed_up : GatherReply → Option PeerData
passed_up (Replies.Payload payload) = Some payload
passed_up _ = None

-- the payload of a peer that the client delivers in a call (RFC 8656, sections 11.4 and 12.6)
abbrev pub payload_given : GatherCall → State → Option Payload
payload_given (Recv packet now) s = payload_in (packet_step packet now s).0
payload_given (PollRecv now) s = (poll_recv_step now s).0
payload_given _ s = None

-- this payload alone, if its pair is in the list
abbrev pub if_checked : List (TransportType × SocketAddr) → Option Payload → List PeerData
if_checked pairs None = []
if_checked pairs (Some payload) =
    if is_checked_in payload.transport payload.peer pairs then peer_data payload ∷ [] else []

-- the payloads that the client delivers in these calls, from peers whose pairs were checked before
abbrev pub checked_payloads : Gathering → List GatherCall → List PeerData
checked_payloads s [] = []
checked_payloads s (call ∷ calls) = if_checked s.checked (payload_given call s.client) ++ checked_payloads (after call s) calls
