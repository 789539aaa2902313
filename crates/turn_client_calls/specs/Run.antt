-- Whole runs of a client: each call by its own step, one after the other.
use Rattle.std.specs.Prelude.{ℕ, ◌≤◌, ◌^◌, List, [], ◌∷◌, Option, Some, None, ⊤}
use Rattle.std.specs.declared.net.socket_addr.SocketAddr.{SocketAddr}
use Rattle.turn_stun.specs.declared.transport.TransportType.{TransportType}
use Rattle.turn_client_api.specs.Config.{Config}
use Rattle.turn_client_api.specs.State.{State, initial}
use Rattle.turn_client_api.specs.Payloads.{Outcome, Payload}
use Rattle.turn_client_api.specs.Payloads as O
use Rattle.turn_client_api.specs.Streams.{poll_recv_step}
use Rattle.turn_client_api.specs.Calls.{allocated_tcp_socket_step, bind_channel_step, create_permission_step, delete_step, can_send_to, permissions_of}
use Rattle.turn_client_api.specs.Calls.{channel_kept_step, permission_kept_step, relayed_addresses_of, send_to_step, tcp_connect_step, FitsDatagram}
use Rattle.turn_client_api.specs.Poll.{poll_step}
use Rattle.turn_client_api.specs.Transmit.{transmit_step}
use Rattle.turn_client_api.specs.Answers.{event_step}
use Rattle.turn_client_api.specs.Steps.{packet_step, state_after, state_after_all}
use Rattle.turn_client_api.specs.declared.call.Call.{Call}
use Rattle.turn_client_api.specs.declared.call.Call.TheVariants.{Delete, CreatePermission, BindChannel, TcpConnect, AllocatedTcpSocket, TcpClosed, SendTo, Recv}
use Rattle.turn_client_api.specs.declared.call.Call.TheVariants.{PollRecv, Poll, PollTransmit, PollEvent, ProtocolError, RelayedAddresses, Permissions}
use Rattle.turn_client_api.specs.declared.call.Call.TheVariants.{HavePermission, SetPermissionKept, SetChannelKept}
use Rattle.turn_client_calls.specs.declared.reply.PeerData.{PeerData}
use Rattle.turn_client_calls.specs.declared.reply.Reply.{Reply}
use Rattle.turn_client_calls.specs.declared.reply.Reply.TheVariants as Replies

-- ---- one call

-- data of a peer, whether its bytes are owned or a range
abbrev pub peer_data : Payload → PeerData
peer_data payload = record { transport = payload.transport; peer = payload.peer; «data» = payload.bytes }

-- the reply of `recv`
abbrev pub recv_reply : Outcome → Reply
recv_reply O.Handled = Replies.Handled
recv_reply O.Ignored = Replies.Ignored
recv_reply (O.PeerData payload) = Replies.PeerData (peer_data payload)
recv_reply (O.PeerIcmp transport peer icmp) =
    Replies.PeerIcmp transport peer icmp.icmp_type icmp.code icmp.«data»

-- the reply of `poll_recv`
abbrev pub poll_recv_reply : Option Payload → Reply
poll_recv_reply None = Replies.NoData
poll_recv_reply (Some payload) = Replies.PeerData (peer_data payload)

-- the reply of the call if no memory allocation fails
abbrev pub reply_of : Call → State → Reply
reply_of (Delete now) s = Replies.Delete (delete_step now s).0
reply_of (CreatePermission transport peer now) s = Replies.CreatePermission (create_permission_step transport peer now s).0
reply_of (BindChannel transport peer now) s = Replies.BindChannel (bind_channel_step transport peer now s).0
reply_of (TcpConnect peer now) s = Replies.TcpConnect (tcp_connect_step peer now s).0
reply_of (AllocatedTcpSocket id tuple peer local now) s = Replies.AllocatedTcpSocket (allocated_tcp_socket_step id tuple peer local now s).0
reply_of (TcpClosed local remote now) s = Replies.Done
reply_of (SendTo transport peer bytes now) s = Replies.SendTo (send_to_step transport peer bytes now s).0
reply_of (Recv packet now) s = recv_reply (packet_step packet now s).0
reply_of (PollRecv now) s = poll_recv_reply (poll_recv_step now s).0
reply_of (Poll now) s = Replies.Poll (poll_step now s).0
reply_of (PollTransmit now) s = Replies.Transmit (transmit_step now s).0
reply_of PollEvent s = Replies.Event (event_step s).0
reply_of ProtocolError s = Replies.Done
reply_of RelayedAddresses s = Replies.RelayedAddresses (relayed_addresses_of s)
reply_of (Permissions transport relayed) s = Replies.Permissions (permissions_of transport relayed s)
reply_of (HavePermission transport to) s = Replies.HavePermission (can_send_to transport to s)
reply_of (SetPermissionKept transport peer is_kept) s = Replies.SetPermissionKept (permission_kept_step transport peer is_kept s).0
reply_of (SetChannelKept transport peer is_kept) s = Replies.SetChannelKept (channel_kept_step transport peer is_kept s).0

-- the reply, and the client after it
abbrev pub step : State → Call → Reply × State
step s call = (reply_of call s, state_after call s)

-- ---- calls that can be made

-- the call can be made on a client whose allocations relay over this transport
abbrev pub IsCallable : TransportType → Call → Type 0
IsCallable relays (Delete now) = now ≤ 2 ^ 62
IsCallable relays (CreatePermission transport peer now) = now ≤ 2 ^ 62
IsCallable relays (BindChannel transport peer now) = now ≤ 2 ^ 62
IsCallable relays (TcpConnect peer now) = now ≤ 2 ^ 62
IsCallable relays (AllocatedTcpSocket id tuple peer local now) = now ≤ 2 ^ 62
IsCallable relays (TcpClosed local remote now) = now ≤ 2 ^ 62
IsCallable relays (SendTo transport peer bytes now) = (now ≤ 2 ^ 62) × FitsDatagram relays bytes
IsCallable relays (Recv packet now) = now ≤ 2 ^ 62
IsCallable relays (PollRecv now) = now ≤ 2 ^ 62
IsCallable relays (Poll now) = now ≤ 2 ^ 62
IsCallable relays (PollTransmit now) = now ≤ 2 ^ 62
IsCallable relays PollEvent = ⊤
IsCallable relays ProtocolError = ⊤
IsCallable relays RelayedAddresses = ⊤
IsCallable relays (Permissions transport relayed) = ⊤
IsCallable relays (HavePermission transport to) = ⊤
IsCallable relays (SetPermissionKept transport peer is_kept) = ⊤
IsCallable relays (SetChannelKept transport peer is_kept) = ⊤

-- ---- many calls

-- the replies to the calls in order
abbrev pub replies_of : State → List Call → List Reply
replies_of s [] = []
replies_of s (call ∷ calls) = reply_of call s ∷ replies_of (state_after call s) calls

-- the replies of a new client and its last state
abbrev pub run : TransportType → SocketAddr → SocketAddr → Config → List ℕ → List Call → List Reply × State
run transport local remote config seed calls = (
  replies_of (initial transport local remote config seed) calls,
  state_after_all (initial transport local remote config seed) calls,
)
