-- A request, and which call of a client it is.
use Rattle.std.specs.Prelude.{ℕ, Bool, true, false, not, ◌&&◌, ◌==◌, ◌^◌, nat_le, if◌then◌else◌, List, [], ◌∷◌, Option, Some, None}
use Rattle.std.specs.List.{find}
use Rattle.std.specs.Option.{option_map}
use Rattle.std.specs.declared.net.ip_addr.IpAddr.{IpAddr}
use Rattle.std.specs.declared.net.socket_addr.SocketAddr.{SocketAddr}
use Rattle.turn_stun.specs.declared.transport.Transmit.{Transmit}
use Rattle.turn_stun.specs.declared.transport.TransportType.{TransportType}
use Rattle.turn_client_api.specs.declared.call.Call.{Call}
use Rattle.turn_client_api.specs.declared.call.Call.TheVariants as Calls
use Rattle.turn_client_calls.specs.Checks.{◌>>=◌}
use Rattle.turn_c_calls.specs.Address.{ip_at, socket_at, c_transport}
use Rattle.turn_c_calls.specs.declared.address.Address.{Address}
use Rattle.turn_c_calls.specs.declared.code.TheConstants.{BIND_CHANNEL, TCP_CLOSED, TCP_CONNECT, DELETE, POLL_EVENT, PROTOCOL_ERROR, HAVE_PERMISSION}
use Rattle.turn_c_calls.specs.declared.code.TheConstants.{NO_FAMILY, PERMISSIONS, CREATE_PERMISSION, POLL, POLL_RECV, READ, RECV, RELAYED_ADDRESSES}
use Rattle.turn_c_calls.specs.declared.code.TheConstants.{SEND_TO, ALLOCATED_TCP_SOCKET, POLL_TRANSMIT, SET_CHANNEL_KEPT, SET_PERMISSION_KEPT}
use Rattle.turn_c_calls.specs.Operation.{Operation}
use Rattle.turn_c_calls.specs.Operation as Operations
use Rattle.turn_c_calls.specs.declared.request.Kind.{Kind}
use Rattle.turn_c_calls.specs.declared.request.Kind.TheVariants as Kinds
use Rattle.turn_c_calls.specs.declared.request.Request.{Request}
use Rattle.turn_client_api.specs.declared.poll.Socket5Tuple.{Socket5Tuple}

-- in nanoseconds
abbrev pub time_of : ℕ → Option ℕ
time_of nanos = if nat_le nanos (2 ^ 62) then Some nanos else None

-- the calls with their numbers
abbrev pub kinds : List (ℕ × Kind)
kinds =
    (DELETE, Kinds.Delete) ∷ (CREATE_PERMISSION, Kinds.CreatePermission) ∷ (BIND_CHANNEL, Kinds.BindChannel)
    ∷ (TCP_CONNECT, Kinds.TcpConnect) ∷ (ALLOCATED_TCP_SOCKET, Kinds.AllocatedTcpSocket) ∷ (TCP_CLOSED, Kinds.TcpClosed)
    ∷ (SEND_TO, Kinds.SendTo) ∷ (RECV, Kinds.Recv) ∷ (POLL_RECV, Kinds.PollRecv)
    ∷ (POLL, Kinds.Poll) ∷ (POLL_TRANSMIT, Kinds.PollTransmit) ∷ (POLL_EVENT, Kinds.PollEvent)
    ∷ (PROTOCOL_ERROR, Kinds.ProtocolError) ∷ (RELAYED_ADDRESSES, Kinds.RelayedAddresses) ∷ (PERMISSIONS, Kinds.Permissions)
    ∷ (HAVE_PERMISSION, Kinds.HavePermission) ∷ (READ, Kinds.Read) ∷ (SET_PERMISSION_KEPT, Kinds.SetPermissionKept)
    ∷ (SET_CHANNEL_KEPT, Kinds.SetChannelKept) ∷ []

abbrev pub kind_of : ℕ → Option Kind
kind_of code = option_map (λ k. k.1) (find (λ k. code == k.0) kinds)

-- the kind of a request whose reserved place is 0
abbrev pub kind_in : Request → Option Kind
kind_in r = if not (r.reserved == 0) then None else kind_of r.kind

-- what a call has to do with bytes: it takes those of a packet, it writes some to the buffer, or neither
pub data Flow : Type 0 where
  Taken : Flow
  Written : Flow
  Bare : Flow

abbrev pub flow_of : Kind → Flow
flow_of Kinds.Recv = Taken
flow_of Kinds.SendTo = Written
flow_of Kinds.PollRecv = Written
flow_of Kinds.PollTransmit = Written
flow_of Kinds.Read = Written
flow_of _ = Bare

-- the local address of a data connection, or none if it could not be opened
abbrev pub local_at : Address → Option (Option SocketAddr)
local_at a = if a.family == NO_FAMILY && a.reserved == 0 then Some None else option_map Some (socket_at a)

-- a peer and the transport to it
abbrev pub peer_of : Request → Option (TransportType × SocketAddr)
peer_of r = do
  transport ← c_transport r.transport
  peer ← socket_at r.peer
  Some (transport, peer)

-- the IP address of a peer, and the transport to it
abbrev pub peer_ip_of : Request → Option (TransportType × IpAddr)
peer_ip_of r = do
  transport ← c_transport r.transport
  ip ← ip_at r.peer
  Some (transport, ip)

-- a relayed address, and what it is relayed over
abbrev pub relayed_of : Request → Option (TransportType × SocketAddr)
relayed_of r = do
  transport ← c_transport r.transport
  relayed ← socket_at r.from
  Some (transport, relayed)

abbrev pub c_tuple : Request → Option Socket5Tuple
c_tuple r = do
  transport ← c_transport r.transport
  from ← socket_at r.from
  to ← socket_at r.to
  Some (record { transport = transport; from = from; to = to })

-- the connection that the caller has opened, or could not open
abbrev pub socket_operation : ℕ → Request → Option Operation
socket_operation now r = do
  tuple ← c_tuple r
  peer ← socket_at r.peer
  local ← local_at r.local
  Some (Operations.Plain (Calls.AllocatedTcpSocket r.id tuple peer local now))

-- whether something is kept
abbrev pub is_kept_of : ℕ → Option Bool
is_kept_of id = if id == 0 then Some false else if id == 1 then Some true else None

abbrev pub permission_kept_operation : Request → Option Operation
permission_kept_operation r = do
  peer ← peer_ip_of r
  is_kept ← is_kept_of r.id
  Some (Operations.Plain (Calls.SetPermissionKept peer.0 peer.1 is_kept))

abbrev pub channel_kept_operation : Request → Option Operation
channel_kept_operation r = do
  peer ← peer_of r
  is_kept ← is_kept_of r.id
  Some (Operations.Plain (Calls.SetChannelKept peer.0 peer.1 is_kept))

-- what a request of each kind does at a time
abbrev pub operation_with : ℕ → Request → Kind → Option Operation
operation_with now r Kinds.Delete = Some (Operations.Plain (Calls.Delete now))
operation_with now r Kinds.CreatePermission = option_map (λ p. Operations.Plain (Calls.CreatePermission p.0 p.1 now)) (peer_ip_of r)
operation_with now r Kinds.BindChannel = option_map (λ p. Operations.Plain (Calls.BindChannel p.0 p.1 now)) (peer_of r)
operation_with now r Kinds.TcpConnect = option_map (λ peer. Operations.Plain (Calls.TcpConnect peer now)) (socket_at r.peer)
operation_with now r Kinds.AllocatedTcpSocket = socket_operation now r
operation_with now r Kinds.TcpClosed = do
  local ← socket_at r.from
  remote ← socket_at r.to
  Some (Operations.Plain (Calls.TcpClosed local remote now))
operation_with now r Kinds.SendTo = option_map (λ p. Operations.SendTo p.0 p.1 now) (peer_of r)
operation_with now r Kinds.Recv = option_map (λ tuple. Operations.Recv tuple now) (c_tuple r)
operation_with now r Kinds.PollRecv = Some (Operations.PollRecv now)
operation_with now r Kinds.Poll = Some (Operations.Poll now)
operation_with now r Kinds.PollTransmit = Some (Operations.PollTransmit now)
operation_with now r Kinds.PollEvent = Some Operations.PollEvent
operation_with now r Kinds.ProtocolError = Some (Operations.Plain Calls.ProtocolError)
operation_with now r Kinds.RelayedAddresses = Some (Operations.RelayedAddresses r.id)
operation_with now r Kinds.Permissions = option_map (λ p. Operations.Permissions p.0 p.1 r.id) (relayed_of r)
operation_with now r Kinds.HavePermission = option_map (λ p. Operations.Plain (Calls.HavePermission p.0 p.1)) (peer_ip_of r)
operation_with now r Kinds.Read = Some Operations.Read
operation_with now r Kinds.SetPermissionKept = permission_kept_operation r
operation_with now r Kinds.SetChannelKept = channel_kept_operation r

-- the packet that has these bytes
abbrev pub packet_over : Socket5Tuple → List ℕ → Transmit (List ℕ)
packet_over tuple bytes = record { payload = bytes; transport = tuple.transport; from = tuple.from; to = tuple.to }

abbrev pub recv_call : Socket5Tuple → List ℕ → ℕ → Call
recv_call tuple bytes now = Calls.Recv (packet_over tuple bytes) now

-- the call that is made with this data, if it is one
abbrev pub call_in : Operation → List ℕ → Option Call
call_in (Operations.Plain call) bytes = Some call
call_in (Operations.SendTo transport to now) bytes = Some (Calls.SendTo transport to bytes now)
call_in (Operations.Recv tuple now) bytes = Some (recv_call tuple bytes now)
call_in (Operations.PollRecv now) bytes = Some (Calls.PollRecv now)
call_in (Operations.Poll now) bytes = Some (Calls.Poll now)
call_in (Operations.PollTransmit now) bytes = Some (Calls.PollTransmit now)
call_in Operations.PollEvent bytes = Some Calls.PollEvent
call_in (Operations.RelayedAddresses index) bytes = Some Calls.RelayedAddresses
call_in (Operations.Permissions transport relayed index) bytes = Some (Calls.Permissions transport relayed)
call_in Operations.Read bytes = None

-- the index in the list that it returns
abbrev pub index_in : Operation → ℕ
index_in (Operations.RelayedAddresses index) = index
index_in (Operations.Permissions transport relayed index) = index
index_in operation = 0
