-- What an answer says. A field that a kind does not use stays as it was.
use Rattle.std.specs.Prelude.{ℕ, ◌^◌, nat_lt, Bool, true, false, if◌then◌else◌, List, slice_get, Option, Some, None, Ok, Err, ⊤}
use Rattle.std.specs.declared.net.ip_addr.IpAddr.{IpAddr}
use Rattle.std.specs.declared.net.socket_addr.SocketAddr.{SocketAddr}
use Rattle.turn_stun.specs.declared.transport.TransportType.{TransportType}
use Rattle.turn_types.specs.declared.family.AddressFamily.{AddressFamily}
use Rattle.turn_types.specs.declared.family.AddressFamily.TheVariants as Family
use Rattle.turn_client_api.specs.declared.event.TurnEvent.{TurnEvent}
use Rattle.turn_client_api.specs.declared.event.TurnEvent.TheVariants.{AllocationCreated, AllocationCreateFailed, PermissionCreated}
use Rattle.turn_client_api.specs.declared.event.TurnEvent.TheVariants.{PermissionCreateFailed, ChannelCreated, ChannelCreateFailed, TcpConnected}
use Rattle.turn_client_api.specs.declared.event.TurnEvent.TheVariants.{TcpConnectFailed}
use Rattle.turn_client_api.specs.declared.poll.TurnPollRet.{TurnPollRet}
use Rattle.turn_client_api.specs.declared.poll.TurnPollRet.TheVariants.{WaitUntil, AllocateTcpSocket, TcpClose, Closed}
use Rattle.turn_client_calls.specs.Refusal.{send_refusal, create_permission_refusal, bind_channel_refusal, tcp_connect_refusal}
use Rattle.turn_client_calls.specs.Refusal.{tcp_allocate_refusal, delete_refusal, keep_refusal}
use Rattle.turn_client_calls.specs.declared.refusal.Refusal.TheVariants as Refused
use Rattle.turn_client_calls.specs.declared.refusal.Refusal.{Refusal}
use Rattle.turn_client_calls.specs.declared.reply.Reply.TheVariants as Replies
use Rattle.turn_client_calls.specs.declared.reply.Reply.{Reply}
use Rattle.turn_c_calls.specs.Address.{c_address, address_of_ip, transport_code}
use Rattle.turn_c_calls.specs.declared.address.Address.{Address}
use Rattle.turn_c_calls.specs.declared.answer.Answer.{Answer}
use Rattle.turn_c_calls.specs.declared.code.TheConstants.{ADDRESS, ALLOCATION_CREATE_FAILED, ALLOCATION_CREATED}
use Rattle.turn_c_calls.specs.declared.code.TheConstants.{CHANNEL_CREATE_FAILED, CHANNEL_CREATED, TCP_CLOSE, TCP_CONNECT_FAILED, TCP_CONNECTED, PEER_DATA}
use Rattle.turn_c_calls.specs.declared.code.TheConstants.{DONE, CLOSED, HANDLED, PEER_ICMP, IGNORED, IPV4, IPV6}
use Rattle.turn_c_calls.specs.declared.code.TheConstants.{NOTHING, ALLOCATE_TCP_SOCKET, PACKET}
use Rattle.turn_c_calls.specs.declared.code.TheConstants.{PERMISSION_CREATE_FAILED, PERMISSION_CREATED, REFUSED, WAIT_UNTIL}

-- an answer of this kind
abbrev pub of_kind : ℕ → Answer → Answer
of_kind kind a = record a { kind = kind }

-- the result of `poll`
abbrev pub poll_answer : TurnPollRet → Answer → Answer
poll_answer (WaitUntil time) a = record a { kind = WAIT_UNTIL; time = time }
poll_answer (AllocateTcpSocket id socket peer) a = record a {
  kind = ALLOCATE_TCP_SOCKET;
  id = id;
  transport = transport_code socket.transport;
  from = c_address socket.from;
  to = c_address socket.to;
  peer = c_address peer;
}
poll_answer (TcpClose local remote) a = record a { kind = TCP_CLOSE; from = c_address local; to = c_address remote }
poll_answer Closed a = of_kind CLOSED a

-- a packet to send, but for its bytes
abbrev pub packet_answer : TransportType → SocketAddr → SocketAddr → Answer → Answer
packet_answer transport from to a =
    record a { kind = PACKET; transport = transport_code transport; from = c_address from; to = c_address to }

-- an answer of this kind about a peer, or about a relayed address
abbrev pub peer_answer : ℕ → TransportType → Address → Answer → Answer
peer_answer kind transport peer a = record a { kind = kind; transport = transport_code transport; peer = peer }

-- data of a peer, but for its bytes
abbrev pub data_answer : TransportType → SocketAddr → Answer → Answer
data_answer transport peer a = peer_answer PEER_DATA transport (c_address peer) a

abbrev pub icmp_answer : TransportType → SocketAddr → ℕ → ℕ → ℕ → Answer → Answer
icmp_answer transport peer icmp_type icmp_code icmp_data a = record a {
  kind = PEER_ICMP;
  transport = transport_code transport;
  peer = c_address peer;
  icmp_type = icmp_type;
  icmp_code = icmp_code;
  icmp_data = icmp_data;
}

abbrev pub family_code : AddressFamily → ℕ
family_code Family.IPV4 = IPV4
family_code Family.IPV6 = IPV6

abbrev pub event_answer : TurnEvent → Answer → Answer
event_answer (AllocationCreated transport relayed) a = peer_answer ALLOCATION_CREATED transport (c_address relayed) a
event_answer (AllocationCreateFailed family) a = record a { kind = ALLOCATION_CREATE_FAILED; family = family_code family }
event_answer (PermissionCreated transport peer) a = peer_answer PERMISSION_CREATED transport (address_of_ip peer) a
event_answer (PermissionCreateFailed transport peer) a = peer_answer PERMISSION_CREATE_FAILED transport (address_of_ip peer) a
event_answer (ChannelCreated transport peer) a = peer_answer CHANNEL_CREATED transport (c_address peer) a
event_answer (ChannelCreateFailed transport peer) a = peer_answer CHANNEL_CREATE_FAILED transport (c_address peer) a
event_answer (TcpConnected peer) a = record a { kind = TCP_CONNECTED; peer = c_address peer }
event_answer (TcpConnectFailed peer) a = record a { kind = TCP_CONNECT_FAILED; peer = c_address peer }

-- the error of a call, by the numbers that C programs were built with
abbrev pub refusal_answer : Refusal → Answer → Answer
refusal_answer Refused.AlreadyExists a = record a { kind = REFUSED; error = 1 }
refusal_answer Refused.NoAllocation a = record a { kind = REFUSED; error = 2 }
refusal_answer Refused.NoPermission a = record a { kind = REFUSED; error = 3 }
refusal_answer Refused.NoSocket a = record a { kind = REFUSED; error = 4 }
refusal_answer (Refused.Expired until) a = record a { kind = REFUSED; error = 5; time = until }
refusal_answer Refused.NotGranted a = record a { kind = REFUSED; error = 6 }
refusal_answer Refused.OutOfMemory a = record a { kind = REFUSED; error = 255 }

-- the relayed address at an index, or that there is none
abbrev pub relayed_answer : Option (TransportType × SocketAddr) → Answer → Answer
relayed_answer None a = of_kind NOTHING a
relayed_answer (Some one) a = peer_answer ADDRESS one.0 (c_address one.1) a

-- the IP address at an index, or that there is none
abbrev pub permission_answer : Option IpAddr → Answer → Answer
permission_answer None a = of_kind NOTHING a
permission_answer (Some ip) a = record a { kind = ADDRESS; peer = address_of_ip ip }

-- the IP address of a permission with the position behind it, or that there is none; a position has 32 bits
abbrev pub next_permission_answer : Option (IpAddr × ℕ) → Answer → Answer
next_permission_answer None a = of_kind NOTHING a
next_permission_answer (Some next) a =
    if nat_lt next.1 (2 ^ 32) then record a { kind = ADDRESS; id = next.1; peer = address_of_ip next.0 } else of_kind NOTHING a

-- whether there is a permission, by the numbers of `YES` and `NO` that C programs were built with
abbrev pub found_answer : Bool → Answer → Answer
found_answer true a = of_kind 21 a
found_answer false a = of_kind 22 a

-- what a reply says, but for its bytes; of a list, the address at this index
abbrev pub answer_to : ℕ → Reply → Answer → Answer
answer_to index (Replies.Poll returned) a = poll_answer returned a
answer_to index (Replies.Transmit None) a = of_kind NOTHING a
answer_to index (Replies.Transmit (Some packet)) a = packet_answer packet.transport packet.from packet.to a
answer_to index (Replies.Event None) a = of_kind NOTHING a
answer_to index (Replies.Event (Some event)) a = event_answer event a
answer_to index Replies.Handled a = of_kind HANDLED a
answer_to index Replies.Ignored a = of_kind IGNORED a
answer_to index (Replies.PeerData sent) a = data_answer sent.transport sent.peer a
answer_to index (Replies.PeerIcmp transport peer icmp_type icmp_code icmp_data) a =
    icmp_answer transport peer icmp_type icmp_code icmp_data a
answer_to index Replies.NoData a = of_kind NOTHING a
answer_to index (Replies.SendTo (Ok packet)) a = packet_answer packet.transport packet.from packet.to a
answer_to index (Replies.SendTo (Err error)) a = refusal_answer (send_refusal error) a
answer_to index (Replies.CreatePermission (Ok done)) a = of_kind DONE a
answer_to index (Replies.CreatePermission (Err error)) a = refusal_answer (create_permission_refusal error) a
answer_to index (Replies.BindChannel (Ok done)) a = of_kind DONE a
answer_to index (Replies.BindChannel (Err error)) a = refusal_answer (bind_channel_refusal error) a
answer_to index (Replies.TcpConnect (Ok done)) a = of_kind DONE a
answer_to index (Replies.TcpConnect (Err error)) a = refusal_answer (tcp_connect_refusal error) a
answer_to index (Replies.AllocatedTcpSocket (Ok done)) a = of_kind DONE a
answer_to index (Replies.AllocatedTcpSocket (Err error)) a = refusal_answer (tcp_allocate_refusal error) a
answer_to index (Replies.Delete (Ok done)) a = of_kind DONE a
answer_to index (Replies.Delete (Err error)) a = refusal_answer (delete_refusal error) a
answer_to index (Replies.RelayedAddresses relayed) a = relayed_answer (slice_get relayed index) a
answer_to index (Replies.Permissions ips) a = permission_answer (slice_get ips index) a
answer_to index (Replies.HavePermission found) a = found_answer found a
answer_to index (Replies.SetPermissionKept (Ok done)) a = of_kind DONE a
answer_to index (Replies.SetPermissionKept (Err error)) a = refusal_answer (keep_refusal error) a
answer_to index (Replies.SetChannelKept (Ok done)) a = of_kind DONE a
answer_to index (Replies.SetChannelKept (Err error)) a = refusal_answer (keep_refusal error) a
answer_to index Replies.Done a = of_kind DONE a

-- the bytes that a reply carries, if it is one that does
abbrev pub reply_bytes : Reply → Option (List ℕ)
reply_bytes (Replies.Transmit (Some packet)) = Some packet.payload
reply_bytes (Replies.PeerData sent) = Some sent.«data»
reply_bytes (Replies.SendTo (Ok packet)) = Some packet.payload
reply_bytes _ = None

-- a reply that has neither bytes nor a list
abbrev pub IsPlain : Reply → Type 0
IsPlain (Replies.CreatePermission result) = ⊤
IsPlain (Replies.BindChannel result) = ⊤
IsPlain (Replies.TcpConnect result) = ⊤
IsPlain (Replies.AllocatedTcpSocket result) = ⊤
IsPlain (Replies.Delete result) = ⊤
IsPlain (Replies.SetPermissionKept result) = ⊤
IsPlain (Replies.SetChannelKept result) = ⊤
IsPlain Replies.Done = ⊤
IsPlain _ = ⊥
