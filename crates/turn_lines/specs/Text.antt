-- The printed text: a line for each answer, and the fields of the lines.
use Rattle.std.specs.Prelude.{ℕ, ◌==◌, Bool, true, false, if◌then◌else◌, List, [], ◌∷◌, ◌++◌, length, codes, decimal, Some, None, Ok, Err}
use Rattle.std.specs.List.{flat_map, join_with_byte}
use Rattle.std.specs.Net.Addr.{ipv4_octets, ipv6_octets}
use Rattle.std.specs.Net.Socket.{v6_ip, v6_port}
use Rattle.std.specs.Net.Text.{socket_v4_text, ipv4_text}
use Rattle.std.specs.declared.net.ip_addr.IpAddr.{IpAddr}
use Rattle.std.specs.declared.net.ip_addr.IpAddr.TheVariants as Ip
use Rattle.std.specs.declared.net.socket_addr.SocketAddr.{SocketAddr}
use Rattle.std.specs.declared.net.socket_addr.SocketAddr.TheVariants.{V4, V6}
use Rattle.hex.specs.Hex.{encode_lower}
use Rattle.turn_stun.specs.declared.transport.TransportType.{TransportType}
use Rattle.turn_stun.specs.declared.transport.TransportType.TheVariants.{Udp, Tcp}
use Rattle.turn_stun.specs.declared.transport.Transmit.{Transmit}
use Rattle.turn_types.specs.declared.family.AddressFamily.{AddressFamily}
use Rattle.turn_types.specs.declared.family.AddressFamily.TheVariants.{IPV4, IPV6}
use Rattle.turn_client_api.specs.declared.event.TurnEvent.{TurnEvent}
use Rattle.turn_client_api.specs.declared.event.TurnEvent.TheVariants.{AllocationCreated, AllocationCreateFailed, PermissionCreated, PermissionCreateFailed}
use Rattle.turn_client_api.specs.declared.event.TurnEvent.TheVariants.{ChannelCreated, ChannelCreateFailed, TcpConnected, TcpConnectFailed}
use Rattle.turn_client_api.specs.declared.poll.Socket5Tuple.{Socket5Tuple}
use Rattle.turn_client_api.specs.declared.poll.TurnPollRet.{TurnPollRet}
use Rattle.turn_client_api.specs.declared.poll.TurnPollRet.TheVariants.{WaitUntil, AllocateTcpSocket, TcpClose, Closed}
use Rattle.turn_client_calls.specs.Refusal.{send_refusal, create_permission_refusal, bind_channel_refusal, tcp_connect_refusal}
use Rattle.turn_client_calls.specs.Refusal.{tcp_allocate_refusal, delete_refusal, keep_refusal}
use Rattle.turn_client_calls.specs.declared.refusal.Refusal.TheVariants as Refused
use Rattle.turn_client_calls.specs.declared.refusal.Refusal.{Refusal}
use Rattle.turn_client_calls.specs.declared.reply.PeerData.{PeerData}
use Rattle.turn_client_calls.specs.declared.reply.Reply.TheVariants as Replies
use Rattle.turn_client_calls.specs.declared.reply.Reply.{Reply}
use Rattle.turn_lines.specs.declared.fault.BadKind.{BadKind}
use Rattle.turn_lines.specs.declared.fault.BadKind.TheVariants as Bad
use Rattle.turn_lines.specs.declared.fault.BadLine.{BadLine}

abbrev pub transport_text : TransportType → List ℕ
transport_text Udp = codes "udp"
transport_text Tcp = codes "tcp"

-- `a.b.c.d:port`, or `[32 digits]:port` without flow information and scope
abbrev pub address_text : SocketAddr → List ℕ
address_text (V4 a) = socket_v4_text a
address_text (V6 a) = codes "[" ++ (encode_lower (ipv6_octets (v6_ip a)) ++ (codes "]:" ++ decimal (v6_port a)))

-- the same without the port
abbrev pub ip_text : IpAddr → List ℕ
ip_text (Ip.V4 ip) = ipv4_text (ipv4_octets ip)
ip_text (Ip.V6 ip) = codes "[" ++ (encode_lower (ipv6_octets ip) ++ codes "]")

-- `-` for no bytes
abbrev pub bytes_text : List ℕ → List ℕ
bytes_text bytes = if (length bytes == 0) then codes "-" else encode_lower bytes

abbrev pub family_text : AddressFamily → List ℕ
family_text IPV4 = codes "4"
family_text IPV6 = codes "6"

-- fields with one space between them
abbrev pub fields_text : List (List ℕ) → List ℕ
fields_text fields = join_with_byte 32 fields

-- a data connection that the caller is to open
abbrev pub socket_fields : ℕ → Socket5Tuple → SocketAddr → List (List ℕ)
socket_fields id socket peer =
    codes "socket" ∷ decimal id ∷ transport_text socket.transport ∷ address_text socket.from
    ∷ address_text socket.to ∷ address_text peer ∷ []

-- the result of `poll`
abbrev pub poll_fields : TurnPollRet → List (List ℕ)
poll_fields (WaitUntil time) = codes "wait" ∷ decimal time ∷ []
poll_fields (AllocateTcpSocket id socket peer) = socket_fields id socket peer
poll_fields (TcpClose local remote) = codes "close" ∷ address_text local ∷ address_text remote ∷ []
poll_fields Closed = codes "closed" ∷ []

-- a packet to send
abbrev pub packet_fields : Transmit (List ℕ) → List (List ℕ)
packet_fields packet =
    codes "send" ∷ transport_text packet.transport ∷ address_text packet.from ∷ address_text packet.to
    ∷ bytes_text packet.payload ∷ []

abbrev pub event_fields : TurnEvent → List (List ℕ)
event_fields (AllocationCreated transport relayed) =
    codes "allocated" ∷ transport_text transport ∷ address_text relayed ∷ []
event_fields (AllocationCreateFailed family) = codes "allocate-failed" ∷ family_text family ∷ []
event_fields (PermissionCreated transport peer) = codes "permitted" ∷ transport_text transport ∷ ip_text peer ∷ []
event_fields (PermissionCreateFailed transport peer) =
    codes "permit-failed" ∷ transport_text transport ∷ ip_text peer ∷ []
event_fields (ChannelCreated transport peer) = codes "bound" ∷ transport_text transport ∷ address_text peer ∷ []
event_fields (ChannelCreateFailed transport peer) =
    codes "bind-failed" ∷ transport_text transport ∷ address_text peer ∷ []
event_fields (TcpConnected peer) = codes "connected" ∷ address_text peer ∷ []
event_fields (TcpConnectFailed peer) = codes "connect-failed" ∷ address_text peer ∷ []

-- data from a peer
abbrev pub data_fields : PeerData → List (List ℕ)
data_fields sent = codes "data" ∷ transport_text sent.transport ∷ address_text sent.peer ∷ bytes_text sent.«data» ∷ []

-- an ICMP packet: its type, its code and its other data (RFC 8656, section 18.13)
abbrev pub icmp_fields : TransportType → SocketAddr → ℕ → ℕ → ℕ → List (List ℕ)
icmp_fields transport peer icmp_type icmp_code icmp_data =
    codes "icmp" ∷ transport_text transport ∷ address_text peer ∷ decimal icmp_type ∷ decimal icmp_code ∷ decimal icmp_data ∷ []

-- the error of a call
abbrev pub refusal_fields : Refusal → List (List ℕ)
refusal_fields Refused.AlreadyExists = codes "refused" ∷ codes "already-exists" ∷ []
refusal_fields Refused.NoAllocation = codes "refused" ∷ codes "no-allocation" ∷ []
refusal_fields Refused.NoPermission = codes "refused" ∷ codes "no-permission" ∷ []
refusal_fields Refused.NoSocket = codes "refused" ∷ codes "no-socket" ∷ []
refusal_fields (Refused.Expired until) = codes "refused" ∷ codes "expired" ∷ decimal until ∷ []
refusal_fields Refused.NotGranted = codes "refused" ∷ codes "not-granted" ∷ []
refusal_fields Refused.OutOfMemory = codes "refused" ∷ codes "no-memory" ∷ []

-- the number of elements, and then the fields of each
abbrev pub list_fields : {X : Type 0} → (X → List (List ℕ)) → List X → List (List ℕ)
list_fields fields xs = codes "list" ∷ decimal (length xs) ∷ flat_map fields xs

abbrev pub relayed_fields : TransportType × SocketAddr → List (List ℕ)
relayed_fields relayed = transport_text relayed.0 ∷ address_text relayed.1 ∷ []

abbrev pub yes_or_no : Bool → List ℕ
yes_or_no true = codes "yes"
yes_or_no false = codes "no"

-- the answer of a call
abbrev pub reply_fields : Reply → List (List ℕ)
reply_fields (Replies.Poll polled) = poll_fields polled
reply_fields (Replies.Transmit None) = codes "none" ∷ []
reply_fields (Replies.Transmit (Some packet)) = packet_fields packet
reply_fields (Replies.Event None) = codes "none" ∷ []
reply_fields (Replies.Event (Some event)) = event_fields event
reply_fields Replies.Handled = codes "handled" ∷ []
reply_fields Replies.Ignored = codes "ignored" ∷ []
reply_fields (Replies.PeerData sent) = data_fields sent
reply_fields (Replies.PeerIcmp transport peer icmp_type icmp_code icmp_data) =
    icmp_fields transport peer icmp_type icmp_code icmp_data
reply_fields Replies.NoData = codes "none" ∷ []
reply_fields (Replies.SendTo (Ok packet)) = packet_fields packet
reply_fields (Replies.SendTo (Err error)) = refusal_fields (send_refusal error)
reply_fields (Replies.CreatePermission (Ok done)) = codes "ok" ∷ []
reply_fields (Replies.CreatePermission (Err error)) = refusal_fields (create_permission_refusal error)
reply_fields (Replies.BindChannel (Ok done)) = codes "ok" ∷ []
reply_fields (Replies.BindChannel (Err error)) = refusal_fields (bind_channel_refusal error)
reply_fields (Replies.TcpConnect (Ok done)) = codes "ok" ∷ []
reply_fields (Replies.TcpConnect (Err error)) = refusal_fields (tcp_connect_refusal error)
reply_fields (Replies.AllocatedTcpSocket (Ok done)) = codes "ok" ∷ []
reply_fields (Replies.AllocatedTcpSocket (Err error)) = refusal_fields (tcp_allocate_refusal error)
reply_fields (Replies.Delete (Ok done)) = codes "ok" ∷ []
reply_fields (Replies.Delete (Err error)) = refusal_fields (delete_refusal error)
reply_fields (Replies.RelayedAddresses relayed) = list_fields relayed_fields relayed
reply_fields (Replies.Permissions ips) = list_fields (λ ip. ip_text ip ∷ []) ips
reply_fields (Replies.HavePermission found) = yes_or_no found ∷ []
reply_fields (Replies.SetPermissionKept (Ok done)) = codes "ok" ∷ []
reply_fields (Replies.SetPermissionKept (Err error)) = refusal_fields (keep_refusal error)
reply_fields (Replies.SetChannelKept (Ok done)) = codes "ok" ∷ []
reply_fields (Replies.SetChannelKept (Err error)) = refusal_fields (keep_refusal error)
reply_fields Replies.Done = codes "ok" ∷ []

-- a line ends with LF
abbrev pub line_text : List (List ℕ) → List ℕ
line_text fields = fields_text fields ++ codes "\n"

-- a line for each answer
abbrev pub answers_text : List Reply → List ℕ
answers_text replies = flat_map (λ reply. line_text (reply_fields reply)) replies

abbrev pub kind_text : BadKind → List ℕ
kind_text Bad.Size = codes "size"
kind_text Bad.Head = codes "head"
kind_text Bad.Time = codes "moment"
kind_text Bad.Call = codes "call"
kind_text Bad.Argument = codes "argument"
kind_text Bad.Payload = codes "payload"

-- the one line for a trace with a bad line, as in `line 2: bad call`
abbrev pub bad_text : BadLine → List ℕ
bad_text bad = codes "line " ++ (decimal bad.number ++ (codes ": bad " ++ (kind_text bad.kind ++ codes "\n")))
