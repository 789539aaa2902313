-- A call as a line of a trace, for the law that parsing this line gives the call.
use Rattle.std.specs.Prelude.{◌≡◌, ℕ, ◌^◌, ◌<◌, ◌≤◌, Bool, true, false, List, [], ◌∷◌, length, codes, decimal, Option, Some, None, ⊤}
use Rattle.std.specs.Net.Addr.{IsIpv4Addr, IsIpv6Addr}
use Rattle.std.specs.Net.Socket.{IsSocketAddr, socket_flowinfo, socket_scope_id}
use Rattle.std.specs.declared.net.ip_addr.IpAddr.{IpAddr}
use Rattle.std.specs.declared.net.ip_addr.IpAddr.TheVariants as Ip
use Rattle.std.specs.declared.net.socket_addr.SocketAddr.{SocketAddr}
use Rattle.hex.specs.Hex.{IsBytes}
use Rattle.turn_stun.specs.declared.transport.TransportType.{TransportType}
use Rattle.turn_client_api.specs.declared.call.Call.{Call}
use Rattle.turn_client_api.specs.declared.call.Call.TheVariants as Calls
use Rattle.turn_client_api.specs.declared.poll.Socket5Tuple.{Socket5Tuple}
use Rattle.turn_lines.specs.Text.{address_text, bytes_text, fields_text, ip_text, transport_text}
use Rattle.turn_client_api.specs.Calls.{FitsDatagram}

-- `-` for no address
abbrev pub text_if_any : Option SocketAddr → List ℕ
text_if_any None = codes "-"
text_if_any (Some address) = address_text address

abbrev pub tuple_fields : Socket5Tuple → List (List ℕ) → List (List ℕ)
tuple_fields tuple others = transport_text tuple.transport ∷ address_text tuple.from ∷ address_text tuple.to ∷ others

-- the name of the call that says whether a grant is kept
abbrev pub keep_name : Bool → List ℕ
keep_name true = codes "keep"
keep_name false = codes "release"

-- the fields of a call; a call without a time is written with this one
abbrev pub call_fields : ℕ → Call → List (List ℕ)
call_fields idle (Calls.Poll now) = decimal now ∷ codes "poll" ∷ []
call_fields idle (Calls.PollTransmit now) = decimal now ∷ codes "transmit" ∷ []
call_fields idle Calls.PollEvent = decimal idle ∷ codes "event" ∷ []
call_fields idle (Calls.Recv packet now) =
    decimal now ∷ codes "recv" ∷ transport_text packet.transport ∷ address_text packet.from ∷ address_text packet.to
    ∷ bytes_text packet.payload ∷ []
call_fields idle (Calls.PollRecv now) = decimal now ∷ codes "poll_recv" ∷ []
call_fields idle (Calls.SendTo transport to payload now) =
    decimal now ∷ codes "send" ∷ transport_text transport ∷ address_text to ∷ bytes_text payload ∷ []
call_fields idle (Calls.CreatePermission transport peer now) =
    decimal now ∷ codes "permit" ∷ transport_text transport ∷ ip_text peer ∷ []
call_fields idle (Calls.BindChannel transport peer now) =
    decimal now ∷ codes "bind" ∷ transport_text transport ∷ address_text peer ∷ []
call_fields idle (Calls.TcpConnect peer now) = decimal now ∷ codes "connect" ∷ address_text peer ∷ []
call_fields idle (Calls.AllocatedTcpSocket id tuple peer local now) =
    decimal now ∷ codes "socket" ∷ decimal id ∷ tuple_fields tuple (address_text peer ∷ text_if_any local ∷ [])
call_fields idle (Calls.Delete now) = decimal now ∷ codes "delete" ∷ []
call_fields idle (Calls.TcpClosed local remote now) =
    decimal now ∷ codes "closed" ∷ address_text local ∷ address_text remote ∷ []
call_fields idle Calls.ProtocolError = decimal idle ∷ codes "error" ∷ []
call_fields idle Calls.RelayedAddresses = decimal idle ∷ codes "relayed" ∷ []
call_fields idle (Calls.Permissions transport relayed) =
    decimal idle ∷ codes "permissions" ∷ transport_text transport ∷ address_text relayed ∷ []
call_fields idle (Calls.HavePermission transport to) =
    decimal idle ∷ codes "have" ∷ transport_text transport ∷ ip_text to ∷ []
call_fields idle (Calls.SetPermissionKept transport peer is_kept) =
    decimal idle ∷ keep_name is_kept ∷ transport_text transport ∷ ip_text peer ∷ []
call_fields idle (Calls.SetChannelKept transport peer is_kept) =
    decimal idle ∷ keep_name is_kept ∷ transport_text transport ∷ address_text peer ∷ []

abbrev pub call_line : ℕ → Call → List ℕ
call_line idle call = fields_text (call_fields idle call)

-- an IP address, which a line holds completely
abbrev pub IsIp : IpAddr → Type 0
IsIp (Ip.V4 ip) = IsIpv4Addr ip
IsIp (Ip.V6 ip) = IsIpv6Addr ip

-- an address that a line holds completely: flow information and scope are not written
pub record IsSpelled (address : SocketAddr) : Type 0 where
  pub in_range : IsSocketAddr address
  pub no_flow : socket_flowinfo address ≡ 0
  pub no_scope : socket_scope_id address ≡ 0

-- the same for an optional address
abbrev pub IsSpelledIfAny : Option SocketAddr → Type 0
IsSpelledIfAny None = ⊤
IsSpelledIfAny (Some address) = IsSpelled address

-- bytes for a peer that an allocation over this transport takes
abbrev pub IsPayload : TransportType → List ℕ → Type 0
IsPayload relays bytes = IsBytes bytes × FitsDatagram relays bytes

-- the two ends of the control connection
abbrev pub IsTuple : Socket5Tuple → Type 0
IsTuple tuple = IsSpelled tuple.from × IsSpelled tuple.to

-- a call that has a line in the trace of a client whose allocation is over this transport
abbrev pub HasLine : TransportType → Call → Type 0
HasLine relays (Calls.Poll now) = now ≤ 2 ^ 62
HasLine relays (Calls.PollTransmit now) = now ≤ 2 ^ 62
HasLine relays Calls.PollEvent = ⊤
HasLine relays (Calls.Recv packet now) = (now ≤ 2 ^ 62) × IsSpelled packet.from × IsSpelled packet.to × IsBytes packet.payload
HasLine relays (Calls.PollRecv now) = now ≤ 2 ^ 62
HasLine relays (Calls.SendTo transport to payload now) = (now ≤ 2 ^ 62) × IsSpelled to × IsPayload relays payload
HasLine relays (Calls.CreatePermission transport peer now) = (now ≤ 2 ^ 62) × IsIp peer
HasLine relays (Calls.BindChannel transport peer now) = (now ≤ 2 ^ 62) × IsSpelled peer
HasLine relays (Calls.TcpConnect peer now) = (now ≤ 2 ^ 62) × IsSpelled peer
HasLine relays (Calls.AllocatedTcpSocket id tuple peer local now) =
    (now ≤ 2 ^ 62) × (id < 2 ^ 32) × IsTuple tuple × IsSpelled peer × IsSpelledIfAny local
HasLine relays (Calls.Delete now) = now ≤ 2 ^ 62
HasLine relays (Calls.TcpClosed local remote now) = (now ≤ 2 ^ 62) × IsSpelled local × IsSpelled remote
HasLine relays Calls.ProtocolError = ⊤
HasLine relays Calls.RelayedAddresses = ⊤
HasLine relays (Calls.Permissions transport relayed) = IsSpelled relayed
HasLine relays (Calls.HavePermission transport to) = IsIp to
HasLine relays (Calls.SetPermissionKept transport peer is_kept) = IsIp peer
HasLine relays (Calls.SetChannelKept transport peer is_kept) = IsSpelled peer
