-- What a caller requests of a client (RFC 8656, sections 8 to 12, and RFC 6062, sections 4.3 and 4.4).
use Rattle.std.specs.Prelude.{ℕ, ◌==◌, nat_le, Bool, true, false, not, ◌&&◌, ◌||◌, if◌then◌else◌, List, [], ◌∷◌, ◌++◌, map, filter, find, filter_map, codes}
use Rattle.std.specs.Prelude.{◌≡◌, ◌≤◌, length, Option, Some, None, Result, Ok, Err, is_some, is_none, option_map, slice_get}
use Rattle.std.specs.List.{list_any, range_with_len}
use Rattle.std.specs.Net.Socket.{socket_ip}
use Rattle.std.specs.Option.{option_map_or}
use Rattle.std.specs.declared.net.ip_addr.IpAddr.{IpAddr}
use Rattle.std.specs.declared.net.socket_addr.SocketAddr.{SocketAddr}
use Rattle.turn_stun.specs.declared.message.header.MessageClass.TheVariants.{Request}
use Rattle.turn_stun.specs.declared.transport.TransportType.{TransportType}
use Rattle.turn_stun.specs.declared.transport.TransportType.TheVariants.{Udp, Tcp}
use Rattle.turn_stun.specs.declared.transport.Transmit.{Transmit}
use Rattle.turn_types.specs.Channel.{channel_frame}
use Rattle.turn_types.specs.Send.{send_indication}
use Rattle.turn_types.specs.declared.family.AddressFamily.{AddressFamily}
use Rattle.turn_agent.specs.Agent.{same_address}
use Rattle.turn_client_api.specs.Config.{same_family}
use Rattle.turn_client_api.specs.State.{State, Phase, Allocated, Closed, Grant, Permission, Channel, Connect, Connection, DataConnection, Relay, Progress}
use Rattle.turn_client_api.specs.State.{Pending, Active, Reserved, Origin, ServerRequest, ForRefresh, ForPermission, ForChannel, ForConnect, ForBind, Waiting}
use Rattle.turn_client_api.specs.State.{later_by}
use Rattle.turn_client_api.specs.Grants.{allocations, find_allocation_to, as_connection, family_of, family_of_ip, in_sequence, is_channel_of, is_past}
use Rattle.turn_client_api.specs.Grants.{has_active_permission, as_offer, is_permission_of, permission_state, same_transport, with_allocations}
use Rattle.turn_client_api.specs.Grants.{with_expired, with_grant, with_more_grants, without_grants}
use Rattle.turn_client_api.specs.Requests.{request_started, connection_timed_out, id_used, fresh_id, lifetime_attribute, message_of, queued, refresh_method}
use Rattle.turn_client_api.specs.Requests.{request_for, requested, signed, to_server, accepted_reply, refused_reply, replied, waits_from}
use Rattle.turn_client_api.specs.Effect.{closed, fail_all}
use Rattle.turn_client_api.specs.Retry.{bind_time}
use Rattle.turn_client_api.specs.Connections.{connection_at, is_connected, is_connecting}
use Rattle.turn_client_api.specs.Streams.{without_stream}
use Rattle.turn_client_api.specs.declared.poll.Socket5Tuple.{Socket5Tuple}
use Rattle.turn_client_api.specs.declared.error.BindChannelError.TheVariants as Bind
use Rattle.turn_client_api.specs.declared.error.CreatePermissionError.TheVariants as Create
use Rattle.turn_client_api.specs.declared.error.DeleteError.TheVariants as Delete
use Rattle.turn_client_api.specs.declared.error.KeepError.TheVariants as Keep
use Rattle.turn_client_api.specs.declared.error.SendError.TheVariants as Send
use Rattle.turn_client_api.specs.declared.error.TcpAllocateError.TheVariants as Socket
use Rattle.turn_client_api.specs.declared.error.TcpConnectError.TheVariants as Join
use Rattle.turn_client_api.specs.declared.error.BindChannelError.{BindChannelError}
use Rattle.turn_client_api.specs.declared.error.CreatePermissionError.{CreatePermissionError}
use Rattle.turn_client_api.specs.declared.error.DeleteError.{DeleteError}
use Rattle.turn_client_api.specs.declared.error.KeepError.{KeepError}
use Rattle.turn_client_api.specs.declared.error.SendError.{SendError}
use Rattle.turn_client_api.specs.declared.error.TcpAllocateError.{TcpAllocateError}
use Rattle.turn_client_api.specs.declared.error.TcpConnectError.{TcpConnectError}

abbrev pub is_allocated : Phase → Bool
is_allocated Allocated = true
is_allocated _ = false

abbrev pub is_closed : Phase → Bool
is_closed Closed = true
is_closed _ = false

-- ---- what can be read from a client

-- the allocations that are not expired, in the order in which the server granted them
abbrev pub allocations_in_use : State → List Relay
allocations_in_use s = filter (λ a. not a.is_expired) (allocations s)

abbrev pub relayed_addresses_of : State → List (TransportType × SocketAddr)
relayed_addresses_of s = map (λ a. (s.config.allocation_transport, a.relayed)) (allocations_in_use s)

-- the allocation has this relayed address, and relays over this transport
abbrev pub is_in_use : TransportType → SocketAddr → State → Bool
is_in_use transport relayed s =
    same_transport transport s.config.allocation_transport
    && list_any (λ a. same_address a.relayed relayed) (allocations_in_use s)

abbrev pub permitted_in : AddressFamily → Grant → Option IpAddr
permitted_in family (Permission ip (Active lease)) = if same_family (family_of_ip ip) family then Some ip else None
permitted_in family _ = None

-- the IP addresses with a permission in an allocation, in the order in which the server granted them
abbrev pub permissions_of : TransportType → SocketAddr → State → List IpAddr
permissions_of transport relayed s =
    if is_in_use transport relayed s then filter_map (permitted_in (family_of relayed)) s.grants else []

abbrev pub can_send_to : TransportType → IpAddr → State → Bool
can_send_to transport ip s =
    option_map_or (λ a. not a.is_expired && has_active_permission ip s) (find_allocation_to transport ip s) false

-- ---- an allocation that can be used now

-- A call for a peer needs an allocation that relays to it over this transport. One whose expiry has passed
-- is marked as expired, and that is all that such a refused call changes.
abbrev pub in_allocation : {E : Type 0} → Option Relay → IpAddr → ℕ → E → State → Result Unit E × State → Result Unit E × State
in_allocation (Some a) ip now refusal s otherwise =
    if is_past now a then (Err refusal, with_expired (family_of_ip ip) s) else otherwise
in_allocation None ip now refusal s otherwise = (Err refusal, s)

-- ---- permissions (RFC 8656, section 9)

abbrev pub permission_step : IpAddr → ℕ → State → Result Unit CreatePermissionError × State
permission_step ip now s =
    if is_some (permission_state ip s) then (Err Create.AlreadyExists, s)
    else (if not (is_allocated s.phase) then (Err Create.NoAllocation, s)
    else (Ok tt, requested (fresh_id s) (ForPermission ip) now (with_grant (Permission ip (Pending true)) s)))

abbrev pub create_permission_step : TransportType → IpAddr → ℕ → State → Result Unit CreatePermissionError × State
create_permission_step transport ip now s =
    in_allocation (find_allocation_to transport ip s) ip now Create.NoAllocation s (permission_step ip now s)

-- ---- channels (RFC 8656, section 12)

-- the channels of a peer
abbrev pub progress_to : SocketAddr → Grant → Option Progress
progress_to peer (Channel number other progress) = if same_address other peer then Some progress else None
progress_to peer _ = None

abbrev pub channels_to : SocketAddr → State → List Progress
channels_to peer s = filter_map (progress_to peer) s.grants

-- pending or active
abbrev pub is_in_progress : Progress → Bool
is_in_progress (Reserved until) = false
is_in_progress _ = true

-- until when the peer may not be bound again
abbrev pub reserved_from : ℕ → Progress → Option ℕ
reserved_from now (Reserved until) = if nat_le now until then Some until else None
reserved_from now _ = None

abbrev pub is_number_taken : ℕ → State → Bool
is_number_taken number s = list_any (is_channel_of number) s.grants

-- the numbers that a client may bind (RFC 8656, section 12)
unfoldable pub channel_numbers : List ℕ
channel_numbers = range_with_len 0x4000 0x1000

-- the least number that no channel has, also none that is pending or reserved, in any allocation
abbrev pub free_number : State → Option ℕ
free_number s = find (λ number. not (is_number_taken number s)) channel_numbers

-- a binding requests a permission too if none is active or pending (RFC 8656, section 12.1)
abbrev pub missing_permission : SocketAddr → State → List IpAddr
missing_permission peer s = if is_none (permission_state (socket_ip peer) s) then socket_ip peer ∷ [] else []

abbrev pub bind_channel : ℕ → SocketAddr → ℕ → State → State
bind_channel number peer now s =
    let text = request_for s (ForChannel number peer) (fresh_id s) in
    let ips = missing_permission peer s in
    in_sequence (
    with_more_grants (Channel number peer (Pending true) ∷ map (λ ip. Permission ip (Pending true)) ips)
    ∷ request_started (fresh_id s) text (ForChannel number peer ∷ map ForPermission ips) (waits_from now s)
    ∷ queued true s.local text
    ∷ []
    ) s

-- by the times until which the peer is reserved, by whether the client is in `Allocated`, and by the
-- number that is free
abbrev pub bound_by : SocketAddr → ℕ → State → List ℕ → Bool → Option ℕ → Result Unit BindChannelError × State
bound_by peer now s (until ∷ others) _ _ = (Err (Bind.ExpiredChannelExists until), s)
bound_by peer now s [] false _ = (Err Bind.NoAllocation, s)
bound_by peer now s [] true None = (Err Bind.AlreadyExists, s)
bound_by peer now s [] true (Some number) = (Ok tt, bind_channel number peer now s)

abbrev pub channel_step : SocketAddr → ℕ → State → Result Unit BindChannelError × State
channel_step peer now s =
    if list_any is_in_progress (channels_to peer s) then (Err Bind.AlreadyExists, s)
    else bound_by peer now s (filter_map (reserved_from now) (channels_to peer s)) (is_allocated s.phase) (free_number s)

abbrev pub bind_channel_step : TransportType → SocketAddr → ℕ → State → Result Unit BindChannelError × State
bind_channel_step transport peer now s =
    in_allocation (find_allocation_to transport (socket_ip peer) s) (socket_ip peer) now Bind.NoAllocation s (channel_step peer now s)

-- ---- what is kept (our choice: a permission or a channel that is not refreshed ends by itself)

-- from now on it is kept, or not, and only that changes
abbrev pub marked : Bool → Grant → Grant
marked is_kept (Permission ip (Pending was)) = Permission ip (Pending is_kept)
marked is_kept (Permission ip (Active lease)) = Permission ip (Active (record lease { is_kept = is_kept }))
marked is_kept (Channel number peer (Pending was)) = Channel number peer (Pending is_kept)
marked is_kept (Channel number peer (Active lease)) = Channel number peer (Active (record lease { is_kept = is_kept }))
marked is_kept grant = grant

abbrev pub marked_if : (Grant → Bool) → Bool → Grant → Grant
marked_if which is_kept grant = if which grant then marked is_kept grant else grant

-- each keeps its place
abbrev pub with_marks : (Grant → Bool) → Bool → State → State
with_marks which is_kept s = record s { grants = map (marked_if which is_kept) s.grants }

-- such a grant is there, pending or active, and the allocations relay over this transport
abbrev pub keep_step : TransportType → (Grant → Bool) → Bool → State → Result Unit KeepError × State
keep_step transport which is_kept s =
    if same_transport transport s.config.allocation_transport && list_any which s.grants then (Ok tt, with_marks which is_kept s)
    else (Err Keep.NotGranted, s)

abbrev pub permission_kept_step : TransportType → IpAddr → Bool → State → Result Unit KeepError × State
permission_kept_step transport ip is_kept s = keep_step transport (is_permission_of ip) is_kept s

-- the channel of this peer that is pending or active
abbrev pub is_open_to : SocketAddr → Grant → Bool
is_open_to peer (Channel number other progress) = is_in_progress progress && same_address other peer
is_open_to peer _ = false

abbrev pub channel_kept_step : TransportType → SocketAddr → Bool → State → Result Unit KeepError × State
channel_kept_step transport peer is_kept s = keep_step transport (is_open_to peer) is_kept s

-- ---- data connections (RFC 6062, sections 4.3 and 4.4)

abbrev pub connect_step : SocketAddr → ℕ → State → Result Unit TcpConnectError × State
connect_step peer now s =
    if not (is_allocated s.phase) then (Err Join.NoAllocation, s)
    else (if not (has_active_permission (socket_ip peer) s) then (Err Join.NoPermission, s)
    else (if is_connected peer s || is_connecting peer s then (Err Join.AlreadyExists, s)
    else (Ok tt, requested (fresh_id s) (ForConnect peer) now (with_grant (Connect peer) s))))

abbrev pub tcp_connect_step : SocketAddr → ℕ → State → Result Unit TcpConnectError × State
tcp_connect_step peer now s =
    in_allocation (find_allocation_to Tcp (socket_ip peer) s) (socket_ip peer) now Join.NoAllocation s (connect_step peer now s)

-- the offer of this connection ID and this peer
abbrev pub is_offer_of : ℕ → SocketAddr → Grant → Bool
is_offer_of id peer grant =
    option_map_or (λ offer. (offer.connection_id == id) && same_address offer.peer peer) (as_offer grant) false

-- the origin of the offer, if there is one
abbrev pub offer_origin : ℕ → SocketAddr → State → Option Origin
offer_origin id peer s = option_map (λ offer. offer.origin) (slice_get (filter_map as_offer (filter (is_offer_of id peer) s.grants)) 0)

-- the first of these grants is removed
abbrev pub without_first : (Grant → Bool) → List Grant → List Grant
without_first which [] = []
without_first which (g ∷ others) = if which g then others else g ∷ without_first which others

abbrev pub offer_taken : ℕ → SocketAddr → State → State
offer_taken id peer s = record s { grants = without_first (is_offer_of id peer) s.grants }

-- a request of the server is answered, and nothing else
abbrev pub answered_with : (ℕ → List ℕ) → Origin → State → State
answered_with reply (ServerRequest request) s = replied (reply request) s
answered_with reply _ s = s

-- a data connection has its own stream, after all others, in place of any from the same local address
abbrev pub with_stream : SocketAddr → State → State
with_stream local s = record s {
  streams = (without_stream local s).streams ++ record { local = local; mode = Waiting; bytes = [] } ∷ [];
}

-- the caller opened the connection: the server is to bind it
abbrev pub socket_opened : ℕ → SocketAddr → SocketAddr → Origin → ℕ → State → State
socket_opened id peer local origin now s = in_sequence (
    offer_taken id peer
    ∷ answered_with (accepted_reply s) origin
    ∷ with_grant (Connection (record { local = local; peer = peer; deadline = Some (later_by bind_time now) }))
    ∷ requested (fresh_id s) (ForBind local peer id) now
    ∷ with_stream local
    ∷ []
    ) s

-- it could not be opened
abbrev pub socket_refused : ℕ → SocketAddr → Origin → State → State
socket_refused id peer origin s =
    answered_with (refused_reply connection_timed_out (codes "Connection Timeout or Failure") s) origin (offer_taken id peer s)

abbrev pub is_control : Socket5Tuple → State → Bool
is_control tuple s =
    same_transport tuple.transport s.transport && same_address tuple.from s.local && same_address tuple.to s.remote

abbrev pub is_local_taken : SocketAddr → State → Bool
is_local_taken local s = same_address local s.local || is_some (connection_at local s)

abbrev pub socket_step : ℕ → SocketAddr → Option SocketAddr → Origin → ℕ → State → Result Unit TcpAllocateError × State
socket_step id peer None origin now s = (Ok tt, socket_refused id peer origin s)
socket_step id peer (Some local) origin now s =
    if is_local_taken local s then (Err Socket.AlreadyExists, s)
    else (Ok tt, socket_opened id peer local origin now s)

abbrev pub allocated_tcp_socket_step : ℕ → Socket5Tuple → SocketAddr → Option SocketAddr → ℕ → State → Result Unit TcpAllocateError × State
allocated_tcp_socket_step id tuple peer local now s =
    if same_transport s.config.allocation_transport Tcp && is_control tuple s && is_allocated s.phase
    then option_map_or (λ origin. socket_step id peer local origin now s) (offer_origin id peer s) (Err Socket.NoAllocation, s)
    else (Err Socket.NoAllocation, s)

-- ---- the end (RFC 8656, section 8)

abbrev pub is_granted_in : Grant → Bool
is_granted_in (Permission ip (Active lease)) = true
is_granted_in (Channel number peer (Active lease)) = true
is_granted_in _ = false

-- the allocations are used no more, and expire now
abbrev pub all_expired : ℕ → State → State
all_expired now s = with_allocations (λ a. true) (λ a. record a { expiry = now; is_expired = true }) s

abbrev pub delete_text : State → List ℕ
delete_text s = signed s (message_of refresh_method Request (lifetime_attribute 0 ∷ []) (fresh_id s))

-- one REFRESH deletes all allocations; what is pending stays, and may still be granted
abbrev pub deleted : ℕ → State → State
deleted now s = in_sequence (
    without_grants is_granted_in
    ∷ all_expired now
    ∷ request_started (fresh_id s) (delete_text s) (map (λ a. ForRefresh (family_of a.relayed) 0) (allocations s)) (waits_from now s)
    ∷ queued true s.local (delete_text s)
    ∷ []
    ) s

abbrev pub delete_step : ℕ → State → Result Unit DeleteError × State
delete_step now s = if is_allocated s.phase then (Ok tt, deleted now s) else (Err Delete.NoAllocation, s)

-- Families are still requested, and the client has not ended.
abbrev pub FailsFamilies : State → Type 0
FailsFamilies s = (is_closed s.phase ≡ false) × (1 ≤ length s.families)

-- each address family that is still requested fails, and the client ends
abbrev pub protocol_error_step : State → State
protocol_error_step s = if is_closed s.phase then s else closed (fail_all s)

-- ---- data for a peer (RFC 8656, sections 11.1 and 12.5; RFC 6062, section 4.3)

-- the connection is bound to the peer
abbrev pub bound_to : SocketAddr → DataConnection → Bool
bound_to peer c = is_none c.deadline && same_address c.peer peer

abbrev pub on_connection : Option DataConnection → List ℕ → State → Result (Transmit (List ℕ)) SendError × State
on_connection (Some c) bytes s = (Ok (record { payload = bytes; transport = Tcp; from = c.local; to = s.remote }), s)
on_connection None bytes s = (Err Send.NoTcpSocket, s)

-- the first active channel to the peer: its number and its expiry
abbrev pub active_channel : SocketAddr → Grant → Option (ℕ × ℕ)
active_channel peer (Channel number other (Active lease)) = if same_address other peer then Some (number, lease.expiry) else None
active_channel peer _ = None

abbrev pub as_indication : SocketAddr → List ℕ → State → Result (Transmit (List ℕ)) SendError × State
as_indication peer bytes s = (Ok (to_server s s.local (send_indication peer bytes (fresh_id s))), id_used s)

-- a channel carries the data until its expiry, and else an indication does
abbrev pub on_channel : List (ℕ × ℕ) → SocketAddr → List ℕ → ℕ → State → Result (Transmit (List ℕ)) SendError × State
on_channel [] peer bytes now s = as_indication peer bytes s
on_channel ((number, expiry) ∷ others) peer bytes now s =
    if nat_le now expiry then (Ok (to_server s s.local (channel_frame number bytes)), s) else as_indication peer bytes s

abbrev pub send_over : TransportType → SocketAddr → List ℕ → ℕ → State → Result (Transmit (List ℕ)) SendError × State
send_over Tcp peer bytes now s = on_connection (find (bound_to peer) (filter_map as_connection s.grants)) bytes s
send_over Udp peer bytes now s = on_channel (filter_map (active_channel peer) s.grants) peer bytes now s

abbrev pub send_to_step : TransportType → SocketAddr → List ℕ → ℕ → State → Result (Transmit (List ℕ)) SendError × State
send_to_step transport peer bytes now s =
    if can_send_to transport (socket_ip peer) s then send_over transport peer bytes now s else (Err Send.NoPermission, s)

-- a packet can carry this data to a peer if the server relays over UDP
abbrev pub FitsDatagram : TransportType → List ℕ → Type 0
FitsDatagram transport bytes = transport ≡ Udp → length bytes ≤ 65504
