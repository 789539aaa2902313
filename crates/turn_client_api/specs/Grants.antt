-- What a client reads from its grants, and how they change.
use Rattle.std.specs.Prelude.{ℕ, ◌==◌, nat_le, Bool, true, false, not, ◌&&◌, ◌||◌, if◌then◌else◌, List, [], ◌∷◌, ◌++◌, map, filter, find, filter_map, fold}
use Rattle.std.specs.Prelude.{slice_get, reverse, Option, Some, None}
use Rattle.std.specs.Option.{option_map_or}
use Rattle.std.specs.List.{list_any}
use Rattle.std.specs.Cmp.Lexicographic.{pointwise}
use Rattle.std.specs.Net.Addr.{ipv4_octets, ipv6_segments}
use Rattle.std.specs.Net.Socket.{socket_ip}
use Rattle.std.specs.declared.net.ip_addr.IpAddr.{IpAddr}
use Rattle.std.specs.declared.net.ip_addr.IpAddr.TheVariants.{V4, V6}
use Rattle.std.specs.declared.net.socket_addr.SocketAddr.{SocketAddr}
use Rattle.turn_stun.specs.declared.transport.TransportType.{TransportType}
use Rattle.turn_stun.specs.declared.transport.TransportType.TheVariants.{Udp, Tcp}
use Rattle.turn_types.specs.declared.family.AddressFamily.{AddressFamily}
use Rattle.turn_types.specs.declared.family.AddressFamily.TheVariants.{IPV4, IPV6}
use Rattle.turn_agent.specs.Agent.{same_address}
use Rattle.turn_client_api.specs.Config.{same_family}
use Rattle.turn_client_api.specs.State.{State, Grant, Allocation, Permission, Channel, Connect, Offer, Connection, Relay, DataOffer, DataConnection, Progress}
use Rattle.turn_client_api.specs.State.{Pending, Active, Origin, ServerRequest, Purpose, ForAllocation, ForRefresh, ForPermission, ForChannel, ForConnect}
use Rattle.turn_client_api.specs.State.{ForBind}
use Rattle.turn_client_api.specs.declared.event.TurnEvent.{TurnEvent}
use Rattle.turn_client_api.specs.declared.event.TurnEvent.TheVariants.{PermissionCreateFailed, ChannelCreateFailed, TcpConnectFailed}

-- ---- addresses

abbrev pub same_transport : TransportType → TransportType → Bool
same_transport Udp Udp = true
same_transport Tcp Tcp = true
same_transport _ _ = false

abbrev pub same_ip : IpAddr → IpAddr → Bool
same_ip (V4 a) (V4 b) = pointwise ◌==◌ (ipv4_octets a) (ipv4_octets b)
same_ip (V6 a) (V6 b) = pointwise ◌==◌ (ipv6_segments a) (ipv6_segments b)
same_ip _ _ = false

abbrev pub family_of_ip : IpAddr → AddressFamily
family_of_ip (V4 a) = IPV4
family_of_ip (V6 a) = IPV6

abbrev pub family_of : SocketAddr → AddressFamily
family_of address = family_of_ip (socket_ip address)

-- ---- allocations

abbrev pub as_allocation : Grant → Option Relay
as_allocation (Allocation a) = Some a
as_allocation _ = None

-- in the order in which the server granted them
abbrev pub allocations : State → List Relay
allocations s = filter_map as_allocation s.grants

abbrev pub find_allocation : AddressFamily → State → Option Relay
find_allocation family s = find (λ a. same_family (family_of a.relayed) family) (allocations s)

-- the allocation that relays over this transport to this IP address, expired or not
abbrev pub find_allocation_to : TransportType → IpAddr → State → Option Relay
find_allocation_to transport ip s =
    if same_transport transport s.config.allocation_transport then find_allocation (family_of_ip ip) s else None

-- the expiry of an allocation is now or has passed
abbrev pub is_past : ℕ → Relay → Bool
is_past now a = nat_le a.expiry now

-- an allocation of this kind is changed
abbrev pub changed_allocation : (Relay → Bool) → (Relay → Relay) → Grant → Grant
changed_allocation which change (Allocation a) = if which a then Allocation (change a) else Allocation a
changed_allocation which change grant = grant

abbrev pub with_allocations : (Relay → Bool) → (Relay → Relay) → State → State
with_allocations which change s = record s { grants = map (changed_allocation which change) s.grants }

abbrev pub is_of_family : AddressFamily → SocketAddr → Bool
is_of_family family address = same_family (family_of address) family

-- the allocation of this family is used no more for sending
abbrev pub with_expired : AddressFamily → State → State
with_expired family s = with_allocations (λ a. is_of_family family a.relayed) (λ a. record a { is_expired = true }) s

-- ---- permissions and channels

-- the result for the first grant of a kind
abbrev pub first_in : {X : Type 0} → (Grant → Option X) → State → Option X
first_in reader s = slice_get (filter_map reader s.grants) 0

abbrev pub permission_progress : IpAddr → Grant → Option Progress
permission_progress ip (Permission other progress) = if same_ip other ip then Some progress else None
permission_progress ip _ = None

-- the progress of the permission for this IP address
abbrev pub permission_state : IpAddr → State → Option Progress
permission_state ip s = first_in (permission_progress ip) s

abbrev pub is_active : Option Progress → Bool
is_active (Some (Active lease)) = true
is_active _ = false

-- this IP address is permitted
abbrev pub has_active_permission : IpAddr → State → Bool
has_active_permission ip s = is_active (permission_state ip s)

-- the peer of the channel of this number, and its progress
abbrev pub channel_at : ℕ → Grant → Option (SocketAddr × Progress)
channel_at number (Channel other peer progress) = if other == number then Some (peer, progress) else None
channel_at number _ = None

-- the peer of the active channel of this number
abbrev pub channel_peer : ℕ → Grant → Option SocketAddr
channel_peer number (Channel other peer (Active lease)) = if other == number then Some peer else None
channel_peer number _ = None

-- ---- kinds of grants

abbrev pub is_permission_of : IpAddr → Grant → Bool
is_permission_of ip (Permission other progress) = same_ip other ip
is_permission_of ip _ = false

abbrev pub is_channel_of : ℕ → Grant → Bool
is_channel_of number (Channel other peer progress) = other == number
is_channel_of number _ = false

abbrev pub is_connect : Grant → Bool
is_connect (Connect peer) = true
is_connect _ = false

abbrev pub is_connect_to : SocketAddr → Grant → Bool
is_connect_to peer (Connect other) = same_address other peer
is_connect_to peer _ = false

abbrev pub is_connection_from : SocketAddr → Grant → Bool
is_connection_from local (Connection c) = same_address c.local local
is_connection_from local _ = false

abbrev pub as_connection : Grant → Option DataConnection
as_connection (Connection c) = Some c
as_connection _ = None

abbrev pub as_offer : Grant → Option DataOffer
as_offer (Offer offer) = Some offer
as_offer _ = None

abbrev pub is_pending_permission : Grant → Bool
is_pending_permission (Permission ip (Pending is_kept)) = true
is_pending_permission _ = false

abbrev pub is_pending_channel : Grant → Bool
is_pending_channel (Channel number peer (Pending is_kept)) = true
is_pending_channel _ = false

-- ---- which grant a request is for

abbrev pub is_for : Purpose → Grant → Bool
is_for (ForRefresh family lifetime) (Allocation a) = is_of_family family a.relayed
is_for (ForPermission ip) grant = is_permission_of ip grant
is_for (ForChannel number peer) grant = is_channel_of number grant
is_for (ForConnect peer) grant = is_connect_to peer grant
is_for (ForBind local peer id) grant = is_connection_from local grant
is_for _ _ = false

-- one of these is for the grant
abbrev pub is_for_any : List Purpose → Grant → Bool
is_for_any purposes grant = list_any (λ p. is_for p grant) purposes

-- some request was made for it
abbrev pub has_request : Grant → State → Bool
has_request grant s = list_any (λ l. is_for l.purpose grant) s.listed

-- what the request of this ID was made for
abbrev pub purposes_of : ℕ → State → List Purpose
purposes_of id s = map (λ l. l.purpose) (filter (λ l. l.id == id) s.listed)

abbrev pub is_for_allocation : Purpose → Bool
is_for_allocation ForAllocation = true
is_for_allocation _ = false

-- the server requested the data connection with this ID
abbrev pub is_request : ℕ → Origin → Bool
is_request id (ServerRequest request) = request == id
is_request id _ = false

abbrev pub is_of_request : ℕ → Grant → Bool
is_of_request id grant = option_map_or (λ offer. is_request id offer.origin) (as_offer grant) false

-- a request of the client, or one of the server that is to be answered, has this ID
abbrev pub is_listed : ℕ → State → Bool
is_listed id s = list_any (λ l. l.id == id) s.listed || list_any (is_of_request id) s.grants

-- ---- grants are added and removed

-- the changes in sequence, the first one first
abbrev pub in_sequence : List (State → State) → State → State
in_sequence steps s = fold (λ t step. step t) s steps

-- requests are no longer listed for grants of this kind
abbrev pub unlisted : (Grant → Bool) → State → State
unlisted which s = record s {
  listed = filter (λ l. not (list_any (λ g. which g && is_for l.purpose g) s.grants)) s.listed;
}

-- these grants are removed, and no request is listed for them
abbrev pub without_grants : (Grant → Bool) → State → State
without_grants which s = record (unlisted which s) { grants = filter (λ g. not (which g)) s.grants }

-- these grants come after all others
abbrev pub with_more_grants : List Grant → State → State
with_more_grants grants s = record s { grants = s.grants ++ grants }

-- one grant more, after all others
abbrev pub with_grant : Grant → State → State
with_grant grant s = with_more_grants (grant ∷ []) s

abbrev pub family_of_grant : Grant → AddressFamily
family_of_grant (Allocation a) = family_of a.relayed
family_of_grant (Permission ip progress) = family_of_ip ip
family_of_grant (Channel number peer progress) = family_of peer
family_of_grant (Connect peer) = family_of peer
family_of_grant (Offer offer) = family_of offer.peer
family_of_grant (Connection c) = family_of c.peer

abbrev pub is_of : AddressFamily → Grant → Bool
is_of family grant = same_family (family_of_grant grant) family

-- ---- the event of a grant that is removed, or was refused

abbrev pub failure_of : TransportType → Grant → Option TurnEvent
failure_of transport (Allocation a) = None
failure_of transport (Permission ip progress) = Some (PermissionCreateFailed transport ip)
failure_of transport (Channel number peer progress) = Some (ChannelCreateFailed transport peer)
failure_of transport (Connect peer) = Some (TcpConnectFailed peer)
failure_of transport (Offer offer) = Some (TcpConnectFailed offer.peer)
failure_of transport (Connection c) = Some (TcpConnectFailed c.peer)

-- the events go to the front: one after the other comes before all that are queued
abbrev pub jump : List TurnEvent → State → State
jump events s = record s { events = reverse events ++ s.events }

-- the events are queued after all others
abbrev pub wait : List TurnEvent → State → State
wait events s = record s { events = s.events ++ events }

abbrev pub failures_among : (Grant → Bool) → State → List TurnEvent
failures_among which s = filter_map (failure_of s.config.allocation_transport) (filter which s.grants)
