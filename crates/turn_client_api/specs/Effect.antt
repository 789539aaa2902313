-- What the server's reply to a request changes (RFC 8656, sections 7.3 to 12.3, and RFC 6062, section
-- 4.3).
use Rattle.std.specs.Prelude.{ℕ, ◌==◌, nat_le, Bool, true, false, not, ◌&&◌, ◌||◌, if◌then◌else◌, List, [], ◌∷◌, map, filter, fold, length, Option, Some, None}
use Rattle.std.specs.Prelude.{is_some}
use Rattle.std.specs.List.{list_any}
use Rattle.std.specs.Option.{option_map_or}
use Rattle.std.specs.declared.net.ip_addr.IpAddr.{IpAddr}
use Rattle.std.specs.declared.net.socket_addr.SocketAddr.{SocketAddr}
use Rattle.turn_stun.specs.Attributes.{seen_of}
use Rattle.turn_stun.specs.Message.{Attribute, id_of}
use Rattle.turn_stun.specs.XorAddress.{xor_addr}
use Rattle.turn_types.specs.declared.family.AddressFamily.{AddressFamily}
use Rattle.turn_types.specs.declared.family.AddressFamily.TheVariants.{IPV4, IPV6}
use Rattle.turn_agent.specs.Agent as A
use Rattle.turn_client_api.specs.State.{State, Phase, Allocated, Closed, Grant, Allocation, Permission, Channel, Offer, Origin, OwnConnect, Progress, Pending}
use Rattle.turn_client_api.specs.State.{Active, Reserved, Purpose, ForAllocation, ForRefresh, ForPermission, ForChannel, ForConnect, later_by, seconds}
use Rattle.turn_client_api.specs.Grants.{as_allocation, channel_at, first_in, in_sequence, is_channel_of, is_connect_to, is_for_any, is_of, is_of_family}
use Rattle.turn_client_api.specs.Grants.{is_pending_permission, is_permission_of, permission_state, purposes_of, is_for_allocation, unlisted, without_grants}
use Rattle.turn_client_api.specs.Grants.{with_allocations, with_grant, with_more_grants, jump, wait, failures_among}
use Rattle.turn_client_api.specs.Requests.{relayed_kind, requested}
use Rattle.turn_client_api.specs.Judgement.{lifetime_in, connection_id_in}
use Rattle.turn_client_api.specs.declared.event.TurnEvent.TheVariants.{AllocationCreated, AllocationCreateFailed, PermissionCreated, PermissionCreateFailed}
use Rattle.turn_client_api.specs.declared.event.TurnEvent.TheVariants.{ChannelCreated, ChannelCreateFailed, TcpConnectFailed}
use Rattle.turn_stun.specs.Read.{code_in}

-- ---- numbers of the standards

-- RFC 8656, section 9
abbrev pub permission_lifetime : ℕ
permission_lifetime = seconds 300

-- RFC 8656, section 12, and how long neither its number nor its peer is bound again after its expiry
abbrev pub channel_lifetime : ℕ
channel_lifetime = seconds 600

abbrev pub reserved_time : ℕ
reserved_time = seconds 300

-- a shorter lifetime in reply to a REFRESH is ignored, in seconds (RFC 8656, section 7.2: a server gives at
-- least the default of 600)
abbrev pub min_lifetime : ℕ
min_lifetime = 600

-- error codes (RFC 8656, section 19): Allocation Mismatch, and Address Family not Supported
abbrev pub allocation_mismatch : ℕ
allocation_mismatch = 437

abbrev pub family_not_supported : ℕ
family_not_supported = 440

abbrev pub has_code : ℕ → List ℕ → Bool
has_code code message = option_map_or (λ other. other == code) (code_in message) false

-- ---- the end of a client

-- no address is requested any more
abbrev pub without_families : State → State
without_families s = record s { families = [] }

-- each family that is still requested fails
abbrev pub fail_all : State → State
fail_all s = wait (map AllocationCreateFailed s.families) (without_families s)

-- no reply to an ALLOCATE is awaited any more
abbrev pub in_phase : Phase → State → State
in_phase phase s = record s { phase = phase; listed = filter (λ l. not (is_for_allocation l.purpose)) s.listed }

abbrev pub closed : State → State
closed s = in_phase Closed s

-- the request of this ID is no longer outstanding
abbrev pub transaction_ended : ℕ → State → State
transaction_ended id s = record s { transactions = A.without_transaction id s.transactions }

-- a signed reply with effect: challenges are counted anew
abbrev pub challenges_reset : State → State
challenges_reset s = record s { challenges = 0 }

-- ---- ALLOCATE

-- the address comes before the others, and none follows one that is malformed
abbrev pub before_malformed : Option SocketAddr → List SocketAddr → List SocketAddr
before_malformed (Some address) others = address ∷ others
before_malformed None others = []

abbrev pub relayed_among : ℕ → List Attribute → List SocketAddr
relayed_among id [] = []
relayed_among id (a ∷ later) =
    if a.kind == relayed_kind then before_malformed (xor_addr a.value id) (relayed_among id later)
    else relayed_among id later

-- the relayed addresses, up to the first that is malformed
abbrev pub relayed_in : List ℕ → List SocketAddr
relayed_in message = relayed_among (id_of message) (seen_of message)

-- the first address of each requested family
abbrev pub taken_addresses : List AddressFamily → List SocketAddr → List SocketAddr
taken_addresses families [] = []
taken_addresses families (a ∷ later) =
    if list_any (λ family. is_of_family family a) families
    then a ∷ taken_addresses (filter (λ family. not (is_of_family family a)) families) later
    else taken_addresses families later

abbrev pub new_allocation : ℕ → ℕ → SocketAddr → Grant
new_allocation lifetime now relayed =
    Allocation (record { relayed = relayed; first_lifetime = seconds lifetime; expiry = later_by (seconds lifetime) now; is_expired = false })

-- with no address the client ends
abbrev pub phase_with : List SocketAddr → Phase
phase_with [] = Closed
phase_with (a ∷ others) = Allocated

-- the requested families of which no address is among these
abbrev pub missing_families : List SocketAddr → State → List AddressFamily
missing_families addresses s = filter (λ family. not (list_any (is_of_family family) addresses)) s.families

-- the server allocated these addresses for so many seconds
abbrev pub allocated : ℕ → List SocketAddr → ℕ → State → State
allocated lifetime addresses now s = in_sequence (
    in_phase (phase_with addresses)
    ∷ without_families
    ∷ with_more_grants (map (new_allocation lifetime now) addresses)
    ∷ wait (map (AllocationCreated s.config.allocation_transport) addresses)
    ∷ wait (map AllocationCreateFailed (missing_families addresses s))
    ∷ []
    ) s

abbrev pub allocate_granted : List ℕ → ℕ → State → State
allocate_granted message now s =
    option_map_or (λ lifetime. allocated lifetime (taken_addresses s.families (relayed_in message)) now s)
    (lifetime_in message) (closed (fail_all s))

-- The server has no address of one of two families: the client stops requesting IPv4, and requests IPv6
-- alone (RFC 8656, section 7.4). The ID differs from all that were outstanding or listed before the reply.
abbrev pub allocate_denied : ℕ → List ℕ → ℕ → State → State
allocate_denied fresh message now s =
    if has_code family_not_supported message && nat_le 2 (length s.families)
    then requested fresh ForAllocation now (wait (AllocationCreateFailed IPV4 ∷ []) (record (in_phase s.phase s) { families = IPV6 ∷ [] }))
    else closed (fail_all s)

-- ---- REFRESH (RFC 8656, section 8.3)

-- all allocations are removed, with all grants in them
abbrev pub all_gone : State → State
all_gone s = closed (without_grants (λ g. true) s)

-- What was to be deleted is removed once the server says that it is deleted, or that it never existed.
abbrev pub delete_answered : Bool → List ℕ → State → State
delete_answered is_granted message s = if is_granted || has_code allocation_mismatch message then challenges_reset (all_gone s) else s

-- an allocation that was refreshed lasts as long as the server says
abbrev pub prolonged : AddressFamily → ℕ → ℕ → State → State
prolonged family lifetime now s =
    if nat_le min_lifetime lifetime
    then challenges_reset (with_allocations (λ a. is_of_family family a.relayed) (λ a. record a { expiry = later_by (seconds lifetime) now })
    (unlisted (λ g. is_some (as_allocation g) && is_of family g) s))
    else s

-- a lifetime of so many seconds was requested
abbrev pub refreshed : AddressFamily → ℕ → Bool → List ℕ → ℕ → State → State
refreshed family lifetime is_granted message now s =
    if lifetime == 0 then delete_answered is_granted message s
    else (if is_granted then option_map_or (λ granted. prolonged family granted now s) (lifetime_in message) s
    else s)

-- ---- permissions (RFC 8656, section 10.3)

-- what is active gets another expiry, and only that
abbrev pub lasting : ℕ → Grant → Grant
lasting expiry (Permission ip (Active was)) = Permission ip (Active (record was { expiry = expiry }))
lasting expiry (Channel number peer (Active was)) = Channel number peer (Active (record was { expiry = expiry }))
lasting expiry grant = grant

abbrev pub lasting_if : (Grant → Bool) → ℕ → Grant → Grant
lasting_if which expiry grant = if which grant then lasting expiry grant else grant

-- it keeps its place
abbrev pub renewed : (Grant → Bool) → ℕ → State → State
renewed which expiry s = record s { grants = map (lasting_if which expiry) s.grants }

-- it is granted until then, and kept as it was
abbrev pub granted_until : ℕ → Bool → Progress
granted_until expiry is_kept = Active (record { expiry = expiry; is_kept = is_kept })

-- one that was pending is active from now on, after all others, or is removed
abbrev pub pending_permission_answered : IpAddr → Bool → Bool → ℕ → State → State
pending_permission_answered ip is_kept true now s =
    wait (PermissionCreated s.config.allocation_transport ip ∷ [])
    (with_grant (Permission ip (granted_until (later_by permission_lifetime now) is_kept)) (without_grants (is_permission_of ip) s))
pending_permission_answered ip is_kept false now s =
    wait (PermissionCreateFailed s.config.allocation_transport ip ∷ []) (without_grants (is_permission_of ip) s)

-- one that was active and is refreshed
abbrev pub active_permission_answered : IpAddr → Bool → ℕ → State → State
active_permission_answered ip true now s =
    renewed (is_permission_of ip) (later_by permission_lifetime now) (unlisted (is_permission_of ip) s)
active_permission_answered ip false now s =
    jump (PermissionCreateFailed s.config.allocation_transport ip ∷ []) (without_grants (is_permission_of ip) s)

abbrev pub permission_answered : IpAddr → Bool → ℕ → State → State
permission_answered ip is_granted now s = by (permission_state ip s)
  where
    by : Option Progress → State
    by (Some (Pending is_kept)) = pending_permission_answered ip is_kept is_granted now s
    by (Some (Active lease)) = active_permission_answered ip is_granted now s
    by _ = s

-- the permission that a purpose names
abbrev pub permission_answered_for : Bool → ℕ → State → Purpose → State
permission_answered_for is_granted now s (ForPermission ip) = permission_answered ip is_granted now s
permission_answered_for is_granted now s _ = s

-- the permissions that the request of this ID was made for
abbrev pub listed_permissions_answered : ℕ → Bool → ℕ → State → State
listed_permissions_answered id is_granted now s = fold (permission_answered_for is_granted now) s (purposes_of id s)

-- ---- channels (RFC 8656, section 12.3)

-- Neither its number nor its peer is bound again for a while (RFC 8656, section 12). It is moved after all
-- others.
abbrev pub reserved : ℕ → SocketAddr → ℕ → State → State
reserved number peer expiry s =
    with_grant (Channel number peer (Reserved (later_by reserved_time expiry))) (without_grants (is_channel_of number) s)

-- the pending permission that a request with these purposes was made for
abbrev pub is_asked_permission : List Purpose → Grant → Bool
is_asked_permission purposes grant = is_pending_permission grant && is_for_any purposes grant

abbrev pub permission_refused_too : List Purpose → State → State
permission_refused_too purposes s =
    wait (failures_among (is_asked_permission purposes) s) (without_grants (is_asked_permission purposes) s)

-- One that was pending. The binding grants a permission too, if one was requested with it (RFC 8656,
-- section 12.2), and a refusal removes it too.
abbrev pub pending_channel_answered : ℕ → SocketAddr → Bool → ℕ → Bool → ℕ → State → State
pending_channel_answered number peer is_kept id true now s = in_sequence (
    listed_permissions_answered id true now
    ∷ without_grants (is_channel_of number)
    ∷ with_grant (Channel number peer (granted_until (later_by channel_lifetime now) is_kept))
    ∷ wait (ChannelCreated s.config.allocation_transport peer ∷ [])
    ∷ []
    ) s
pending_channel_answered number peer is_kept id false now s = in_sequence (
    without_grants (is_channel_of number)
    ∷ wait (ChannelCreateFailed s.config.allocation_transport peer ∷ [])
    ∷ permission_refused_too (purposes_of id s)
    ∷ []
    ) s

-- one that was active and is refreshed
abbrev pub active_channel_answered : ℕ → SocketAddr → ℕ → Bool → ℕ → State → State
active_channel_answered number peer expiry true now s =
    renewed (is_channel_of number) (later_by channel_lifetime now) (unlisted (is_channel_of number) s)
active_channel_answered number peer expiry false now s =
    wait (ChannelCreateFailed s.config.allocation_transport peer ∷ []) (reserved number peer expiry s)

abbrev pub channel_answered : ℕ → ℕ → Bool → ℕ → State → State
channel_answered number id is_granted now s = by (first_in (channel_at number) s)
  where
    by : Option (SocketAddr × Progress) → State
    by (Some (peer, Pending is_kept)) = pending_channel_answered number peer is_kept id is_granted now s
    by (Some (peer, Active lease)) = active_channel_answered number peer lease.expiry is_granted now s
    by _ = s

-- ---- CONNECT (RFC 6062, section 4.3)

-- the caller is to open a connection to the peer
abbrev pub with_offer : ℕ → SocketAddr → Origin → State → State
with_offer connection_id peer origin s =
    with_grant (Offer (record { connection_id = connection_id; peer = peer; is_reported = false; origin = origin })) s

abbrev pub connect_answered : SocketAddr → Option ℕ → State → State
connect_answered peer (Some connection_id) s = with_offer connection_id peer OwnConnect (without_grants (is_connect_to peer) s)
connect_answered peer None s = wait (TcpConnectFailed peer ∷ []) (without_grants (is_connect_to peer) s)

-- ---- a signed reply, whose request is no longer outstanding

-- what it changes for one purpose of its request
abbrev pub effect : ℕ → Bool → List ℕ → ℕ → State → Purpose → State
effect id is_granted message now s (ForRefresh family lifetime) = refreshed family lifetime is_granted message now s
effect id is_granted message now s (ForPermission ip) = challenges_reset (permission_answered ip is_granted now s)
effect id is_granted message now s (ForChannel number peer) = challenges_reset (channel_answered number id is_granted now s)
effect id is_granted message now s (ForConnect peer) =
    challenges_reset (connect_answered peer (if is_granted then connection_id_in message else None) s)
effect id is_granted message now s _ = s
