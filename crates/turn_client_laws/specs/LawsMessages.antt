-- Worked messages of the server, so that the check computes their effect on the machine.
use Rattle.std.specs.Prelude.{◌≡◌, ℕ, ◌*◌, false, List, [], ◌∷◌, ◌++◌, length, map, Some, None, true}
use Rattle.std.specs.declared.net.socket_addr.SocketAddr.{SocketAddr}
use Rattle.turn_types.specs.declared.family.AddressFamily.TheVariants.{IPV4, IPV6}
use Rattle.turn_auth.specs.LongTerm.{Challenge}
use Rattle.turn_auth.specs.Validation.{validation_of}
use Rattle.turn_auth.specs.declared.integrity.IntegrityAlgorithm.TheVariants.{Sha1}
use Rattle.turn_auth.specs.declared.validation.Validation.TheVariants.{Validated, Refused}
use Rattle.turn_client_api.specs.Config.{default_max_stale_nonces}
use Rattle.turn_client_api.specs.State.{State, auth_of}
use Rattle.turn_client_api.specs.declared.state.Phase.TheVariants.{Authenticating}
use Rattle.turn_client_api.specs.declared.grant.Grant.{Grant}
use Rattle.turn_client_api.specs.declared.grant.Grant.TheVariants.{Allocation, Permission, Channel, Connect, Offer}
use Rattle.turn_client_api.specs.declared.grant.Origin.{Origin}
use Rattle.turn_client_api.specs.declared.grant.Progress.TheVariants.{Pending}
use Rattle.turn_client_api.specs.State.{seconds}
use Rattle.turn_client_api.specs.declared.grant.Purpose.{Purpose}
use Rattle.turn_client_api.specs.declared.grant.Purpose.TheVariants.{ForAllocation, ForRefresh, ForPermission, ForChannel, ForConnect}
use Rattle.turn_client_api.specs.Effect.{new_allocation, granted_until}
use Rattle.turn_client_api.specs.Payloads.{Outcome, Ignored, message_step}
use Rattle.turn_client_laws.specs.LawsRows.{awaiting, granted_at, peer, ip_of_peer, relayed_v4, relayed_v6, requesting}

-- ---- messages

-- a time in milliseconds
abbrev pub ms : ℕ → ℕ
ms n = n * 1_000_000

-- a message with these two bytes of type, ID 7 and these attributes
abbrev pub message_with : ℕ → ℕ → List ℕ → List ℕ
message_with high low attributes =
    (high ∷ low ∷ 0x00 ∷ length attributes ∷ 0x21 ∷ 0x12 ∷ 0xa4 ∷ 0x42 ∷ 0 ∷ 0 ∷ 0 ∷ 0 ∷ 0 ∷ 0 ∷ 0 ∷ 0 ∷ 0 ∷ 0 ∷ 0 ∷ 7 ∷ [])
    ++ attributes

abbrev pub with_lifetime : ℕ → ℕ → List ℕ
with_lifetime high low = 0x00 ∷ 0x0d ∷ 0x00 ∷ 0x04 ∷ 0x00 ∷ 0x00 ∷ high ∷ low ∷ []

-- the relayed addresses 10.0.0.1:5000 and 2001:db8::1, with the same port
abbrev pub with_relayed_v4 : List ℕ
with_relayed_v4 = 0x00 ∷ 0x16 ∷ 0x00 ∷ 0x08 ∷ 0x00 ∷ 0x01 ∷ 0x32 ∷ 0x9a ∷ 0x2b ∷ 0x12 ∷ 0xa4 ∷ 0x43 ∷ []

abbrev pub with_relayed_v6 : List ℕ
with_relayed_v6 =
    (0x00 ∷ 0x16 ∷ 0x00 ∷ 0x14 ∷ 0x00 ∷ 0x02 ∷ 0x32 ∷ 0x9a ∷ 0x01 ∷ 0x13 ∷ 0xa9 ∷ 0xfa ∷ [])
    ++ (0 ∷ 0 ∷ 0 ∷ 0 ∷ 0 ∷ 0 ∷ 0 ∷ 0 ∷ 0 ∷ 0 ∷ 0 ∷ 6 ∷ [])

-- MESSAGE-INTEGRITY with these twenty bytes
abbrev pub integrity_of_bytes : (ℕ → ℕ) → List ℕ
integrity_of_bytes byte =
    (0x00 ∷ 0x08 ∷ 0x00 ∷ 0x14 ∷ [])
    ++ map byte (0 ∷ 1 ∷ 2 ∷ 3 ∷ 4 ∷ 5 ∷ 6 ∷ 7 ∷ 8 ∷ 9 ∷ 10 ∷ 11 ∷ 12 ∷ 13 ∷ 14 ∷ 15 ∷ 16 ∷ 17 ∷ 18 ∷ 19 ∷ [])

-- 400 and so many more
abbrev pub with_error : ℕ → List ℕ
with_error number = 0x00 ∷ 0x09 ∷ 0x00 ∷ 0x04 ∷ 0x00 ∷ 0x00 ∷ 0x04 ∷ number ∷ []

abbrev pub with_connection_id : List ℕ
with_connection_id = 0x00 ∷ 0x2a ∷ 0x00 ∷ 0x04 ∷ 0x00 ∷ 0x00 ∷ 0x00 ∷ 0x09 ∷ []

abbrev pub with_peer : List ℕ
with_peer = 0x00 ∷ 0x12 ∷ 0x00 ∷ 0x08 ∷ 0x00 ∷ 0x01 ∷ 0x02 ∷ 0x3a ∷ 0x2b ∷ 0x12 ∷ 0xa4 ∷ 0x41 ∷ []

-- the realm "realm" and the nonce "nonce"
abbrev pub realm : List ℕ
realm = 0x72 ∷ 0x65 ∷ 0x61 ∷ 0x6c ∷ 0x6d ∷ []

abbrev pub nonce : List ℕ
nonce = 0x6e ∷ 0x6f ∷ 0x6e ∷ 0x63 ∷ 0x65 ∷ []

abbrev pub with_realm_and_nonce : List ℕ
with_realm_and_nonce =
    (0x00 ∷ 0x14 ∷ 0x00 ∷ 0x05 ∷ []) ++ realm ++ (0 ∷ 0 ∷ 0 ∷ []) ++ (0x00 ∷ 0x15 ∷ 0x00 ∷ 0x05 ∷ []) ++ nonce ++ (0 ∷ 0 ∷ 0 ∷ [])

-- a challenge to ALLOCATE, with code 401, and to CREATE_PERMISSION, with code 438; and that the request was bad
abbrev pub unauthorized : List ℕ
unauthorized = message_with 0x01 0x13 (with_error 1 ++ with_realm_and_nonce)

abbrev pub stale : List ℕ
stale = message_with 0x01 0x18 (with_error 38 ++ with_realm_and_nonce)

abbrev pub bad_request_reply : List ℕ
bad_request_reply = message_with 0x01 0x13 (with_error 0)

-- Replies, each with this signature or with none. ALLOCATE: 1000 s for both families; for IPv4, with more
-- after the signature; nothing but the address before it; and no address of one family
abbrev pub both_allocated : List ℕ → List ℕ
both_allocated signature = message_with 0x01 0x03 (with_lifetime 0x03 0xe8 ++ with_relayed_v6 ++ with_relayed_v4 ++ signature)

abbrev pub one_allocated : List ℕ → List ℕ
one_allocated signature = message_with 0x01 0x03 (with_lifetime 0x03 0xe8 ++ with_relayed_v4 ++ signature ++ with_relayed_v6)

abbrev pub lifetime_behind : List ℕ → List ℕ
lifetime_behind signature = message_with 0x01 0x03 (with_relayed_v4 ++ signature ++ with_lifetime 0x03 0xe8)

abbrev pub one_family_alone : List ℕ → List ℕ
one_family_alone signature = message_with 0x01 0x13 (with_error 40 ++ signature)

-- REFRESH: a lifetime, and that there is no such allocation
abbrev pub refreshed_for : ℕ → ℕ → List ℕ → List ℕ
refreshed_for high low signature = message_with 0x01 0x04 (with_lifetime high low ++ signature)

abbrev pub mismatched : List ℕ → List ℕ
mismatched signature = message_with 0x01 0x14 (with_error 37 ++ signature)

-- CREATE_PERMISSION and CHANNEL_BIND
abbrev pub permitted : List ℕ → List ℕ
permitted signature = message_with 0x01 0x08 signature

abbrev pub channel_bound : List ℕ → List ℕ
channel_bound signature = message_with 0x01 0x09 signature

abbrev pub channel_not_bound : List ℕ → List ℕ
channel_not_bound signature = message_with 0x01 0x19 (with_error 3 ++ signature)

-- CONNECT: the server's connection ID 9, also in an error, where it is ignored
abbrev pub connected : List ℕ → List ℕ
connected signature = message_with 0x01 0x0a (with_connection_id ++ signature)

abbrev pub not_connected : List ℕ → List ℕ
not_connected signature = message_with 0x01 0x1a (with_error 47 ++ with_connection_id ++ signature)

-- ---- their effects

-- the message is signed under what the client holds
abbrev pub IsOfHeldKey : List ℕ → State → Type 0
IsOfHeldKey message s = validation_of (auth_of s) message ≡ Validated Sha1

-- its effect on the client at 100 ms
abbrev pub after_message : List ℕ → State → Outcome × State
after_message message s = message_step message (ms 100) s

-- with a signature, whatever its bytes, that is valid, this holds of the effect of the reply
abbrev pub IfSigned : (List ℕ → List ℕ) → State → (Outcome × State → Type 0) → Type 0
IfSigned reply s Is =
    (byte : ℕ → ℕ) → IsOfHeldKey (reply (integrity_of_bytes byte)) s → Is (after_message (reply (integrity_of_bytes byte)) s)

-- this holds for each client of a kind
abbrev pub WhenSigned : (List ℕ → List ℕ) → (SocketAddr → List ℕ → State → State) → (Outcome × State → Type 0) → Type 0
WhenSigned reply client Is = (to : SocketAddr) (text : List ℕ) (s : State) → IfSigned reply (client to text s) Is

-- the message has no effect
abbrev pub Ignores : List ℕ → State → Type 0
Ignores message s = after_message message s ≡ (Ignored, s)

-- without a signature, which the client notices, the reply has no effect
abbrev pub IgnoresUnsigned : (List ℕ → List ℕ) → (SocketAddr → List ℕ → State → State) → Type 0
IgnoresUnsigned reply client =
    (to : SocketAddr) (text : List ℕ) (s : State) → validation_of (auth_of (client to text s)) (reply []) ≡ Refused false
    → Ignores (reply []) (client to text s)

-- nor does a second copy of a signed one
abbrev pub IgnoresCopy : (List ℕ → List ℕ) → (SocketAddr → List ℕ → State → State) → Type 0
IgnoresCopy reply client =
    (byte : ℕ → ℕ) (to : SocketAddr) (text : List ℕ) (s : State) → IsOfHeldKey (reply (integrity_of_bytes byte)) (client to text s)
    → Ignores (reply (integrity_of_bytes byte)) (after_message (reply (integrity_of_bytes byte)) (client to text s)).1

-- ---- clients that await the response to request 7

-- it requested addresses of both families
abbrev pub allocating : SocketAddr → List ℕ → State → State
allocating to text s = record (awaiting (ForAllocation ∷ []) to text (granted_at 0 [] s)) {
  phase = Authenticating;
  families = IPV4 ∷ IPV6 ∷ [];
}

-- an IPv4 allocation of 1000 s, that was granted at 50 ms
abbrev pub allocation_of_v4 : Grant
allocation_of_v4 = new_allocation 1000 (ms 50) relayed_v4

-- a REFRESH that was answered at 100 ms extends it to 600 s from then on
abbrev pub lasting_600_s : Grant
lasting_600_s = Allocation (record { relayed = relayed_v4; first_lifetime = seconds 1000; expiry = ms 600_100; is_expired = false })

-- what is granted at 100 ms
abbrev pub granted_v4 : Grant
granted_v4 = new_allocation 1000 (ms 100) relayed_v4

abbrev pub granted_v6 : Grant
granted_v6 = new_allocation 1000 (ms 100) relayed_v6

abbrev pub granted_permission : Grant
granted_permission = Permission ip_of_peer (granted_until (ms 300_100) true)

abbrev pub granted_channel : Grant
granted_channel = Channel 0x4000 peer (granted_until (ms 600_100) true)

-- it was made for these, and there are these grants beside the allocation
abbrev pub asking : List Purpose → List Grant → SocketAddr → List ℕ → State → State
asking purposes grants to text s = awaiting purposes to text (granted_at 0 (allocation_of_v4 ∷ grants) s)

abbrev pub asking_permission : SocketAddr → List ℕ → State → State
asking_permission to text s = asking (ForPermission ip_of_peer ∷ []) (Permission ip_of_peer (Pending true) ∷ []) to text s

abbrev pub asking_channel : SocketAddr → List ℕ → State → State
asking_channel to text s =
    asking (ForChannel 0x4000 peer ∷ ForPermission ip_of_peer ∷ []) (Channel 0x4000 peer (Pending true) ∷ Permission ip_of_peer (Pending true) ∷ []) to text s

-- a permission that is active
abbrev pub permission_for_300_s : Grant
permission_for_300_s = Permission ip_of_peer (granted_until (seconds 300) true)

abbrev pub asking_connection : SocketAddr → List ℕ → State → State
asking_connection to text s = asking (ForConnect peer ∷ []) (permission_for_300_s ∷ Connect peer ∷ []) to text s

abbrev pub refreshing : ℕ → SocketAddr → List ℕ → State → State
refreshing lifetime to text s = asking (ForRefresh IPV4 lifetime ∷ []) [] to text s

-- an offer of the server's connection ID 9 to the peer
abbrev pub offer_of : Origin → Grant
offer_of origin = Offer (record { connection_id = 9; peer = peer; is_reported = false; origin = origin })

-- ---- clients that are challenged

-- it requested an IPv4 address by its first ALLOCATE
abbrev pub asking_first : List ℕ → State → State
asking_first text s = record (requesting text s) {
  config = record s.config { supported_integrity = Sha1 ∷ []; max_stale_nonces = default_max_stale_nonces };
  families = IPV4 ∷ [];
  held = None;
  challenges = 0;
}

-- what it holds then
abbrev pub held_by_it : Challenge
held_by_it = record { realm = realm; nonce = nonce; algorithm = Sha1; password_algorithms = [] }

-- it holds that, requested a permission, and answered so many challenges since the server last accepted a
-- request
abbrev pub challenged : ℕ → SocketAddr → List ℕ → State → State
challenged count to text s = record (asking_permission to text s) { held = Some held_by_it; challenges = count; families = [] }

-- so many challenges are answered in sequence
abbrev pub allowing : ℕ → State → State
allowing limit s = record s { config = record s.config { max_stale_nonces = limit } }
