-- What a client writes to its server, by its bytes (RFC 8656, sections 7 to 12; RFC 6062, section 4; RFC 8489, section 9.2).
use Rattle.std.specs.Prelude.{◌≡◌, ◌⊎◌, ℕ, ◌+◌, ◌-◌, List, [], ◌∷◌, ◌++◌, length, codes, Some, ⊤}
use Rattle.std.specs.List.{Contains}
use Rattle.std.specs.Net.Addr.{ipv4_octets, ipv6_segments}
use Rattle.std.specs.Net.Socket.{socket_ip}
use Rattle.std.specs.declared.net.ip_addr.IpAddr.{IpAddr}
use Rattle.std.specs.declared.net.ip_addr.IpAddr.TheVariants as Ip
use Rattle.std.specs.declared.net.socket_addr.SocketAddr.{SocketAddr}
use Rattle.std.specs.declared.net.socket_addr.SocketAddr.TheVariants.{V4, V6}
use Rattle.md5.specs.Md5.{md5}
use Rattle.sha1.specs.Sha1.{sha1}
use Rattle.sha2.specs.Sha256.{sha256}
use Rattle.turn_stun.specs.MessageType.{type_number}
use Rattle.turn_stun.specs.Refusal.{Refusal}
use Rattle.turn_stun.specs.Values.{error_code_value}
use Rattle.turn_stun.specs.Writer.{header_of, with_attribute, with_length}
use Rattle.turn_stun.specs.XorAddress.{xor_value, xor_v4, xor_v6}
use Rattle.turn_stun.specs.declared.message.header.MessageClass.{MessageClass}
use Rattle.turn_stun.specs.declared.message.header.MessageClass.TheVariants.{Error, Indication, Request, Success}
use Rattle.turn_stun.specs.declared.transport.TransportType.{TransportType}
use Rattle.turn_stun.specs.declared.transport.Transmit.{Transmit}
use Rattle.turn_types.specs.Values.{channel_number_value, family_value, number_value, transport_value}
use Rattle.turn_types.specs.declared.family.AddressFamily.{AddressFamily}
use Rattle.turn_types.specs.declared.family.AddressFamily.TheVariants.{IPV6}
use Rattle.turn_auth.specs.Challenge.{IsChallenge}
use Rattle.turn_auth.specs.Credentials.{Credentials}
use Rattle.turn_auth.specs.Hmac.{hmac}
use Rattle.turn_auth.specs.LongTerm.{Challenge}
use Rattle.turn_auth.specs.Signature.{Addition, with_additions}
use Rattle.turn_auth.specs.declared.feature.Feature.{Feature}
use Rattle.turn_auth.specs.declared.feature.Feature.TheVariants.{Auto, Disabled, Required}
use Rattle.turn_auth.specs.declared.integrity.IntegrityAlgorithm.{IntegrityAlgorithm}
use Rattle.turn_auth.specs.declared.integrity.IntegrityAlgorithm.TheVariants.{Sha1, Sha256}
use Rattle.turn_client_api.specs.Config.{Config}
use Rattle.turn_client_api.specs.State.{State, auth_of}
use Rattle.turn_client_api.specs.Steps.{state_after_all}
use Rattle.turn_client_api.specs.Transmit.{next_transmit}
use Rattle.turn_client_api.specs.declared.call.Call.{Call}
use Rattle.turn_client_api.specs.declared.call.Call.TheVariants.{AllocatedTcpSocket, BindChannel, CreatePermission, Delete, PollTransmit, TcpConnect}
use Rattle.turn_client_api.specs.declared.grant.Purpose.{Purpose}
use Rattle.turn_client_api.specs.declared.grant.Purpose.TheVariants.{ForAllocation, ForBind, ForChannel, ForConnect, ForPermission, ForRefresh}
use Rattle.turn_client_runs.specs.Inputs.{IsAmong, handled_in}

-- ---- before they are signed

abbrev pub attribute : ℕ → List ℕ → Addition
attribute kind value = record { kind = kind; value = value }

-- the message of this method and class, with these attributes
abbrev pub message_with : ℕ → MessageClass → List Addition → ℕ → List ℕ
message_with method class attributes id = with_additions attributes (header_of (type_number method class) id)

-- LIFETIME, in seconds
abbrev pub lifetime : ℕ → Addition
lifetime seconds = attribute 0x000d (number_value seconds)

-- REQUESTED-TRANSPORT
abbrev pub requested_transport : TransportType → Addition
requested_transport transport = attribute 0x0019 (transport_value transport)

-- XOR-PEER-ADDRESS; the port is 0 where only the IP address counts
abbrev pub xor_peer : SocketAddr → ℕ → Addition
xor_peer peer id = attribute 0x0012 (xor_value peer id)

abbrev pub portless : IpAddr → SocketAddr
portless (Ip.V4 a) = V4 (xor_v4 (ipv4_octets a) 0)
portless (Ip.V6 a) = V6 (xor_v6 (ipv6_segments a) 0)

-- IPv6 alone by REQUESTED-ADDRESS-FAMILY, and both families by ADDITIONAL-ADDRESS-FAMILY
abbrev pub requested_families : List AddressFamily → List Addition
requested_families (IPV6 ∷ []) = attribute 0x0017 (family_value IPV6) ∷ []
requested_families (_ ∷ _ ∷ _) = attribute 0x8000 (family_value IPV6) ∷ []
requested_families _ = []

-- the first ALLOCATE, which is never signed
abbrev pub first_request : TransportType → List AddressFamily → ℕ → List ℕ
first_request transport families id =
    message_with 0x003 Request (lifetime 1800 ∷ requested_transport transport ∷ attribute 0x001a [] ∷ requested_families families) id

-- any other request, by what it is made for
abbrev pub request_of : TransportType → List AddressFamily → Purpose → ℕ → List ℕ
request_of transport families ForAllocation id =
    message_with 0x003 Request (requested_transport transport ∷ lifetime 1800 ∷ requested_families families) id
request_of transport families (ForRefresh family seconds) id = message_with 0x004 Request (lifetime seconds ∷ []) id
request_of transport families (ForPermission ip) id = message_with 0x008 Request (xor_peer (portless ip) id ∷ []) id
request_of transport families (ForChannel number peer) id =
    message_with 0x009 Request (attribute 0x000c (channel_number_value number) ∷ xor_peer peer id ∷ []) id
request_of transport families (ForConnect peer) id = message_with 0x00a Request (xor_peer peer id ∷ []) id
request_of transport families (ForBind local peer connection_id) id =
    message_with 0x00b Request (attribute 0x002a (number_value connection_id) ∷ []) id

-- why a data connection is refused that the server requests (RFC 6062, section 4.4)
abbrev pub refusals : List Refusal
refusals =
    record { code = 400; reason = codes "Bad Request" }
    ∷ record { code = 446; reason = codes "Connection Already Exists" }
    ∷ record { code = 447; reason = codes "Connection Timeout or Failure" }
    ∷ []

-- ---- what they are made of

-- the call names what is requested so
abbrev pub Names : Call → Purpose → Type 0
Names (Delete now) (ForRefresh family seconds) = seconds ≡ 0
Names (CreatePermission transport ip now) (ForPermission other) = other ≡ ip
Names (BindChannel transport peer now) (ForPermission other) = other ≡ socket_ip peer
Names (BindChannel transport peer now) (ForChannel number other) = other ≡ peer
Names (TcpConnect peer now) (ForConnect other) = other ≡ peer
Names (AllocatedTcpSocket id tuple peer (Some local) now) (ForBind from other number) = (from ≡ local) × (other ≡ peer) × (number ≡ id)
Names _ _ = ⊥

-- the client requests by itself that an allocation be made, and that it last for 1800 s
abbrev pub IsOwnRequest : Purpose → Type 0
IsOwnRequest ForAllocation = ⊤
IsOwnRequest (ForRefresh family seconds) = seconds ≡ 1800
IsOwnRequest _ = ⊥

-- all else one of these calls named
abbrev pub IsNamed : Purpose → List Call → Type 0
IsNamed purpose calls = IsOwnRequest purpose ⊎ ((call : Call) × Contains calls call × Names call purpose)

-- one of the inputs of these calls is this challenge
abbrev pub WasHeard : Challenge → List Call → State → Type 0
WasHeard challenge calls first = IsAmong (λ one. IsChallenge (auth_of one.before) one.bytes challenge) (handled_in first calls)

-- ---- how they are signed

-- the user: USERNAME, or if it is to be hidden USERHASH, SHA-256 of user ":" realm (RFC 8489, sections 14.3 and 14.4)
abbrev pub user_attribute : Feature → List ℕ → List ℕ → Addition
user_attribute Auto user realm = attribute 0x0006 user
user_attribute Disabled user realm = attribute 0x0006 user
user_attribute Required user realm = attribute 0x001e (sha256 (user ++ 0x3a ∷ realm))

-- for SHA-256 the PASSWORD-ALGORITHMS of the challenge, and PASSWORD-ALGORITHM, whose number it is (sections 14.11, 14.12, 18.5.1)
abbrev pub algorithm_attributes : IntegrityAlgorithm → List ℕ → List Addition
algorithm_attributes Sha1 offered = []
algorithm_attributes Sha256 offered = attribute 0x8002 offered ∷ attribute 0x001d (0 ∷ 2 ∷ 0 ∷ 0 ∷ []) ∷ []

-- what a request has before its integrity: the user, REALM and NONCE; a response has none of them (sections 9.2.3 and 9.2.4)
abbrev pub user_attributes : MessageClass → Feature → List ℕ → Challenge → List Addition
user_attributes Request anonymous user held =
    user_attribute anonymous user held.realm
    ∷ attribute 0x0014 held.realm
    ∷ attribute 0x0015 held.nonce
    ∷ algorithm_attributes held.algorithm held.password_algorithms
user_attributes Indication anonymous user held = []
user_attributes Success anonymous user held = []
user_attributes Error anonymous user held = []

-- user ":" realm ":" password, of whose digest the key is made (sections 9.2.2 and 18.5.1)
abbrev pub key_input : Credentials → List ℕ → List ℕ
key_input credentials realm = (credentials.user ++ 0x3a ∷ realm) ++ 0x3a ∷ credentials.password

-- MESSAGE-INTEGRITY or MESSAGE-INTEGRITY-SHA256: an HMAC of the message before it, whose length has to count its 24 or 36 bytes
-- already (sections 14.5 and 14.6)
abbrev pub with_mac : IntegrityAlgorithm → List ℕ → List ℕ → List ℕ
with_mac Sha1 input text = with_attribute 0x0008 (hmac sha1 (md5 input) (with_length (length text - 20 + 24) text)) text
with_mac Sha256 input text = with_attribute 0x001c (hmac sha256 (sha256 input) (with_length (length text - 20 + 36) text)) text

-- The text, signed as the challenge requires. The password is in the key of the integrity, and in nothing else.
abbrev pub signed_as : Config → Challenge → MessageClass → List ℕ → List ℕ
signed_as config held class text =
    with_mac held.algorithm (key_input config.credentials held.realm)
    (with_additions (user_attributes class config.anonymous_username config.credentials.user held) text)

-- the bytes are this text, signed under a challenge that was heard
abbrev pub IsSigned : MessageClass → List ℕ → List ℕ → List Call → State → Type 0
IsSigned class text bytes calls first =
    (held : Challenge) × WasHeard held calls first × (bytes ≡ signed_as first.config held class text)

-- ---- all of them

-- a request for what these calls named
abbrev pub IsSignedRequest : List ℕ → List Call → State → Type 0
IsSignedRequest bytes calls first =
    (purpose : Purpose) × (families : List AddressFamily) × (id : ℕ)
    × IsNamed purpose calls × IsSigned Request (request_of first.config.allocation_transport families purpose id) bytes calls first

-- a response to the server's request for a data connection
abbrev pub IsResponse : List ℕ → List Call → State → Type 0
IsResponse bytes calls first =
    (id : ℕ) × (IsSigned Success (message_with 0x00c Success [] id) bytes calls first
    ⊎ ((refusal : Refusal) × Contains refusals refusal
    × IsSigned Error (message_with 0x00c Error (attribute 0x0009 (error_code_value refusal) ∷ []) id) bytes calls first))

-- the first ALLOCATE, or what keeps the path to the server alive: a Binding indication without attributes
abbrev pub IsUnsigned : List ℕ → State → Type 0
IsUnsigned bytes first =
    (id : ℕ) × (((families : List AddressFamily) × (bytes ≡ first_request first.config.allocation_transport families id))
    ⊎ (bytes ≡ message_with 0x001 Indication [] id))

-- the message is one of these
abbrev pub IsOwn : List ℕ → List Call → State → Type 0
IsOwn bytes calls first = IsSignedRequest bytes calls first ⊎ (IsResponse bytes calls first ⊎ IsUnsigned bytes first)

-- so is each packet that `poll_transmit` gives in these calls
abbrev pub OnlyOwnLeave : State → List Call → Type 0
OnlyOwnLeave first calls =
    (earlier : List Call) (now : ℕ) (later : List Call) (packet : Transmit (List ℕ)) → calls ≡ earlier ++ PollTransmit now ∷ later
    → next_transmit now (state_after_all first earlier) ≡ Some packet → IsOwn packet.payload earlier first
