-- What a client sends (RFC 8656, sections 7 to 12, and RFC 6062, sections 4 and 5).
use Rattle.std.specs.Prelude.{ℕ, ◌+◌, ◌%◌, ◌^◌, nat_lt, if◌then◌else◌, not, ◌||◌, Bool, true, false, List, [], ◌∷◌, ◌++◌, map, find, length, unwrap_or}
use Rattle.std.specs.List.{range_with_len}
use Rattle.std.specs.declared.net.ip_addr.IpAddr.{IpAddr}
use Rattle.std.specs.declared.net.ip_addr.IpAddr.TheVariants as Ip
use Rattle.std.specs.declared.net.socket_addr.SocketAddr.{SocketAddr}
use Rattle.std.specs.declared.net.socket_addr.SocketAddr.TheVariants.{V4, V6}
use Rattle.std.specs.Net.Addr.{ipv4_octets, ipv6_segments}
use Rattle.turn_stun.specs.MessageType.{type_number}
use Rattle.turn_stun.specs.Values.{error_code_value}
use Rattle.turn_stun.specs.Writer.{header_of}
use Rattle.turn_stun.specs.XorAddress.{xor_value, xor_v4, xor_v6}
use Rattle.turn_stun.specs.declared.message.header.MessageClass.{MessageClass}
use Rattle.turn_stun.specs.declared.message.header.MessageClass.TheVariants.{Request, Indication, Success, Error}
use Rattle.turn_stun.specs.declared.transport.Transmit.{Transmit}
use Rattle.turn_types.specs.Send.{peer_kind}
use Rattle.turn_types.specs.Values.{number_value, channel_number_value, family_value, transport_value}
use Rattle.turn_types.specs.declared.family.AddressFamily.{AddressFamily}
use Rattle.turn_types.specs.declared.family.AddressFamily.TheVariants.{IPV6}
use Rattle.turn_auth.specs.Signature.{Addition, with_additions, signed_text}
use Rattle.turn_agent.specs.Agent.{first_sent, is_outstanding}
use Rattle.turn_agent.specs.TransactionIds.{next_id, behind_id}
use Rattle.turn_client_api.specs.State.{State, Purpose, ForAllocation, ForRefresh, ForPermission, ForChannel, ForConnect, ForBind, Listing, auth_of, max_time}
use Rattle.turn_client_api.specs.Grants.{is_listed}

-- ---- numbers of the standards

-- methods (RFC 8489, section 18.2, RFC 8656, section 17, and RFC 6062, section 6.1)
abbrev pub binding_method : ℕ
binding_method = 0x001

abbrev pub allocate_method : ℕ
allocate_method = 0x003

abbrev pub refresh_method : ℕ
refresh_method = 0x004

abbrev pub data_method : ℕ
data_method = 0x007

abbrev pub create_permission_method : ℕ
create_permission_method = 0x008

abbrev pub channel_bind_method : ℕ
channel_bind_method = 0x009

abbrev pub connect_method : ℕ
connect_method = 0x00a

abbrev pub connection_bind_method : ℕ
connection_bind_method = 0x00b

abbrev pub connection_attempt_method : ℕ
connection_attempt_method = 0x00c

-- attributes (RFC 8656, section 18, RFC 6062, section 6.2, and RFC 8489, section 14.8)
abbrev pub error_kind : ℕ
error_kind = 0x0009

abbrev pub channel_number_kind : ℕ
channel_number_kind = 0x000c

abbrev pub lifetime_kind : ℕ
lifetime_kind = 0x000d

abbrev pub relayed_kind : ℕ
relayed_kind = 0x0016

abbrev pub requested_family_kind : ℕ
requested_family_kind = 0x0017

abbrev pub requested_transport_kind : ℕ
requested_transport_kind = 0x0019

abbrev pub dont_fragment_kind : ℕ
dont_fragment_kind = 0x001a

abbrev pub connection_id_kind : ℕ
connection_id_kind = 0x002a

abbrev pub additional_family_kind : ℕ
additional_family_kind = 0x8000

abbrev pub icmp_kind : ℕ
icmp_kind = 0x8004

-- error codes (RFC 8489, section 14.8, and RFC 6062, section 6.3): Bad Request, Connection Already Exists,
-- and Connection Timeout or Failure
abbrev pub bad_request : ℕ
bad_request = 400

abbrev pub connection_already_exists : ℕ
connection_already_exists = 446

abbrev pub connection_timed_out : ℕ
connection_timed_out = 447

-- the lifetime that is requested, in seconds (our choice: RFC 8656, section 7.2, allows up to 3600)
abbrev pub asked_lifetime : ℕ
asked_lifetime = 1800

-- ---- transaction IDs

abbrev pub is_taken : ℕ → State → Bool
is_taken id s = is_outstanding id s.transactions || is_listed id s

-- how many IDs can be taken at most
abbrev pub max_ids_taken : State → ℕ
max_ids_taken s = length s.transactions + length s.listed + length s.grants

-- The number that is so many after this one, counting up modulo 2^96, which gives 2^96 of them; after these
-- come the numbers from 2^96 on, which no message carries.
abbrev pub counted_up : ℕ → ℕ → ℕ
counted_up first n = if nat_lt n (2 ^ 96) then (first + n) % 2 ^ 96 else n

-- The next ID: what the seed gives, or if that is taken the first after it that is not, counting up modulo
-- 2^96 (our choice). Among one more than are taken, one is free. A client that holds fewer than 2^96
-- requests and grants, as any does that a machine can hold, uses none that no message carries.
abbrev pub fresh_id : State → ℕ
fresh_id s =
    unwrap_or (find (λ id. not (is_taken id s)) (map (counted_up (next_id s.ids)) (range_with_len 0 (max_ids_taken s + 1)))) (next_id s.ids)

-- ---- texts

abbrev pub attribute : ℕ → List ℕ → Addition
attribute kind value = record { kind = kind; value = value }

abbrev pub message_of : ℕ → MessageClass → List Addition → ℕ → List ℕ
message_of method class attributes id = with_additions attributes (header_of (type_number method class) id)

-- the message with the user, the realm, the nonce and the integrity, or for a response the integrity alone
abbrev pub signed : State → List ℕ → List ℕ
signed s message = signed_text (auth_of s) message

-- both families are requested by the additional one, and IPv6 alone as the requested one (RFC 8656, section
-- 7.1)
abbrev pub family_attributes : List AddressFamily → List Addition
family_attributes (IPV6 ∷ []) = attribute requested_family_kind (family_value IPV6) ∷ []
family_attributes (_ ∷ _ ∷ _) = attribute additional_family_kind (family_value IPV6) ∷ []
family_attributes _ = []

abbrev pub lifetime_attribute : ℕ → Addition
lifetime_attribute lifetime = attribute lifetime_kind (number_value lifetime)

abbrev pub transport_attribute : State → Addition
transport_attribute s = attribute requested_transport_kind (transport_value s.config.allocation_transport)

abbrev pub peer_attribute : SocketAddr → ℕ → Addition
peer_attribute peer id = attribute peer_kind (xor_value peer id)

-- a permission has no port: it is written as 0 (RFC 8656, section 10.1)
abbrev pub without_port : IpAddr → SocketAddr
without_port (Ip.V4 a) = V4 (xor_v4 (ipv4_octets a) 0)
without_port (Ip.V6 a) = V6 (xor_v6 (ipv6_segments a) 0)

-- the first ALLOCATE, to which the challenge is the response (RFC 8489, section 9.2.3.1: it is not signed)
abbrev pub first_allocate : State → ℕ → List ℕ
first_allocate s id =
    message_of allocate_method Request
    (lifetime_attribute asked_lifetime ∷ transport_attribute s ∷ attribute dont_fragment_kind [] ∷ family_attributes s.families)
    id

-- the attributes of a request for a purpose
abbrev pub asked_attributes : State → Purpose → ℕ → List Addition
asked_attributes s ForAllocation id =
    transport_attribute s ∷ lifetime_attribute asked_lifetime ∷ family_attributes s.families
asked_attributes s (ForRefresh family lifetime) id = lifetime_attribute lifetime ∷ []
asked_attributes s (ForPermission ip) id = peer_attribute (without_port ip) id ∷ []
asked_attributes s (ForChannel number peer) id =
    attribute channel_number_kind (channel_number_value number) ∷ peer_attribute peer id ∷ []
asked_attributes s (ForConnect peer) id = peer_attribute peer id ∷ []
asked_attributes s (ForBind local peer connection_id) id = attribute connection_id_kind (number_value connection_id) ∷ []

abbrev pub method_for : Purpose → ℕ
method_for ForAllocation = allocate_method
method_for (ForRefresh family lifetime) = refresh_method
method_for (ForPermission ip) = create_permission_method
method_for (ForChannel number peer) = channel_bind_method
method_for (ForConnect peer) = connect_method
method_for (ForBind local peer connection_id) = connection_bind_method

-- the signed request for a purpose
abbrev pub request_for : State → Purpose → ℕ → List ℕ
request_for s purpose id = signed s (message_of (method_for purpose) Request (asked_attributes s purpose id) id)

-- what keeps a path alive: a Binding indication, which has no attributes, and to which no server responds
abbrev pub binding_indication : ℕ → List ℕ
binding_indication id = message_of binding_method Indication [] id

-- ---- requests are made

-- the packet to the server from this local address
abbrev pub to_server : State → SocketAddr → List ℕ → Transmit (List ℕ)
to_server s from text = record { payload = text; transport = s.transport; from = from; to = s.remote }

abbrev pub listings : ℕ → List Purpose → List Listing
listings id purposes = map (λ p. record { id = id; purpose = p }) purposes

-- the next ID was used: the seed advances by one, whether or not its own was taken
abbrev pub id_used : State → State
id_used s = record s { ids = behind_id s.ids }

-- a request with this text is made: it has a transaction from now on, and is listed for these
abbrev pub request_started : ℕ → List ℕ → List Purpose → ℕ → State → State
request_started id text purposes now s = record (id_used s) {
  transactions = s.transactions ++ first_sent id s.remote now text ∷ [];
  listed = s.listed ++ listings id purposes;
}

-- a request or a reply is queued, after all others
abbrev pub queued : Bool → SocketAddr → List ℕ → State → State
queued is_request from text s =
    record s { queue = s.queue ++ record { packet = to_server s from text; is_request = is_request } ∷ [] }

-- a CONNECTION_BIND is sent over the connection that it binds (RFC 6062, section 4.3)
abbrev pub sent_from : State → Purpose → SocketAddr
sent_from s (ForBind local peer connection_id) = local
sent_from s _ = s.local

-- From when on a request waits for its response that is made and queued now: from now on (our choice), or if the client is
-- set so from when its first copy is given out (RFC 8489, section 6.2.1), before which no time comes that is as late as this.
abbrev pub waits_from : ℕ → State → ℕ
waits_from now s = if s.config.timed_from_send then max_time else now

-- the request for a purpose is made under this ID, and queued
abbrev pub requested : ℕ → Purpose → ℕ → State → State
requested id purpose now s =
    queued true (sent_from s purpose) (request_for s purpose id)
    (request_started id (request_for s purpose id) (purpose ∷ []) (waits_from now s) s)

-- ---- replies to CONNECTION_ATTEMPT (RFC 6062, section 4.4)

abbrev pub accepted_reply : State → ℕ → List ℕ
accepted_reply s id = signed s (message_of connection_attempt_method Success [] id)

abbrev pub refused_reply : ℕ → List ℕ → State → ℕ → List ℕ
refused_reply code reason s id =
    signed s (message_of connection_attempt_method Error (attribute error_kind (error_code_value (record { code = code; reason = reason })) ∷ []) id)

-- a reply is queued for the control connection
abbrev pub replied : List ℕ → State → State
replied text s = queued false s.local text s
