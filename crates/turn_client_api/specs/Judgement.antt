-- What a message is to a client (RFC 8489, sections 6.3 and 9.2.5; RFC 8656, section 11).
use Rattle.std.specs.Prelude.{ℕ, ◌==◌, nat_lt, Bool, false, not, ◌&&◌, ◌||◌, if◌then◌else◌, List, fold, Option, Some, None, option_and_then}
use Rattle.std.specs.List.{list_any}
use Rattle.std.specs.declared.net.socket_addr.SocketAddr.{SocketAddr}
use Rattle.turn_stun.specs.Attributes.{seen_of}
use Rattle.turn_stun.specs.Message.{Attribute, type_of, id_of}
use Rattle.turn_stun.specs.MessageType.{class_of, method_of}
use Rattle.turn_stun.specs.XorAddress.{xor_addr}
use Rattle.turn_stun.specs.declared.message.header.MessageClass.{MessageClass}
use Rattle.turn_stun.specs.declared.message.header.MessageClass.TheVariants.{Request, Indication, Success, Error}
use Rattle.turn_types.specs.Icmp.{icmp_of}
use Rattle.turn_types.specs.Send.{peer_kind, data_kind}
use Rattle.turn_types.specs.Values.{number_of}
use Rattle.turn_types.specs.declared.attribute.icmp_report.Icmp.{Icmp}
use Rattle.turn_auth.specs.Challenge.{challenge_of}
use Rattle.turn_auth.specs.LongTerm.{Challenge}
use Rattle.turn_auth.specs.Validation.{validation_of}
use Rattle.turn_auth.specs.declared.validation.Validation.{Validation}
use Rattle.turn_auth.specs.declared.validation.Validation.TheVariants.{Validated, ResendRequest, Refused}
use Rattle.turn_agent.specs.Agent.{is_outstanding, is_response, same_address}
use Rattle.turn_client_api.specs.State.{State, Phase, New, Requesting, Authenticating, Allocated, Closed, Purpose, ForBind, auth_of}
use Rattle.turn_client_api.specs.Grants.{is_for_allocation, purposes_of}
use Rattle.turn_client_api.specs.Requests.{data_method, connection_attempt_method, connection_id_kind, icmp_kind, lifetime_kind}
use Rattle.turn_stun.specs.Read.{value_in}

-- ---- what a message contains; attributes after its integrity are not seen

abbrev pub class_in : List ℕ → MessageClass
class_in message = class_of (type_of message)

abbrev pub method_in : List ℕ → ℕ
method_in message = method_of (type_of message)

-- the lifetime in seconds, the connection ID and the peer: each from the first attribute of its type, or
-- nothing if it is malformed
abbrev pub lifetime_in : List ℕ → Option ℕ
lifetime_in message = option_and_then number_of (value_in lifetime_kind message)

abbrev pub connection_id_in : List ℕ → Option ℕ
connection_id_in message = option_and_then number_of (value_in connection_id_kind message)

abbrev pub peer_in : List ℕ → Option SocketAddr
peer_in message = option_and_then (λ value. xor_addr value (id_of message)) (value_in peer_kind message)

-- ---- DATA indications: of several attributes of one type the last one counts (our choice)

-- an attribute of this type replaces the one before
abbrev pub later_of : ℕ → Option Attribute → Attribute → Option Attribute
later_of kind before a = if a.kind == kind then Some a else before

abbrev pub last_in : ℕ → List ℕ → Option Attribute
last_in kind message = fold (later_of kind) None (seen_of message)

abbrev pub last_peer_in : List ℕ → Option SocketAddr
last_peer_in message = option_and_then (λ a. xor_addr a.value (id_of message)) (last_in peer_kind message)

abbrev pub last_icmp_in : List ℕ → Option Icmp
last_icmp_in message = option_and_then (λ a. icmp_of a.value) (last_in icmp_kind message)

-- an unknown comprehension-required attribute, neither a peer nor data, makes the message unread (RFC 8489,
-- section 6.3.2)
abbrev pub is_unknown : Attribute → Bool
is_unknown a = nat_lt a.kind 0x8000 && not ((a.kind == peer_kind) || (a.kind == data_kind))

abbrev pub has_unknown : List ℕ → Bool
has_unknown message = list_any is_unknown (seen_of message)

-- ---- judgement

pub data Judgement : Type 0 where
  -- it is not for the client, or contains nothing that it can trust
  Unrelated : Judgement
  -- the server requests another signature; what is held once that is stored
  Challenged : Challenge → Judgement
  -- it ends what it is for: the client, or a data connection
  Fatal : Judgement
  -- a signed reply to a request that is no longer outstanding
  LateResponse : Judgement
  -- DATA, and a ConnectionAttempt that is an indication
  DataIndication : Judgement
  ConnectionAttempt : Judgement
  -- signed: a request, and replies to requests that are outstanding
  SignedRequest : Judgement
  SignedSuccess : Judgement
  SignedError : Judgement

abbrev pub answers_one : State → List ℕ → Bool
answers_one s message = is_response (class_in message) && is_outstanding (id_of message) s.transactions

abbrev pub answers_allocate : State → List ℕ → Bool
answers_allocate s message =
    is_response (class_in message) && list_any is_for_allocation (purposes_of (id_of message) s)

-- a signed message, by its class
abbrev pub by_class : MessageClass → Judgement
by_class Request = SignedRequest
by_class Indication = Unrelated
by_class Success = SignedSuccess
by_class Error = SignedError

-- a challenge is judged before any integrity (our choice: the first one cannot be signed)
abbrev pub challenged_or : Judgement → Option Challenge → Judgement
challenged_or otherwise (Some challenge) = Challenged challenge
challenged_or otherwise None = otherwise

abbrev pub challenge_in : State → List ℕ → Option Challenge
challenge_in s message = challenge_of (auth_of s) message

-- before anything is held, no reply can be signed: any but a challenge ends the client
abbrev pub requesting_judgement : State → List ℕ → Judgement
requesting_judgement s message = if answers_one s message then challenged_or Fatal (challenge_in s message) else Unrelated

-- an unsigned reply may be anyone's, and one with a wrong signature ends the client
abbrev pub authenticating_judgement : State → List ℕ → Judgement
authenticating_judgement s message =
    if answers_allocate s message then challenged_or (by (validation_of (auth_of s) message)) (challenge_in s message)
    else Unrelated
  where
    by : Validation → Judgement
    by (Validated algorithm) = if is_outstanding (id_of message) s.transactions then by_class (class_in message) else LateResponse
    by (Refused integrity) = if integrity then Fatal else Unrelated
    by (ResendRequest algorithm) = Unrelated

abbrev pub indication_judgement : List ℕ → Judgement
indication_judgement message =
    if method_in message == data_method then DataIndication
    else (if method_in message == connection_attempt_method then ConnectionAttempt else Unrelated)

abbrev pub allocated_judgement : State → List ℕ → Judgement
allocated_judgement s message = by (class_in message)
  where
    signed : Validation → Judgement
    signed (Validated algorithm) =
        if is_response (class_in message) && not (is_outstanding (id_of message) s.transactions) then Unrelated
        else by_class (class_in message)
    signed (Refused integrity) = Unrelated
    signed (ResendRequest algorithm) = Unrelated

    by : MessageClass → Judgement
    by Indication = indication_judgement message
    by Request = signed (validation_of (auth_of s) message)
    by Success = signed (validation_of (auth_of s) message)
    by Error = challenged_or (signed (validation_of (auth_of s) message)) (challenge_in s message)

-- what a message of the control connection is, or over UDP one of the server: the first case that holds
abbrev pub judgement_of : State → List ℕ → Judgement
judgement_of s message = by s.phase
  where
    by : Phase → Judgement
    by New = Unrelated
    by Requesting = requesting_judgement s message
    by Authenticating = authenticating_judgement s message
    by Allocated = allocated_judgement s message
    by Closed = Unrelated

-- the request with this ID was made to bind the connection at this local address
abbrev pub is_bind_of : SocketAddr → Purpose → Bool
is_bind_of local (ForBind other peer connection_id) = same_address other local
is_bind_of local _ = false

-- what a message is of a data connection that waits to be bound: only a signed success binds it
abbrev pub bind_judgement : State → SocketAddr → List ℕ → Judgement
bind_judgement s local message =
    if is_response (class_in message) && list_any (is_bind_of local) (purposes_of (id_of message) s)
    then challenged_or (by (validation_of (auth_of s) message)) (challenge_in s message)
    else Fatal
  where
    by : Validation → Judgement
    by (Validated algorithm) = if is_outstanding (id_of message) s.transactions then by_class (class_in message) else Fatal
    by (Refused integrity) = Fatal
    by (ResendRequest algorithm) = Fatal
