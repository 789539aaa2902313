-- How a caller came to open a data connection: for an offer, which its own CONNECT or an attempt of the peer
-- made (RFC 6062, sections 4.3 and 4.4).
use Rattle.std.specs.Prelude.{◌≡◌, ℕ, Bool, true, Some, Ok, List, [], ◌∷◌, ◌++◌}
use Rattle.std.specs.List.{Contains}
use Rattle.std.specs.Net.Socket.{socket_ip}
use Rattle.std.specs.declared.net.socket_addr.SocketAddr.{SocketAddr}
use Rattle.turn_stun.specs.Message.{id_of}
use Rattle.turn_stun.specs.declared.message.header.MessageClass.TheVariants.{Request, Indication, Success}
use Rattle.turn_auth.specs.Validation.{IsValidated, validation_of}
use Rattle.turn_client_api.specs.State.{State, auth_of}
use Rattle.turn_client_api.specs.declared.call.Call.{Call}
use Rattle.turn_client_api.specs.declared.call.Call.TheVariants.{TcpConnect, AllocatedTcpSocket}
use Rattle.turn_client_api.specs.declared.grant.DataConnection.{DataConnection}
use Rattle.turn_client_api.specs.declared.grant.DataOffer.{DataOffer}
use Rattle.turn_client_api.specs.declared.grant.Grant.{Grant}
use Rattle.turn_client_api.specs.declared.grant.Grant.TheVariants.{Offer, Connection}
use Rattle.turn_client_api.specs.declared.grant.Origin.{Origin}
use Rattle.turn_client_api.specs.declared.grant.Origin.TheVariants.{OwnConnect, ServerRequest, ServerIndication}
use Rattle.turn_client_api.specs.declared.grant.Purpose.{Purpose}
use Rattle.turn_client_api.specs.declared.grant.Purpose.TheVariants.{ForBind, ForConnect}
use Rattle.turn_client_api.specs.declared.poll.Socket5Tuple.{Socket5Tuple}
use Rattle.turn_client_api.specs.Calls.{allocated_tcp_socket_step, tcp_connect_step}
use Rattle.turn_client_api.specs.Grants.{purposes_of}
use Rattle.turn_client_api.specs.Judgement.{class_in, connection_id_in, method_in, peer_in}
use Rattle.turn_client_api.specs.Payloads.{is_message}
use Rattle.turn_client_api.specs.Requests.{connect_method, connection_attempt_method}
use Rattle.turn_client_api.specs.Steps.{state_after, state_after_all}
use Rattle.turn_client_laws.specs.Handled.{Input, handled, processed}
use Rattle.turn_client_laws.specs.LawsBound.{IsBoundConnection}
use Rattle.turn_client_laws.specs.LawsHandled.{IsBoundAt, IsOverControl}
use Rattle.turn_client_laws.specs.LawsPeers.{HasPermission}
use Rattle.turn_client_laws.specs.LawsReplies.{IsAwaited, IsNotAwaited}
use Rattle.turn_client_runs.specs.Bound.{IsBoundSince}
use Rattle.turn_client_runs.specs.Granted.{ComesIn, HoldsThrough, IsAnsweredIn, IsGranted}
use Rattle.turn_client_runs.specs.Received.{HasArrived}

-- this offer to the caller, of a connection with this ID to this peer
abbrev pub offer_to : ℕ → SocketAddr → Origin → Bool → Grant
offer_to id peer origin is_reported =
    Offer (record { connection_id = id; peer = peer; is_reported = is_reported; origin = origin })

-- such an offer stands, whether or not `poll` has returned it
abbrev pub IsOffered : ℕ → SocketAddr → Origin → State → Type 0
IsOffered id peer origin s = (is_reported : Bool) × Contains s.grants (offer_to id peer origin is_reported)

-- ---- what makes an offer

-- The input is a signed success to a CONNECT to this peer, with this CONNECTION-ID. The CONNECT was outstanding
-- just before the input, and is not just after it (RFC 6062, section 4.3).
pub record IsConnectSuccess (id : ℕ) (peer : SocketAddr) (purpose : Purpose) (one : Input) : Type 0 where
  pub over : IsOverControl one
  pub whole : is_message one.bytes ≡ true
  pub method : method_in one.bytes ≡ connect_method
  pub success : class_in one.bytes ≡ Success
  pub signed : IsValidated (validation_of (auth_of one.before) one.bytes)
  pub for : purpose ≡ ForConnect peer
  pub listed : Contains (purposes_of (id_of one.bytes) one.before) (ForConnect peer)
  pub outstanding : IsAwaited one.bytes one.before
  pub ended : IsNotAwaited one.bytes (processed one).1
  pub named : connection_id_in one.bytes ≡ Some id

-- The input is a ConnectionAttempt of the server with this CONNECTION-ID and this XOR-PEER-ADDRESS (RFC 6062,
-- section 4.4).
pub record Attempts (id : ℕ) (peer : SocketAddr) (one : Input) : Type 0 where
  pub over : IsOverControl one
  pub whole : is_message one.bytes ≡ true
  pub method : method_in one.bytes ≡ connection_attempt_method
  pub named : connection_id_in one.bytes ≡ Some id
  pub from : peer_in one.bytes ≡ Some peer

-- it is an indication of a peer with a permission; or, in our choice, a signed request, which is answered later
abbrev pub AttemptsAs : Origin → ℕ → SocketAddr → Input → Type 0
AttemptsAs ServerIndication id peer one =
    Attempts id peer one × (class_in one.bytes ≡ Indication) × HasPermission (socket_ip peer) one.before
AttemptsAs (ServerRequest request) id peer one =
    Attempts id peer one × (class_in one.bytes ≡ Request) × IsValidated (validation_of (auth_of one.before) one.bytes)
    × (request ≡ id_of one.bytes)
AttemptsAs OwnConnect id peer one = ⊥

-- ---- in a run

-- one of these calls, a `tcp_connect` that was accepted, requested a connection to this peer
pub record IsConnectCalled (peer : SocketAddr) (calls : List Call) (first : State) : Type 0 where
  pub earlier : List Call
  pub now : ℕ
  pub later : List Call
  pub split : calls ≡ earlier ++ TcpConnect peer now ∷ later
  pub accepted : (tcp_connect_step peer now (state_after_all first earlier)).0 ≡ Ok tt

-- An input of one of these calls made the offer: the success to the CONNECT that the caller asked for. The offer
-- stands since.
abbrev pub IsConnectedIn : ℕ → SocketAddr → List Call → State → Type 0
IsConnectedIn id peer calls first =
    (answered : IsAnsweredIn (IsConnectSuccess id peer) (IsOffered id peer OwnConnect) calls first) × IsConnectCalled peer answered.earlier first

-- An input of one of these calls made the offer: an attempt of the server, which was received by then. The offer
-- stands since.
pub record IsAttemptedIn (id : ℕ) (peer : SocketAddr) (origin : Origin) (calls : List Call) (first : State) : Type 0 where
  pub earlier : List Call
  pub call : Call
  pub later : List Call
  pub split : calls ≡ earlier ++ call ∷ later
  pub input : Input
  pub among : Contains (handled call (state_after_all first earlier)) input
  pub comes : ComesIn call input
  pub received : HasArrived (earlier ++ call ∷ []) first input
  pub attempts : AttemptsAs origin id peer input
  pub stands : HoldsThrough (IsOffered id peer origin) later (state_after call (state_after_all first earlier))

-- why the offer stands after these calls
abbrev pub HasOfferCause : ℕ → SocketAddr → Origin → List Call → State → Type 0
HasOfferCause id peer OwnConnect calls first = IsConnectedIn id peer calls first
HasOfferCause id peer origin calls first = IsAttemptedIn id peer origin calls first

-- Between these two states the caller took the first offer of this ID and this peer, and nothing else was removed;
-- a connection from this local address to the peer was added.
pub record TakesOffer (id : ℕ) (local peer : SocketAddr) (origin : Origin) (s t : State) : Type 0 where
  pub front : List Grant
  pub is_reported : Bool
  pub back : List Grant
  pub stood : s.grants ≡ front ++ offer_to id peer origin is_reported ∷ back
  pub first : (offer : DataOffer) → Contains front (Offer offer) → offer.connection_id ≡ id → offer.peer ≡ peer → ⊥
  pub deadline : ℕ
  pub opened : t.grants ≡ (front ++ back) ++ Connection (record { local = local; peer = peer; deadline = Some deadline }) ∷ []

-- One of these calls, an `allocated_tcp_socket` that was accepted, opened the connection from this local address to
-- this peer for an offer of this ID and this peer, which its own CONNECT or an attempt of the peer had made.
pub record IsOpened (id : ℕ) (local peer : SocketAddr) (calls : List Call) (first : State) : Type 0 where
  pub earlier : List Call
  pub tuple : Socket5Tuple
  pub now : ℕ
  pub later : List Call
  pub split : calls ≡ earlier ++ AllocatedTcpSocket id tuple peer (Some local) now ∷ later
  pub accepted : (allocated_tcp_socket_step id tuple peer (Some local) now (state_after_all first earlier)).0 ≡ Ok tt
  pub origin : Origin
  pub takes : TakesOffer id local peer origin (state_after_all first earlier)
      (state_after (AllocatedTcpSocket id tuple peer (Some local) now) (state_after_all first earlier))
  pub cause : HasOfferCause id peer origin earlier first

-- ---- what is bound

-- A bound data connection was granted by the success to a CONNECTION_BIND with the ID of an offer to its peer, which
-- the caller accepted in an earlier call.
abbrev pub IsGrantedForOffer : DataConnection → List Call → State → Type 0
IsGrantedForOffer c calls first =
    (granted : IsGranted (Connection c) calls first)
    × ((id : ℕ) × (granted.purpose ≡ ForBind c.local c.peer id) × IsOpened id c.local c.peer granted.earlier first)

-- so was a bound stream, by the success that bound it
abbrev pub IsBoundForOffer : SocketAddr → SocketAddr → List Call → State → Type 0
IsBoundForOffer local peer calls first =
    (since : IsBoundSince local peer calls first) × IsOpened since.success.2.0.number local peer since.earlier first

-- each data connection and each stream that is bound after these calls was opened for an offer
abbrev pub BoundAreOffered : State → List Call → Type 0
BoundAreOffered first calls =
    ((c : DataConnection) → IsBoundConnection c (state_after_all first calls) → IsGrantedForOffer c calls first)
    × ((local peer : SocketAddr) → IsBoundAt local peer (state_after_all first calls) → IsBoundForOffer local peer calls first)
