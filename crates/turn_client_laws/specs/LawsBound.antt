-- What is bound by a signed success of the server alone (RFC 6062, section 4.3; RFC 8489, section 9.2.5).
use Rattle.std.specs.Prelude.{◌≡◌, ◌⊎◌, ℕ, true, Some, None}
use Rattle.std.specs.List.{Contains}
use Rattle.std.specs.declared.net.socket_addr.SocketAddr.{SocketAddr}
use Rattle.turn_stun.specs.Message.{id_of}
use Rattle.turn_stun.specs.declared.message.header.MessageClass.TheVariants.{Success}
use Rattle.turn_auth.specs.Validation.{IsValidated, validation_of}
use Rattle.turn_agent.specs.Agent.{is_outstanding}
use Rattle.turn_client_api.specs.State.{State, auth_of}
use Rattle.turn_client_api.specs.declared.grant.Grant.TheVariants.{Connection}
use Rattle.turn_client_api.specs.declared.grant.DataConnection.{DataConnection}
use Rattle.turn_client_api.specs.declared.grant.Purpose.TheVariants.{ForBind}
use Rattle.turn_client_api.specs.Grants.{purposes_of}
use Rattle.turn_client_api.specs.Requests.{connection_bind_method}
use Rattle.turn_client_api.specs.Judgement.{class_in, method_in}
use Rattle.turn_client_api.specs.Connections.{connection_at}
use Rattle.turn_client_api.specs.Payloads.{is_message}
use Rattle.turn_client_laws.specs.Handled.{Input}
use Rattle.turn_client_api.specs.declared.call.Call.{Call}
use Rattle.turn_client_laws.specs.LawsHandled.{IsBoundAt, IsDoneBy, IsOverWaiting}

-- The input is a whole message on the connection from this local address, which waited to be bound to this
-- peer. It is a success that is signed, and answers the outstanding CONNECTION_BIND that was made for the
-- connection (RFC 6062, section 4.3).
pub record IsBindInput (local peer : SocketAddr) (one : Input) : Type 0 where
  pub over : IsOverWaiting local one
  pub whole : is_message one.bytes ≡ true
  pub method : method_in one.bytes ≡ connection_bind_method
  pub connection : DataConnection
  pub found : connection_at local one.before ≡ Some connection
  pub to : connection.peer ≡ peer
  pub success : class_in one.bytes ≡ Success
  pub signed : IsValidated (validation_of (auth_of one.before) one.bytes)
  pub outstanding : is_outstanding (id_of one.bytes) one.before.transactions ≡ true
  pub asked : SocketAddr
  pub number : ℕ
  pub listed : Contains (purposes_of (id_of one.bytes) one.before) (ForBind local asked number)

-- it binds the connection
abbrev pub IsConnecting : DataConnection → Input → Type 0
IsConnecting c one = (peer : SocketAddr) × IsBindInput c.local peer one

-- why the stream at this local address is bound after the call: it was before, or an input bound it
abbrev pub IsBoundBy : SocketAddr → SocketAddr → Call → State → Type 0
IsBoundBy local peer call s = IsBoundAt local peer s ⊎ IsDoneBy (IsBindInput local peer) call s

-- the connection is bound
abbrev pub IsBoundConnection : DataConnection → State → Type 0
IsBoundConnection c s = Contains s.grants (Connection c) × (c.deadline ≡ None)

-- why the connection is bound after the call
abbrev pub IsConnectedBy : DataConnection → Call → State → Type 0
IsConnectedBy c call s = IsBoundConnection c s ⊎ IsDoneBy (IsConnecting c) call s
