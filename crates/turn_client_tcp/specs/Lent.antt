-- Payloads that are lent to a caller's closure.
use Rattle.std.specs.Prelude.{◌≡◌, ◌⊎◌, ℕ, List, find, Option, Some, None, IsSome, IsSomeAnd, true, ⊤}
use Rattle.std.specs.Borrow.{Bor}
use Rattle.std.specs.declared.net.socket_addr.SocketAddr.{SocketAddr}
use Rattle.turn_stun.specs.declared.transport.TransportType.{TransportType}
use Rattle.turn_client_api.specs.Payloads.{Payload}
use Rattle.turn_client_api.specs.State.{State}
use Rattle.turn_client_api.specs.Streams.{is_bound, is_ready}
use Rattle.turn_client_tcp.specs.ControlData.{control_data}

-- what a closure may return, by the transport, the peer and the bytes that it is called with
abbrev pub Returns : Type 0 → Type 1
Returns R = TransportType → SocketAddr → Bor (List ℕ) → R → Type 0

-- it was called with this payload, and returned this
abbrev pub IsReadFrom : {R : Type 0} → Returns R → Payload → R → Type 0
IsReadFrom returns payload given = (bytes : Bor (List ℕ)) × (bytes.now ≡ payload.bytes) × returns payload.transport payload.peer bytes given

-- it was called if there is a payload, and otherwise not
abbrev pub IsReadIfAny : {R : Type 0} → Returns R → Option Payload → Option R → Type 0
IsReadIfAny returns (Some payload) (Some given) = IsReadFrom returns payload given
IsReadIfAny returns None None = ⊤
IsReadIfAny returns _ _ = ⊥

-- the next bytes are those of a data connection that is bound to its peer
abbrev pub IsBoundFirst : State → Type 0
IsBoundFirst s = IsSomeAnd (find is_ready s.streams) (λ stream. is_bound stream.mode ≡ true)

-- the next payload is lent where it is: in a ChannelData message of the control connection, or as bytes of a data connection
abbrev pub IsLentInPlace : State → Type 0
IsLentInPlace s = IsSome (control_data s) ⊎ IsBoundFirst s
