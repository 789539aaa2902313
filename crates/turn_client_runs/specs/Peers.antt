-- The senders of the payloads of a run.
use Rattle.std.specs.Prelude.{◌≡◌, ◌⊎◌, ℕ, List, Some, ⊤}
use Rattle.std.specs.List.{Contains}
use Rattle.std.specs.Net.Socket.{socket_ip}
use Rattle.std.specs.declared.net.socket_addr.SocketAddr.{SocketAddr}
use Rattle.turn_client_api.specs.State.{State}
use Rattle.turn_client_api.specs.Payloads.{Payload, Outcome, PeerIcmp}
use Rattle.turn_client_laws.specs.Handled.{Input, processed, input_payload}
use Rattle.turn_client_laws.specs.LawsHandled.{IsBoundAt}
use Rattle.turn_client_laws.specs.LawsPeers.{HasChannel, HasPermission, IsIcmpAttribute, IsIndicated, IsPermittedInput}
use Rattle.turn_client_api.specs.declared.call.Call.{Call}
use Rattle.turn_client_api.specs.declared.state.Mode.TheVariants.{Bound}
use Rattle.turn_client_api.specs.declared.state.Stream.{Stream}
use Rattle.turn_client_runs.specs.Inputs.{IsAmong, handled_in, payloads_in}

-- the input is bytes of a stream that is bound to this peer, which is in the state just before
abbrev pub IsOverBound : SocketAddr → Input → Type 0
IsOverBound peer one = (stream : Stream) × (one.stream ≡ Some stream) × (stream.mode ≡ Bound peer) × IsBoundAt stream.local peer one.before

-- When the input was processed, the peer was permitted: its IP address had an active permission, it had an
-- active channel, or its data connection was bound (RFC 8656, sections 9 and 12; RFC 6062, section 4.3).
abbrev pub IsPeerPermitted : SocketAddr → Input → Type 0
IsPeerPermitted peer one =
    HasPermission (socket_ip peer) one.before
    ⊎ ((number : ℕ) × HasChannel number peer one.before)
    ⊎ IsOverBound peer one

-- the input returns the payload: exactly what the frame carries, or the bytes of the stream, of a permitted
-- peer
pub record InputDelivers (payload : Payload) (one : Input) : Type 0 where
  pub given : input_payload one ≡ Some payload
  pub exact : IsPermittedInput one
  pub let_in : IsPeerPermitted payload.peer one

-- an input of the run returned it
abbrev pub IsDeliveredIn : Payload → State → List Call → Type 0
IsDeliveredIn payload s calls = IsAmong (InputDelivers payload) (handled_in s calls)

-- each payload that a call of the run returns, an input of the run returned
abbrev pub ReceivesOnlyPermitted : State → List Call → Type 0
ReceivesOnlyPermitted s calls = (payload : Payload) → Contains (payloads_in s calls) payload → IsDeliveredIn payload s calls

-- an ICMP report of an input is about a peer whose IP address has an active permission
abbrev pub ReportsOfPermitted : Input → Type 0
ReportsOfPermitted one = by (processed one).0
  where
    by : Outcome → Type 0
    by (PeerIcmp transport peer icmp) = IsIndicated one.bytes peer one.before × IsIcmpAttribute one.bytes one.before transport icmp
    by _ = ⊤

-- this holds for each input of the run
abbrev pub IcmpIsOfPermitted : State → List Call → Type 0
IcmpIsOfPermitted s calls = (one : Input) → Contains (handled_in s calls) one → ReportsOfPermitted one
