-- How a gatherer processes input.
use Rattle.std.specs.Prelude.{◌≡◌, ℕ, List, Option, option_map, ⊤, if◌then◌else◌}
use Rattle.std.specs.declared.convert.AsSlice.{Ghosts}
use Rattle.std.specs.declared.net.socket_addr.SocketAddr.{SocketAddr}
use Rattle.turn_stun.specs.declared.transport.TransportType.{TransportType}
use Rattle.turn_stun.specs.declared.transport.Transmit.{Transmit}
use Rattle.turn_client_api.specs.Answers.{IsPartOf, given_payload}
use Rattle.turn_client_api.specs.PeerBytes.{held_in}
use Rattle.turn_client_api.specs.Payloads.{Outcome, Payload}
use Rattle.turn_client_api.specs.Payloads as O
use Rattle.turn_client_api.specs.Receive.{recv_step}
use Rattle.turn_client_api.specs.State.{State}
use Rattle.turn_client_api.specs.Streams.{poll_recv_step}
use Rattle.turn_client_api.specs.declared.receive.TurnPeerData.{TurnPeerData}
use Rattle.turn_gather.specs.Gathering.{Gathering, is_checked_in}
use Rattle.turn_gather.specs.declared.receive.GatherRecv.{GatherRecv}
use Rattle.turn_gather.specs.declared.receive.GatherRecv.TheVariants as Recv

-- how the client processes a packet with these bytes
abbrev pub client_step : {T : Type 0} → Transmit T → List ℕ → ℕ → State → Outcome × State
client_step transmit bytes now s = recv_step transmit.transport transmit.from transmit.to bytes now s

-- the input was for the client, was not, is passed up, or is dropped
pub data Gathered : Type 0 where
  Handled : Gathered
  Ignored : Gathered
  PassedUp : Payload → Gathered
  Dropped : Gathered

-- a payload is passed up if its pair is checked
abbrev pub passed_or_dropped : List (TransportType × SocketAddr) → Payload → Gathered
passed_or_dropped checked payload =
    if is_checked_in payload.transport payload.peer checked then PassedUp payload else Dropped

-- the result, from the client's outcome
abbrev pub gathered : List (TransportType × SocketAddr) → Outcome → Gathered
gathered checked O.Handled = Handled
gathered checked O.Ignored = Ignored
gathered checked (O.PeerData payload) = passed_or_dropped checked payload
gathered checked (O.PeerIcmp transport peer icmp) = Dropped

-- the result that an answer stands for
abbrev pub gathered_of : {T : Type 0} {g : Ghosts T ℕ} → GatherRecv T g → Gathered
gathered_of Recv.Handled = Handled
gathered_of (Recv.Ignored transmit) = Ignored
gathered_of (Recv.Payload given) = PassedUp (given_payload given)
gathered_of Recv.Dropped = Dropped

-- input that is not for the client is returned unchanged, and bytes that are not owned are a part of the
-- caller's input
abbrev pub HandsOn : {T : Type 0} {g : Ghosts T ℕ} → Transmit T → GatherRecv T g → Type 0
HandsOn transmit Recv.Handled = ⊤
HandsOn transmit (Recv.Ignored back) = back ≡ transmit
HandsOn transmit (Recv.Payload given) = IsPartOf transmit.payload (held_in given)
HandsOn transmit Recv.Dropped = ⊤

-- what the client delivered is passed up unchanged, or dropped
abbrev pub PassesUp : {T : Type 0} {g : Ghosts T ℕ} → TurnPeerData T g → GatherRecv T g → Type 0
PassesUp given Recv.Handled = ⊥
PassesUp given (Recv.Ignored transmit) = ⊥
PassesUp given (Recv.Payload passed) = passed ≡ given
PassesUp given Recv.Dropped = ⊤

-- the result for a packet
abbrev pub received : {T : Type 0} → Transmit T → List ℕ → ℕ → Gathering → Gathered
received transmit bytes now s = gathered s.checked (client_step transmit bytes now s.client).0

-- the result for the next payload in the buffered bytes of the streams
abbrev pub gathered_poll : ℕ → Gathering → Option Gathered
gathered_poll now s = option_map (passed_or_dropped s.checked) (poll_recv_step now s.client).0
