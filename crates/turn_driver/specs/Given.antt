-- What a client returns to its caller, by value: no matter who owns the bytes.
use Rattle.std.specs.Prelude.{ℕ, List, Option, Some, None, option_map}
use Rattle.std.specs.declared.alloc.Global.{Global}
use Rattle.std.specs.declared.net.socket_addr.SocketAddr.{SocketAddr}
use Rattle.std.specs.declared.vec.Vec.{Vec}
use Rattle.turn_stun.specs.declared.transport.TransportType.{TransportType}
use Rattle.turn_stun.specs.declared.transport.Transmit.{Transmit}
use Rattle.turn_types.specs.declared.attribute.icmp_report.Icmp.{Icmp}
use Rattle.turn_client_api.specs.Answers.{given_payload}
use Rattle.turn_client_api.specs.Payloads.{Outcome, Payload}
use Rattle.turn_client_api.specs.Payloads as O
use Rattle.turn_client_api.specs.declared.event.TurnEvent.{TurnEvent}
use Rattle.turn_client_api.specs.declared.poll.Socket5Tuple.{Socket5Tuple}
use Rattle.turn_driver.specs.declared.task.Task.{Task}

pub data Given : Type 0 where
  FromPeer : Payload → Given
  FromIcmp : TransportType → SocketAddr → Icmp → Given
  NotOurs : Transmit (List ℕ) → Given
  Happened : TurnEvent → Given
  ToSend : Transmit (List ℕ) → Given
  ToOpen : ℕ → Socket5Tuple → SocketAddr → Given
  ToClose : SocketAddr → SocketAddr → Given

-- a packet that the caller owns, by its bytes
abbrev pub packet_of : Transmit (Vec ℕ Global) → Transmit (List ℕ)
packet_of packet = record {
  payload = packet.payload.items;
  transport = packet.transport;
  from = packet.from;
  to = packet.to;
}

abbrev pub packet_in : Option (Transmit (Vec ℕ Global)) → Option (Transmit (List ℕ))
packet_in came = option_map packet_of came

-- the value that a task stands for
abbrev pub given_of : Task → Given
given_of (Task.Payload given) = FromPeer (given_payload given)
given_of (Task.Icmp transport peer icmp_type icmp_code icmp_data) =
    FromIcmp transport peer (record { icmp_type = icmp_type; code = icmp_code; «data» = icmp_data })
given_of (Task.Other packet) = NotOurs (packet_of packet)
given_of (Task.Event event) = Happened event
given_of (Task.Send packet) = ToSend packet
given_of (Task.Open id socket peer) = ToOpen id socket peer
given_of (Task.Close local remote) = ToClose local remote

-- what `recv` returns at once for a packet
abbrev pub given_at_once : Transmit (List ℕ) → Outcome → Option Given
given_at_once packet O.Handled = None
given_at_once packet O.Ignored = Some (NotOurs packet)
given_at_once packet (O.PeerData payload) = Some (FromPeer payload)
given_at_once packet (O.PeerIcmp transport peer icmp) = Some (FromIcmp transport peer icmp)
