-- What a datagram brings over a channel (RFC 8656, section 12.6).
use Rattle.std.specs.Prelude.{◌≡◌, ℕ, List, true}
use Rattle.std.specs.declared.net.socket_addr.SocketAddr.{SocketAddr}
use Rattle.std.specs.declared.ops.Range.{Range}
use Rattle.turn_stun.specs.declared.transport.TransportType.{TransportType}
use Rattle.turn_client_api.specs.Payloads.{Ignored, is_channel_frame}
use Rattle.turn_client_api.specs.Receive.{recv_step}
use Rattle.turn_client_api.specs.State.{State}
use Rattle.turn_client_core.specs.ProtocolRecv.{outcome_in}
use Rattle.turn_client_core.specs.declared.protocol_recv.TurnProtocolRecv.TheVariants.{PeerData}

-- data of this peer, over this transport and at this place of the bytes, and the client stays as it is
abbrev pub BringsData : TransportType → SocketAddr → SocketAddr → List ℕ → State → TransportType → SocketAddr → Range ℕ → Type 0
BringsData transport from to bytes s over peer place =
    (now : ℕ) → recv_step transport from to bytes now s ≡ (outcome_in bytes (PeerData over peer place), s)

-- no ChannelData message, or one that is ignored
abbrev pub BringsNoFrame : TransportType → SocketAddr → SocketAddr → List ℕ → State → Type 0
BringsNoFrame transport from to bytes s =
    is_channel_frame bytes ≡ true → (now : ℕ) → recv_step transport from to bytes now s ≡ (Ignored, s)
