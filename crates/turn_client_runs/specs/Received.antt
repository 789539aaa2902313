-- What `recv` stores in the streams of a client over TCP (RFC 8656, section 12.5; RFC 6062, section 4.3).
use Rattle.std.specs.Prelude.{◌≡◌, ◌&&◌, if◌then◌else◌, ℕ, List, [], ◌∷◌, ◌++◌, Option, Some, None, ⊤}
use Rattle.std.specs.declared.net.socket_addr.SocketAddr.{SocketAddr}
use Rattle.turn_stun.specs.declared.transport.TransportType.{TransportType}
use Rattle.turn_stun.specs.declared.transport.TransportType.TheVariants.{Tcp}
use Rattle.turn_agent.specs.Agent.{same_address}
use Rattle.turn_client_api.specs.State.{State}
use Rattle.turn_client_api.specs.declared.call.Call.{Call}
use Rattle.turn_client_api.specs.declared.call.Call.TheVariants.{Recv}
use Rattle.turn_client_api.specs.declared.state.Mode.{Mode}
use Rattle.turn_client_api.specs.declared.state.Mode.TheVariants.{Broken}
use Rattle.turn_client_api.specs.declared.state.Stream.{Stream}
use Rattle.turn_client_laws.specs.Handled.{Input}
use Rattle.turn_client_api.specs.Receive.{is_from_server}
use Rattle.turn_client_api.specs.Steps.{state_after}
use Rattle.turn_client_api.specs.Streams.{stream_at}

-- a broken stream stores nothing
abbrev pub unless_broken : Mode → List ℕ → List ℕ
unless_broken Broken piece = []
unless_broken mode piece = piece

-- a piece that is received from the server over TCP, for the stream at this local address
abbrev pub piece_in_call : SocketAddr → Call → State → List ℕ
piece_in_call local (Recv packet now) s =
    if is_from_server packet.transport packet.from s && same_address packet.to local then by s.transport (stream_at packet.to s) else []
  where
    by : TransportType → Option Stream → List ℕ
    by Tcp (Some stream) = unless_broken stream.mode packet.payload
    by _ _ = []
piece_in_call local _ s = []

-- all such pieces of these calls, joined
abbrev pub pieces_for : SocketAddr → List Call → State → List ℕ
pieces_for local [] s = []
pieces_for local (call ∷ calls) s = piece_in_call local call s ++ pieces_for local calls (state_after call s)

-- What the stream of the input holds ends what was received for it by these calls, so that its first frame
-- was received unchanged. A datagram has no stream.
abbrev pub HasArrived : List Call → State → Input → Type 0
HasArrived calls first one = by one.stream
  where
    by : Option Stream → Type 0
    by None = ⊤
    by (Some stream) = (before : List ℕ) × (pieces_for stream.local calls first ≡ before ++ stream.bytes)
