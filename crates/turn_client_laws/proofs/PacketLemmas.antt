-- What holds of the inputs and the step of a packet: it does if it holds of a datagram's, of those of a piece
-- of a stream, and of none.
use Rattle.turn_client_laws.proofs.Common.{◌≡◌, ℕ, Bool, true, cond, List, [], ◌∷◌, Option, Some, None, refl, SocketAddr}
use Rattle.turn_client_laws.proofs.Machine.{TransportType, Udp, Tcp, same_address, State, Stream, stream_at, Outcome, Ignored, datagram_step, is_from_server, recv_step, stream_step}
use Rattle.turn_client_laws.specs.Handled.{Input, datagram_input, recv_inputs, stream_inputs}

module _ (P : State → List Input → Outcome × State → Type 0) (transport : TransportType) (from to : SocketAddr) (bytes : List ℕ) (now : ℕ)
    (datagram : (s : State) → P s (datagram_input bytes now s ∷ []) (datagram_step bytes now s))
    (piece : (stream : Stream) (s : State) → stream_at to s ≡ Some stream → P s (stream_inputs stream bytes now s) (stream_step stream bytes now s))
    (none : (s : State) → P s [] (Ignored, s)) where
  over : (carrier : TransportType) (s : State)
      → let u = record s { transport = carrier } in P u (recv_inputs transport from to bytes now u) (recv_step transport from to bytes now u)
  over Udp s = by (is_from_server transport from u) (same_address to s.local)
    where
      u : State
      u = record s { transport = Udp }

      by : (b c : Bool) → P u (cond b (cond c (datagram_input bytes now u ∷ []) []) []) (cond b (cond c (datagram_step bytes now u) (Ignored, u)) (Ignored, u))
      by true true = datagram u
      by b c = none u
  over Tcp s = by (is_from_server transport from u) (stream_at to s) refl
    where
      u : State
      u = record s { transport = Tcp }

      step_by : Option Stream → Outcome × State
      step_by None = (Ignored, u)
      step_by (Some stream) = stream_step stream bytes now u

      inputs_by : Option Stream → List Input
      inputs_by None = []
      inputs_by (Some stream) = stream_inputs stream bytes now u

      by : (b : Bool) (o : Option Stream) → stream_at to s ≡ o → P u (cond b (inputs_by o) []) (cond b (step_by o) (Ignored, u))
      by true (Some stream) e = piece stream u e
      by b o e = none u

  pub packet-by : (s : State) → P s (recv_inputs transport from to bytes now s) (recv_step transport from to bytes now s)
  packet-by s = over s.transport s
