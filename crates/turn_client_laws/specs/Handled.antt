-- What a call processes: whole datagrams, and whole frames of streams, each in the state in which it is
-- processed; and the payloads of peers among them (RFC 8656, sections 11.4, 11.6 and 12.6; RFC 6062,
-- section 4.3).
use Rattle.std.specs.Prelude.{ℕ, zero, suc, Bool, true, false, if◌then◌else◌, List, [], ◌∷◌, ◌++◌, filter_map, find, take, Option, Some, None}
use Rattle.std.specs.declared.net.socket_addr.SocketAddr.{SocketAddr}
use Rattle.turn_stun.specs.declared.transport.TransportType.{TransportType}
use Rattle.turn_stun.specs.declared.transport.TransportType.TheVariants.{Udp, Tcp}
use Rattle.turn_types.specs.Frames.{begins_no_frame, frame_len}
use Rattle.turn_agent.specs.Agent.{same_address}
use Rattle.turn_client_api.specs.State.{State}
use Rattle.turn_client_api.specs.declared.state.Mode.{Mode}
use Rattle.turn_client_api.specs.declared.state.Mode.TheVariants.{Control, Waiting, Bound, Broken}
use Rattle.turn_client_api.specs.declared.state.Stream.{Stream}
use Rattle.turn_client_api.specs.Payloads.{Payload, Outcome, PeerData, PeerIcmp, datagram_step}
use Rattle.turn_client_api.specs.Streams.{frame_step, is_ready, max_steps, owned, payload_in, stream_at, stream_with_piece, next_frame_step, with_bytes}
use Rattle.turn_client_api.specs.Receive.{first_frame_step, is_from_server}
use Rattle.turn_client_api.specs.declared.call.Call.{Call}
use Rattle.turn_client_api.specs.declared.call.Call.TheVariants.{Recv, PollRecv}

-- an input: a datagram, or a frame of a stream that is taken out
pub record Input : Type 0 where
  -- the stream, with its mode in the state just before, or none for a datagram
  pub stream : Option Stream
  pub bytes : List ℕ
  -- what the caller passed in begins with these bytes
  pub is_lent : Bool
  pub time : ℕ
  -- the state just before
  pub before : State

-- the outcome of processing it, and the state just after
abbrev pub processed : Input → Outcome × State
processed t = by t.stream
  where
    by : Option Stream → Outcome × State
    by None = datagram_step t.bytes t.time t.before
    by (Some stream) = frame_step stream t.bytes t.time t.before

-- the payload that it returns to the caller: a range of what the caller passed in, or owned
abbrev pub input_payload : Input → Option Payload
input_payload t = payload_in (if t.is_lent then (processed t).0 else owned (processed t).0)

-- what peers sent, in order
abbrev pub payloads : List Input → List Payload
payloads inputs = filter_map input_payload inputs

-- ---- a step of a stream

abbrev pub stream_input : Bool → Stream → List ℕ → ℕ → State → Input
stream_input is_lent stream bytes now t =
    record { stream = Some stream; bytes = bytes; is_lent = is_lent; time = now; before = t }

-- the first frame has so many bytes, or the stream waits for more
abbrev pub taken_of_len : Bool → Stream → ℕ → State → Option ℕ → List Input
taken_of_len is_lent stream now t None = []
taken_of_len is_lent stream now t (Some len) = stream_input is_lent stream (take len stream.bytes) now t ∷ []

abbrev pub frame_taken : Bool → Stream → ℕ → State → List Input
frame_taken is_lent stream now t =
    if begins_no_frame stream.bytes then [] else taken_of_len is_lent stream now t (frame_len stream.bytes)

-- a frame, or all bytes of a bound stream; the stream is taken out: in this state it holds nothing
abbrev pub taken_in : Bool → Stream → ℕ → State → List Input
taken_in is_lent stream now t = by stream.mode
  where
    by : Mode → List Input
    by Control = frame_taken is_lent stream now t
    by Waiting = frame_taken is_lent stream now t
    by (Bound peer) = stream_input is_lent stream stream.bytes now t ∷ []
    by Broken = []

abbrev pub stream_inputs_taken : Bool → Stream → ℕ → State → List Input
stream_inputs_taken is_lent stream now s = taken_in is_lent stream now (with_bytes stream.local [] s)

-- ---- all streams

-- until a payload
abbrev pub unless_given : Option Payload → List Input → List Input
unless_given (Some payload) later = []
unless_given None later = later

abbrev pub taken_first : (State → List Input) → ℕ → State → Option Stream → List Input
taken_first next now s None = []
taken_first next now s (Some stream) =
    stream_inputs_taken false stream now s ++ unless_given (payload_in (next_frame_step stream now s).0) (next (next_frame_step stream now s).1)

unfoldable pub inputs_taken : ℕ → ℕ → State → List Input
inputs_taken zero now s = []
inputs_taken (suc n) now s = taken_first (inputs_taken n now) now s (find is_ready s.streams)

abbrev pub poll_recv_inputs : ℕ → State → List Input
poll_recv_inputs now s = inputs_taken (max_steps s) now s

-- ---- a piece of a stream

-- without a payload or an ICMP report, all streams are processed
abbrev pub then_taken : ℕ → Outcome × State → List Input
then_taken now (PeerData payload, s) = []
then_taken now (PeerIcmp transport peer icmp, s) = []
then_taken now (_, s) = poll_recv_inputs now s

-- if the stream is empty, the piece comes first
abbrev pub is_front : List ℕ → Bool
is_front [] = true
is_front waited = false

abbrev pub fed_taken : Stream → List ℕ → ℕ → State → List Input
fed_taken stream piece now s = stream_inputs_taken (is_front stream.bytes) (stream_with_piece stream piece) now s

abbrev pub piece_inputs : Stream → List ℕ → ℕ → State → List Input
piece_inputs stream piece now s = by stream.mode
  where
    by : Mode → List Input
    by Control = fed_taken stream piece now s ++ then_taken now (first_frame_step stream piece now s)
    by Waiting = fed_taken stream piece now s
    by (Bound peer) = fed_taken stream piece now s
    by Broken = if same_address stream.local s.local then poll_recv_inputs now s else []

-- an empty piece has no inputs
abbrev pub stream_inputs : Stream → List ℕ → ℕ → State → List Input
stream_inputs stream [] now s = []
stream_inputs stream piece now s = piece_inputs stream piece now s

-- ---- a call

abbrev pub datagram_input : List ℕ → ℕ → State → Input
datagram_input bytes now s = record { stream = None; bytes = bytes; is_lent = true; time = now; before = s }

abbrev pub recv_inputs : TransportType → SocketAddr → SocketAddr → List ℕ → ℕ → State → List Input
recv_inputs transport from to bytes now s = if is_from_server transport from s then by s.transport (stream_at to s) else []
  where
    by : TransportType → Option Stream → List Input
    by Udp _ = if same_address to s.local then datagram_input bytes now s ∷ [] else []
    by Tcp (Some stream) = stream_inputs stream bytes now s
    by Tcp None = []

-- all inputs that a call processes, in order
abbrev pub handled : Call → State → List Input
handled (Recv packet now) s = recv_inputs packet.transport packet.from packet.to packet.payload now s
handled (PollRecv now) s = poll_recv_inputs now s
handled _ s = []

-- the payloads of all inputs that the call processes
abbrev pub payloads_by : Call → State → List Payload
payloads_by call s = payloads (handled call s)
