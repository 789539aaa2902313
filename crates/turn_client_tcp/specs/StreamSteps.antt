-- The next frames of streams that are taken out, and the data that they give.
use Rattle.std.specs.Prelude.{◌≡◌, ◌⊎◌, ◌≤◌, ◌++◌, ℕ, List, length, slice_range, Option, Some, None, IsSomeAnd, Bool, true, if◌then◌else◌, ⊤}
use Rattle.std.specs.Option.{option_map_or}
use Rattle.std.specs.declared.ops.Range.{Range}
use Rattle.std.specs.declared.net.socket_addr.SocketAddr.{SocketAddr}
use Rattle.turn_stun.specs.declared.transport.Transmit.{Transmit}
use Rattle.turn_types.specs.declared.tcp.incoming.IncomingTcp.{IncomingTcp}
use Rattle.turn_types.specs.declared.tcp.incoming.IncomingTcp.TheVariants.{CompleteMessage, CompleteChannel, StoredMessage, StoredChannel}
use Rattle.turn_agent.specs.Agent.{same_address}
use Rattle.turn_client_api.specs.Answers.{EndsAfterSteps, stream_takes_none}
use Rattle.turn_client_api.specs.Effect.{closed}
use Rattle.turn_client_api.specs.Streams.{stream_with_piece, broken_at, framed_stream_step, owned, payload_in, sent_by, stream_at, with_bytes}
use Rattle.turn_client_api.specs.Payloads.{Payload, Outcome, Handled, Ignored, PeerData, PeerIcmp}
use Rattle.turn_client_api.specs.Receive.{broken_step, place_kept, stream_step, then_all, whole_piece}
use Rattle.turn_client_api.specs.State.{State}
use Rattle.turn_client_api.specs.declared.state.Mode.{Mode}
use Rattle.turn_client_api.specs.declared.state.Mode.TheVariants.{Control, Waiting, Bound, Broken}
use Rattle.turn_client_api.specs.declared.state.Stream.{Stream}
use Rattle.turn_client_streams.specs.Buffered.{is_broken_mode}
use Rattle.turn_client_tcp.specs.declared.received.Received.{Received}

-- what was buffered in a stream is returned owned
abbrev pub owned_payload : Outcome → Option Payload
owned_payload outcome = payload_in (owned outcome)

abbrev pub received_payload : Received → Payload
received_payload r = record { transport = r.transport; peer = r.peer; bytes = r.bytes.items; place = None }

-- ---- a piece of a stream

-- the packet that the first frame was received with
module _ {T : Type 0} where
  abbrev pub came_with : IncomingTcp T → Transmit T
  came_with (CompleteMessage transmit range) = transmit
  came_with (CompleteChannel transmit range) = transmit
  came_with (StoredMessage frame transmit) = transmit
  came_with (StoredChannel frame transmit) = transmit

  -- a part of the packet is borrowed, and what was buffered is owned
  abbrev pub given_as : IncomingTcp T → Outcome → Outcome
  given_as (CompleteMessage transmit range) outcome = outcome
  given_as (CompleteChannel transmit range) outcome = outcome
  given_as (StoredMessage frame transmit) outcome = owned outcome
  given_as (StoredChannel frame transmit) outcome = owned outcome

  -- a part is at the start of the received bytes
  abbrev pub IsFront : (T → List ℕ) → IncomingTcp T → Type 0
  IsFront items (CompleteMessage transmit range) = (range.start ≡ 0) × (range.end ≤ length (items transmit.payload))
  IsFront items (CompleteChannel transmit range) = (range.start ≡ 0) × (range.end ≤ length (items transmit.payload))
  IsFront items (StoredMessage frame transmit) = ⊤
  IsFront items (StoredChannel frame transmit) = ⊤

-- this range of the bytes
abbrev pub bytes_in_range : List ℕ → Range ℕ → List ℕ
bytes_in_range bytes range = slice_range bytes range.start range.end

-- the bytes of this stream, which was taken out, are put back there
abbrev pub left_by : Stream → State → State
left_by stream t = with_bytes stream.local stream.bytes t

-- all that was received over a stream that is bound to this peer
abbrev pub bound_sent : SocketAddr → List ℕ → List ℕ → Payload
bound_sent peer waited piece = sent_by peer (waited ++ piece) (whole_piece waited piece)

-- a stream without a whole first frame waits for more bytes, or is broken
abbrev pub put_or_broken : Stream → State → State
put_or_broken stream t = if is_broken_mode stream.mode then broken_at stream.local t else left_by stream t

-- the first frame of a stream of frames, which is taken out, after the piece was appended
abbrev pub fed_frame_step : Stream → List ℕ → ℕ → State → Outcome × State
fed_frame_step stream piece now t =
    let step = framed_stream_step (stream_with_piece stream piece) now t in (place_kept stream.bytes step.0, step.1)

-- the effect of a piece of a stream that is taken out: a broken one is put back
abbrev pub whole_piece_step : Stream → List ℕ → ℕ → State → Outcome × State
whole_piece_step stream piece now t = by stream.mode
  where
    by : Mode → Outcome × State
    by Control = then_all now (fed_frame_step stream piece now t)
    by Waiting = fed_frame_step stream piece now t
    by (Bound peer) = (PeerData (bound_sent peer stream.bytes piece), t)
    by Broken = broken_step stream now (left_by stream t)

-- the state in which all streams are processed, unless something of a peer was received
abbrev pub others_from : Outcome × State → Option State
others_from (PeerData payload, t) = None
others_from (PeerIcmp transport peer icmp, t) = None
others_from (Handled, t) = Some t
others_from (Ignored, t) = Some t

abbrev pub EndsBehind : ℕ → Outcome × State → State → Type 0
EndsBehind now p s = IsSomeAnd (others_from p) (λ t. EndsAfterSteps now t s)

-- memory allocation failed for the piece, or for bytes of other streams, which are processed after a piece of
-- the control stream, also if that is broken
abbrev pub PieceEnds : Stream → List ℕ → ℕ → State → State → Type 0
PieceEnds stream piece now t s =
    (s ≡ closed (broken_at stream.local t))
    ⊎ ((stream.mode ≡ Control) × EndsBehind now (fed_frame_step stream piece now t) s)
    ⊎ ((is_broken_mode stream.mode ≡ true) × (same_address stream.local t.local ≡ true) × EndsAfterSteps now (left_by stream t) s)

-- a piece for this local address
abbrev pub piece_at : SocketAddr → List ℕ → ℕ → State → Outcome × State
piece_at to piece now s = option_map_or (λ stream. stream_step stream piece now s) (stream_at to s) (Ignored, s)

-- bytes of a broken stream at this local address: all other streams are processed if it is the control stream
abbrev pub broken_piece_step : SocketAddr → ℕ → State → Outcome × State
broken_piece_step local now s = if same_address local s.local then then_all now (Handled, s) else (Handled, s)

-- for the stream at this local address it allocates no memory
abbrev pub piece_takes_none : SocketAddr → List ℕ → State → Bool
piece_takes_none to piece s = option_map_or (stream_takes_none piece s) (stream_at to s) true
