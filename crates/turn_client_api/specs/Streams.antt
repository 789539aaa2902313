-- The streams of a client over TCP, cut into frames (RFC 8656, section 12.5, and RFC 6062).
use Rattle.std.specs.Prelude.{◌≢◌, ◌<◌, ℕ, zero, suc, Bool, true, false, not, if◌then◌else◌}
use Rattle.std.specs.Prelude.{List, [], ◌++◌, map, filter, find, sum_by, length, take, drop, Option}
use Rattle.std.specs.Prelude.{Some, None, is_some}
use Rattle.std.specs.declared.ops.Range.{Range}
use Rattle.std.specs.declared.net.socket_addr.SocketAddr.{SocketAddr}
use Rattle.turn_stun.specs.declared.transport.TransportType.TheVariants.{Tcp}
use Rattle.turn_types.specs.Frames.{begins_message, begins_no_frame, frame_len}
use Rattle.turn_agent.specs.Agent.{same_address}
use Rattle.turn_client_api.specs.State.{State, Mode, Control, Waiting, Bound, Broken, Stream}
use Rattle.turn_client_api.specs.Connections.{bind_step}
use Rattle.turn_client_api.specs.Payloads.{Payload, Outcome, Handled, Ignored, PeerData, PeerIcmp, channel_sent, is_message, message_step}

-- ---- the list of streams

abbrev pub stream_at : SocketAddr → State → Option Stream
stream_at local s = find (λ stream. same_address stream.local local) s.streams

abbrev pub without_stream : SocketAddr → State → State
without_stream local s = record s { streams = filter (λ stream. not (same_address stream.local local)) s.streams }

-- the stream at this local address has these bytes now
abbrev pub with_bytes : SocketAddr → List ℕ → State → State
with_bytes local bytes s = record s { streams = map by s.streams }
  where
    by : Stream → Stream
    by stream = if same_address stream.local local then record stream { bytes = bytes } else stream

-- nothing more is read from the stream at this local address, and its buffered bytes are dropped
abbrev pub broken_at : SocketAddr → State → State
broken_at local s = record s { streams = map by s.streams }
  where
    by : Stream → Stream
    by stream = if same_address stream.local local then record stream { mode = Broken; bytes = [] } else stream

-- the piece is appended to the buffered bytes
abbrev pub stream_with_piece : Stream → List ℕ → Stream
stream_with_piece stream piece = record stream { bytes = stream.bytes ++ piece }

-- ---- one whole frame

-- bytes that were buffered in a stream are returned owned
abbrev pub owned : Outcome → Outcome
owned (PeerData payload) = PeerData (record payload { place = None })
owned outcome = outcome

-- what does not parse as a message is dropped, and counts as handled
abbrev pub control_frame_step : List ℕ → ℕ → State → Outcome × State
control_frame_step frame now s =
    if not (begins_message frame) then (channel_sent s frame, s)
    else (if is_message frame then message_step frame now s
    else (Handled, s))

-- on a connection that waits to be bound only messages are processed
abbrev pub waiting_frame_step : SocketAddr → List ℕ → ℕ → State → Outcome × State
waiting_frame_step local frame now s =
    if not (begins_message frame) then (Ignored, s)
    else (if is_message frame then (Handled, bind_step local frame now s)
    else (Handled, s))

abbrev pub sent_by : SocketAddr → List ℕ → Option (Range ℕ) → Payload
sent_by peer bytes place = record { transport = Tcp; peer = peer; bytes = bytes; place = place }

-- all of these bytes
abbrev pub all_of : List ℕ → Option (Range ℕ)
all_of bytes = Some (record { start = 0; end = length bytes })

-- the effect of one whole frame of a stream, or of the bytes of a bound one; a payload has its place in
-- these bytes
abbrev pub frame_step : Stream → List ℕ → ℕ → State → Outcome × State
frame_step stream frame now s = by stream.mode
  where
    by : Mode → Outcome × State
    by Control = control_frame_step frame now s
    by Waiting = waiting_frame_step stream.local frame now s
    by (Bound peer) = (PeerData (sent_by peer frame (all_of frame)), s)
    by Broken = (Handled, s)

-- ---- a step of a stream

-- how many bytes are processed next, or nothing if a stream has to wait for more
abbrev pub ready_len : Stream → Option ℕ
ready_len stream = by stream.mode stream.bytes
  where
    framed : List ℕ → Option ℕ
    framed bytes = if begins_no_frame bytes then Some (length bytes) else frame_len bytes

    by : Mode → List ℕ → Option ℕ
    by Control bytes = framed bytes
    by Waiting bytes = framed bytes
    by (Bound peer) [] = None
    by (Bound peer) bytes = Some (length bytes)
    by Broken bytes = None

abbrev pub is_ready : Stream → Bool
is_ready stream = is_some (ready_len stream)

-- unless it is broken, it holds no more than the longest frame, a message of 65,555 bytes
abbrev pub HoldsLittle : Stream → Type 0
HoldsLittle stream = stream.mode ≢ Broken → length stream.bytes < 65556

abbrev pub is_bound : Mode → Bool
is_bound (Bound peer) = true
is_bound _ = false

-- the remaining bytes go back into the stream
abbrev pub put_back : SocketAddr → List ℕ → Outcome × State → Outcome × State
put_back local bytes p = (p.0, with_bytes local bytes p.1)

-- the first frame has so many bytes, or the stream waits for more
abbrev pub framed_by : Stream → ℕ → State → Option ℕ → Outcome × State
framed_by stream now t None = (Handled, with_bytes stream.local stream.bytes t)
framed_by stream now t (Some len) =
    put_back stream.local (drop len stream.bytes) (frame_step stream (take len stream.bytes) now t)

-- bytes that no frame begins with break the stream when they are processed (our choice: where the next
-- frame begins can't be known)
abbrev pub framed_stream_step : Stream → ℕ → State → Outcome × State
framed_stream_step stream now t =
    if begins_no_frame stream.bytes then (Handled, broken_at stream.local t)
    else framed_by stream now t (frame_len stream.bytes)

-- a step of a stream that is taken out: in this state it holds nothing
abbrev pub detached_frame_step : Stream → ℕ → State → Outcome × State
detached_frame_step stream now t = by stream.mode
  where
    by : Mode → Outcome × State
    by Control = framed_stream_step stream now t
    by Waiting = framed_stream_step stream now t
    by (Bound peer) = (PeerData (sent_by peer stream.bytes None), t)
    by Broken = (Handled, t)

-- one frame of a stream, or all bytes of a bound one: they are taken out of the stream first
abbrev pub next_frame_step : Stream → ℕ → State → Outcome × State
next_frame_step stream now s = detached_frame_step stream now (with_bytes stream.local [] s)

-- ---- all streams, in the order in which they were opened

-- until a payload
abbrev pub go_on : (State → Option Payload × State) → Outcome × State → Option Payload × State
go_on next (PeerData payload, s) = (Some (record payload { place = None }), s)
go_on next (Handled, s) = next s
go_on next (Ignored, s) = next s
go_on next (PeerIcmp transport peer icmp, s) = next s

abbrev pub first_ready_step : (State → Option Payload × State) → ℕ → State → Option Stream → Option Payload × State
first_ready_step next now s None = (None, s)
first_ready_step next now s (Some stream) = go_on next (next_frame_step stream now s)

-- so many steps, each of the first stream that is ready, or as many as there are until a payload; an ICMP
-- report is dropped here
unfoldable pub steps_until_payload : ℕ → ℕ → State → Option Payload × State
steps_until_payload zero now s = (None, s)
steps_until_payload (suc n) now s = first_ready_step (steps_until_payload n now) now s (find is_ready s.streams)

-- each step takes a byte at least
abbrev pub max_steps : State → ℕ
max_steps s = sum_by (λ stream. length stream.bytes) s.streams

-- the next payload in the streams
abbrev pub poll_recv_step : ℕ → State → Option Payload × State
poll_recv_step now s = steps_until_payload (max_steps s) now s

abbrev pub payload_in : Outcome → Option Payload
payload_in (PeerData payload) = Some payload
payload_in _ = None
