-- One stream of a client over TCP as frames that are processed one after the other, in whatever pieces they
-- are received (RFC 8656, section 12.5; RFC 6062, section 4.3).
use Rattle.std.specs.Prelude.{◌≡◌, ◌≢◌, ℕ, zero, suc, ◌+◌, ◌==◌, Bool, true, false, if◌then◌else◌, List, [], ◌∷◌, ◌++◌, All, drop, find, flat_map, length, map}
use Rattle.std.specs.Prelude.{take, Option, Some, None, MatchOption, option_to_list}
use Rattle.std.specs.List.{concat}
use Rattle.std.specs.Option.{option_map_or}
use Rattle.std.specs.declared.net.socket_addr.SocketAddr.{SocketAddr}
use Rattle.turn_stun.specs.declared.transport.Transmit.{Transmit}
use Rattle.turn_stun.specs.declared.transport.TransportType.TheVariants.{Tcp}
use Rattle.turn_types.specs.Cuts.{Drained, behind, drained}
use Rattle.turn_types.specs.Frames.{begins_no_frame, frame_len}
use Rattle.turn_types.specs.Streams as T
use Rattle.turn_client_api.specs.State.{State}
use Rattle.turn_client_api.specs.declared.state.Mode.{Mode}
use Rattle.turn_client_api.specs.declared.state.Mode.TheVariants.{Control, Waiting, Bound, Broken}
use Rattle.turn_client_api.specs.declared.state.Stream.{Stream}
use Rattle.turn_client_api.specs.declared.call.Call.{Call}
use Rattle.turn_client_api.specs.declared.call.Call.TheVariants.{Recv, PollRecv}
use Rattle.turn_client_api.specs.Payloads.{Payload, Outcome, PeerData}
use Rattle.turn_client_api.specs.Streams.{broken_at, frame_step, is_ready, max_steps, poll_recv_step, sent_by, stream_at, with_bytes}
use Rattle.turn_client_api.specs.Receive.{recv_step}
use Rattle.turn_client_api.specs.Steps.{packet_step, state_after, state_after_all}
use Rattle.turn_client_laws.specs.LawsStreams.{AreApart}

-- ---- the whole of what is received

-- what the bytes of a stream are
abbrev pub meant : Mode → T.Mode
meant Control = T.Framed
meant Waiting = T.Framed
meant (Bound peer) = T.Bound
meant Broken = T.Broken

-- if no stream is at this local address, its bytes are dropped
abbrev pub mode_at : SocketAddr → State → T.Mode
mode_at local s = option_map_or (λ stream. meant stream.mode) (stream_at local s) T.Broken

-- a payload of a peer, owned, or nothing
abbrev pub outcome_payloads : Outcome → List Payload
outcome_payloads (PeerData payload) = record payload { place = None } ∷ []
outcome_payloads _ = []

-- A whole frame has four bytes at least. A byte alone is one with which no frame begins: it breaks the
-- stream.
abbrev pub framed_step : Stream → List ℕ → ℕ → State → State × List Payload
framed_step stream frame now s =
    if length frame == 1 then (broken_at stream.local s, [])
    else ((frame_step stream frame now s).1, outcome_payloads (frame_step stream frame now s).0)

-- the effect of one frame of a stream, or of one byte of a bound one, and what it returns
abbrev pub part_step : Stream → List ℕ → ℕ → State → State × List Payload
part_step stream part now s = by stream.mode
  where
    by : Mode → State × List Payload
    by Control = framed_step stream part now s
    by Waiting = framed_step stream part now s
    by (Bound peer) = (s, sent_by peer part None ∷ [])
    by Broken = (s, [])

abbrev pub part_at_step : SocketAddr → ℕ → State → List ℕ → State × List Payload
part_at_step local now s part = option_map_or (λ stream. part_step stream part now s) (stream_at local s) (s, [])

-- The parts of these bytes, each processed in the state that the one before left, in which the stream holds
-- nothing. The mode is read anew for each part.
abbrev pub whole : SocketAddr → ℕ → State → List ℕ → Drained State Payload
whole local now s bytes = drained (λ t. T.size_in (mode_at local t)) (part_at_step local now) s bytes

-- ---- the whole, read from its start

-- nothing is returned, and these bytes are left
abbrev pub left : State → List ℕ → Drained State Payload
left s rest = record { state = s; given = []; rest = rest }

-- the first frame has so many bytes: what it returns, and then the bytes after it
abbrev pub after_frame : SocketAddr → Stream → ℕ → ℕ → State → List ℕ → Drained State Payload
after_frame local stream len now s bytes =
    let p = frame_step stream (take len bytes) now s in behind (outcome_payloads p.0) (whole local now p.1 (drop len bytes))

-- bytes that no frame begins with break the stream, and less than a frame is left
abbrev pub framed_whole : SocketAddr → Stream → ℕ → State → List ℕ → Drained State Payload
framed_whole local stream now s bytes = if begins_no_frame bytes then left (broken_at local s) [] else by (frame_len bytes)
  where
    by : Option ℕ → Drained State Payload
    by None = left s bytes
    by (Some len) = after_frame local stream len now s bytes

-- by the mode of this stream; each byte of a bound stream is the peer's
abbrev pub whole_in : SocketAddr → Stream → ℕ → State → List ℕ → Drained State Payload
whole_in local stream now s bytes = by stream.mode
  where
    by : Mode → Drained State Payload
    by Control = framed_whole local stream now s bytes
    by Waiting = framed_whole local stream now s bytes
    by (Bound peer) = record { state = s; given = map (λ b. sent_by peer (b ∷ []) None) bytes; rest = [] }
    by Broken = left s []

-- if there is no stream, nothing is returned, and nothing is left
abbrev pub read_from_front : SocketAddr → ℕ → State → List ℕ → Drained State Payload
read_from_front local now s bytes = option_map_or (λ stream. whole_in local stream now s bytes) (stream_at local s) (left s [])

-- ---- after buffered bytes

-- the buffered bytes of the stream at this local address
abbrev pub bytes_at : SocketAddr → State → List ℕ
bytes_at local s = option_map_or (λ stream. stream.bytes) (stream_at local s) []

-- these bytes follow the buffered ones: the payloads, and the state after them, with its rest
abbrev pub whole_of : SocketAddr → ℕ → State → List ℕ → List Payload × State
whole_of local now s bytes =
    let d = whole local now (with_bytes local [] s) (bytes_at local s ++ bytes) in (d.given, with_bytes local d.rest d.state)

-- ---- what pieces return

abbrev pub and_then : (State → List Payload × State) → Option Payload × State → List Payload × State
and_then next (None, t) = ([], t)
and_then next (Some payload, t) = (payload ∷ (next t).0, (next t).1)

-- polled up to the first none, at most so often
unfoldable pub polled_until_none : ℕ → ℕ → State → List Payload × State
polled_until_none zero now s = ([], s)
polled_until_none (suc n) now s = and_then (polled_until_none n now) (poll_recv_step now s)

-- a piece is received from the server for this local address, and then the client is polled
abbrev pub fed_piece : SocketAddr → List ℕ → ℕ → State → List Payload × State
fed_piece local piece now s =
    let came = recv_step Tcp s.remote local piece now s in
    let more = polled_until_none (max_steps came.1 + 1) now came.1 in
    (outcome_payloads came.0 ++ more.0, more.1)

unfoldable pub fed_pieces : SocketAddr → List (List ℕ) → ℕ → State → List Payload × State
fed_pieces local [] now s = ([], s)
fed_pieces local (piece ∷ pieces) now s =
    let one = fed_piece local piece now s in
    let others = fed_pieces local pieces now one.1 in
    (one.0 ++ others.0, others.1)

abbrev pub is_control_stream : Option Stream → Bool
is_control_stream None = false
is_control_stream (Some stream) = by stream.mode
  where
    by : Mode → Bool
    by Control = true
    by _ = false

-- payloads of the control connection count one by one, those of a data connection byte by byte
abbrev pub one_by_one : Bool → Payload → List Payload
one_by_one is_control_stream payload =
    if is_control_stream then payload ∷ [] else map (λ b. sent_by payload.peer (b ∷ []) None) payload.bytes

abbrev pub joined : SocketAddr → State → List Payload → List Payload
joined local s payloads = flat_map (one_by_one (is_control_stream (stream_at local s))) payloads

-- Pieces of a stream return what all their bytes return, and leave the state that these leave.
abbrev pub IsSameForAnyCut : SocketAddr → List (List ℕ) → ℕ → State → Type 0
IsSameForAnyCut local pieces now s =
    (joined local s (fed_pieces local pieces now s).0 ≡ (whole_of local now s (concat pieces)).0)
    × ((fed_pieces local pieces now s).1 ≡ (whole_of local now s (concat pieces)).1)

-- a client over TCP that processes nothing before more is received
pub record AwaitsBytes (s : State) : Type 0 where
  pub transport : s.transport ≡ Tcp
  pub apart : AreApart s
  pub none_ready : find is_ready s.streams ≡ None

-- once it is polled and returns nothing, it is quiet
abbrev pub GetsQuiet : State → Type 0
GetsQuiet s = (now : ℕ) → (poll_recv_step now s).0 ≡ None → AwaitsBytes (poll_recv_step now s).1

-- no piece is the empty one, which ends a stream
abbrev pub AreNonempty : List (List ℕ) → Type 0
AreNonempty pieces = All (λ piece. piece ≢ []) pieces

-- ---- the same as calls of a run

abbrev pub given_in : Call → State → List Payload
given_in (Recv packet now) s = outcome_payloads (packet_step packet now s).0
given_in (PollRecv now) s = option_to_list (poll_recv_step now s).0
given_in _ s = []

-- the data of peers that the calls return, one after the other
abbrev pub given_in_run : State → List Call → List Payload
given_in_run s [] = []
given_in_run s (call ∷ calls) = given_in call s ++ given_in_run (state_after call s) calls

-- calls of `poll_recv` at this time, up to the first that returns nothing
abbrev pub ArePolls : ℕ → List Call → State → Type 0
ArePolls now [] s = ⊥
ArePolls now (call ∷ calls) s =
    (call ≡ PollRecv now)
    × MatchOption (poll_recv_step now s).0 (calls ≡ []) (λ payload. ArePolls now calls (poll_recv_step now s).1)

-- from the server, for this local address
abbrev pub packet_with_piece : SocketAddr → List ℕ → State → Transmit (List ℕ)
packet_with_piece local piece s = record { payload = piece; transport = Tcp; from = s.remote; to = local }

-- each piece is received, none of them empty, and then the client is polled, all at this time
abbrev pub ArePieces : SocketAddr → List (List ℕ) → ℕ → List Call → State → Type 0
ArePieces local [] now calls s = calls ≡ []
ArePieces local (piece ∷ pieces) now calls s =
    (polls : List Call) × (later : List Call) × (calls ≡ Recv (packet_with_piece local piece s) now ∷ (polls ++ later)) × (piece ≢ [])
    × ArePolls now polls (recv_step Tcp s.remote local piece now s).1
    × ArePieces local pieces now later (state_after_all (recv_step Tcp s.remote local piece now s).1 polls)

-- Such calls return what all their bytes return, and leave the state that these leave.
abbrev pub IsSameInRuns : SocketAddr → List (List ℕ) → ℕ → State → Type 0
IsSameInRuns local pieces now s =
    (calls : List Call) → ArePieces local pieces now calls s →
    (joined local s (given_in_run s calls) ≡ (whole_of local now s (concat pieces)).0)
    × (state_after_all s calls ≡ (whole_of local now s (concat pieces)).1)
