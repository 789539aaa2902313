-- Where the bytes of an input lie, when it is processed, and that its stream stands in the state.
use Rattle.turn_client_laws.proofs.Common.{◌≡◌, ◌⊎◌, ◌++◌, ℕ, zero, suc, Bool, true, false, cond, map, List, [], ◌∷◌, Option, Some, None, refl, sym, subst, ◌∙◌, inl, inr, find, take, Contains}
use Rattle.turn_client_laws.proofs.Common.{SocketAddr}
use Rattle.turn_client_laws.proofs.Machine.{Transmit, begins_no_frame, frame_len, same_address, State, Call, Recv, PollRecv, Mode, Control, Bound, Broken, Stream, stream_with_piece, is_ready}
use Rattle.turn_client_laws.proofs.Machine.{max_steps, payload_in, next_frame_step, with_bytes, Payload, Outcome, Handled, Ignored, first_frame_step, Has, has-append, has-found, map-has}
use Rattle.turn_client_laws.proofs.Laws.{Input, fed_taken, frame_taken, handled, is_front, piece_inputs, poll_recv_inputs, stream_inputs, stream_inputs_taken, stream_input, taken_first, taken_in}
use Rattle.turn_client_laws.proofs.Laws.{taken_of_len, then_taken, inputs_taken, unless_given, packet-by, contains-has, has-contains}
use Rattle.turn_client_runs.specs.Granted.{ComesIn, IsNextOf}

-- ---- the stream is in the state, with its local address and its mode

abbrev pub Stands : Stream → State → Type 0
Stands stream s = (x : Stream) × Contains s.streams x × (x.local ≡ stream.local) × (x.mode ≡ stream.mode)

-- bytes do not count
emptied-stands : (a : SocketAddr) (bytes : List ℕ) (stream : Stream) (s : State) → Stands stream s → Stands stream (with_bytes a bytes s)
emptied-stands a bytes stream s (x, there, at, mode) =
    let (ends, means) = by (same_address x.local a) in
    (f x, has-contains (f x) (map f s.streams) (map-has f x s.streams (contains-has x s.streams there)), ends, means)
  where
    f : Stream → Stream
    f z = cond (same_address z.local a) (record z { bytes = bytes }) z

    by : (b : Bool) → ((cond b (record x { bytes = bytes }) x).local ≡ stream.local) × ((cond b (record x { bytes = bytes }) x).mode ≡ stream.mode)
    by true = (at, mode)
    by false = (at, mode)

found-stands : (p : Stream → Bool) (stream : Stream) (s : State) → find p s.streams ≡ Some stream → Stands stream s
found-stands p stream s e = (stream, has-contains stream s.streams (has-found p stream s.streams e).0, refl, refl)

-- ---- steps of streams

-- it is processed now, and is first in its stream, which stands in the state just before it
record IsFrame (now : ℕ) (one : Input) : Type 0 where
  at : one.time ≡ now
  stream : Stream
  of : one.stream ≡ Some stream
  front : IsNextOf stream one.bytes
  stands : Stands stream one.before

module _ (now : ℕ) where
  abbrev AllFrames : List Input → Type 0
  AllFrames inputs = (one : Input) → Has one inputs → IsFrame now one

  no-frames : AllFrames []
  no-frames one none = absurd none

  joined-frames : (xs ys : List Input) → AllFrames xs → AllFrames ys → AllFrames (xs ++ ys)
  joined-frames xs ys k l one there = elim (has-append one xs ys there) [ inl h ↦ k one h | inr h ↦ l one h ]

  one-frame : (is_lent : Bool) (stream : Stream) (bytes : List ℕ) (t : State) → IsNextOf stream bytes → Stands stream t
      → AllFrames (stream_input is_lent stream bytes now t ∷ [])
  one-frame is_lent stream bytes t front stands one (inl e) = rw e (record { at = refl; stream = stream; of = refl; front = front; stands = stands })
  one-frame is_lent stream bytes t front stands one (inr none) = absurd none

  -- the first whole frame comes next
  abbrev FrameNext : Stream → Type 0
  FrameNext stream = (len : ℕ) → frame_len stream.bytes ≡ Some len → IsNextOf stream (take len stream.bytes)

  front-frames : (is_lent : Bool) (stream : Stream) (t : State) → FrameNext stream → Stands stream t → AllFrames (frame_taken is_lent stream now t)
  front-frames is_lent stream t next stands = by (begins_no_frame stream.bytes) (frame_len stream.bytes) refl
    where
      by : (b : Bool) (o : Option ℕ) → frame_len stream.bytes ≡ o → AllFrames (cond b [] (taken_of_len is_lent stream now t o))
      by false (Some len) e = one-frame is_lent stream (take len stream.bytes) t (next len e) stands
      by b o e = no-frames

  mode-frames : (m : Mode) (is_lent : Bool) (stream : Stream) (t : State) → Stands (record stream { mode = m }) t
      → AllFrames (taken_in is_lent (record stream { mode = m }) now t)
  mode-frames (Bound peer) is_lent stream t stands =
      one-frame is_lent (record stream { mode = Bound peer }) stream.bytes t refl stands
  mode-frames Broken is_lent stream t stands = no-frames
  mode-frames m is_lent stream t stands = front-frames is_lent (record stream { mode = m }) t (λ len e. (len, e, refl)) stands

  taken-frames : (is_lent : Bool) (stream : Stream) (s : State) → Stands stream s → AllFrames (stream_inputs_taken is_lent stream now s)
  taken-frames is_lent stream s stands = mode-frames stream.mode is_lent stream (with_bytes stream.local [] s) (emptied-stands stream.local [] stream s stands)

  unless-frames : (o : Option Payload) (later : List Input) → AllFrames later → AllFrames (unless_given o later)
  unless-frames (Some payload) later k = no-frames
  unless-frames None later k = k

  steps-frames : (n : ℕ) (s : State) → AllFrames (inputs_taken n now s)
  unfolding inputs_taken
  steps-frames zero s = no-frames
  steps-frames (suc n) s = by (find is_ready s.streams) refl (λ t. steps-frames n t)
    where
      by : (o : Option Stream) → find is_ready s.streams ≡ o → ((t : State) → AllFrames (inputs_taken n now t))
          → AllFrames (taken_first (inputs_taken n now) now s o)
      by None e more = no-frames
      by (Some stream) e more =
          joined-frames _ _ (taken-frames false stream s (found-stands is_ready stream s e))
          (unless-frames (payload_in (next_frame_step stream now s).0) _ (more (next_frame_step stream now s).1))

  poll-frames : (s : State) → AllFrames (poll_recv_inputs now s)
  poll-frames s = steps-frames (max_steps s) s

  then-frames : (p : Outcome × State) → AllFrames (then_taken now p)
  then-frames (Handled, s) = poll-frames s
  then-frames (Ignored, s) = poll-frames s
  then-frames (_, s) = no-frames

  fed-frames : (stream : Stream) (piece : List ℕ) (s : State) → Stands stream s → AllFrames (fed_taken stream piece now s)
  fed-frames stream piece s stands = taken-frames (is_front stream.bytes) (stream_with_piece stream piece) s stands

  piece-frames : (m : Mode) (stream : Stream) (piece : List ℕ) (s : State) → Stands (record stream { mode = m }) s
      → AllFrames (piece_inputs (record stream { mode = m }) piece now s)
  piece-frames Control stream piece s stands =
      let u = record stream { mode = Control } in
      joined-frames _ _ (fed-frames u piece s stands) (then-frames (first_frame_step u piece now s))
  piece-frames Broken stream piece s stands =
      elim (same_address stream.local s.local) as (λ b. AllFrames (cond b (poll_recv_inputs now s) [])) [ true ↦ poll-frames s | false ↦ no-frames ]
  piece-frames m stream piece s stands = fed-frames (record stream { mode = m }) piece s stands

  stream-frames : (stream : Stream) (piece : List ℕ) (s : State) → Stands stream s → AllFrames (stream_inputs stream piece now s)
  stream-frames stream [] s stands = no-frames
  stream-frames stream (b ∷ bs) s stands = piece-frames stream.mode stream (b ∷ bs) s stands

  frame-stands : (one : Input) → IsFrame now one → (stream : Stream) → one.stream ≡ Some stream → Stands stream one.before
  frame-stands one frame stream is = let same : frame.stream ≡ stream = cc in subst (λ (x : Stream). Stands x one.before) same frame.stands

-- ---- a call

-- a datagram of no stream
abbrev IsDatagram : List ℕ → ℕ → Input → Type 0
IsDatagram payload now one = (one.time ≡ now) × (one.stream ≡ None) × (one.bytes ≡ payload)

recv-frames : (packet : Transmit (List ℕ)) (now : ℕ) (s : State) (one : Input) → Has one (handled (Recv packet now) s)
    → IsDatagram packet.payload now one ⊎ IsFrame now one
recv-frames packet now s =
    packet-by (λ s inputs r. (one : Input) → Has one inputs → IsDatagram packet.payload now one ⊎ IsFrame now one)
    packet.transport packet.from packet.to packet.payload now
    (λ s one there. elim there [ inl e ↦ inl (rw e (refl, refl, refl)) | inr none ↦ absurd none ])
    (λ stream s e one there. inr (stream-frames now stream packet.payload s (found-stands (λ x. same_address x.local packet.to) stream s e) one there))
    (λ s one none. absurd none) s

pub inputs-come : (call : Call) (s : State) (one : Input) → Has one (handled call s) → ComesIn call one
inputs-come (Recv packet now) s one there = elim (recv-frames packet now s one there) [
  | inl (at, none, whole) ↦ (at, rw none whole)
  | inr frame ↦ (frame.at, rw frame.of frame.front)
]
inputs-come (PollRecv now) s one there = let frame = poll-frames now s one there in (frame.at, rw frame.of frame.front)
inputs-come call s one none = absurd none

pub inputs-stand : (call : Call) (s : State) (one : Input) → Has one (handled call s) → (stream : Stream) → one.stream ≡ Some stream → Stands stream one.before
inputs-stand (Recv packet now) s one there stream is = elim (recv-frames packet now s one there) [
  | inl (at, none, whole) ↦ cc (sym none ∙ is)
  | inr frame ↦ frame-stands now one frame stream is
]
inputs-stand (PollRecv now) s one there stream is = frame-stands now one (poll-frames now s one there) stream is
inputs-stand call s one none stream is = absurd none
