-- What a call that takes input keeps of its state with the streams, and what holds of each of its inputs.
use Rattle.turn_client_laws.proofs.Common.{◌≡◌, ℕ, zero, suc, Bool, true, false, cond, List, [], ◌∷◌, ◌++◌, take, drop, Option, Some, None, refl, sym, subst, inl, inr, find, SocketAddr}
use Rattle.turn_client_laws.proofs.Machine.{Transmit, begins_no_frame, frame_len, same_address, State, Call, PollRecv, Recv, Mode, Bound, Broken, Control, Waiting, Stream, Handled, Ignored, Outcome}
use Rattle.turn_client_laws.proofs.Machine.{Payload, PeerData, connection_gone, first_frame_step, piece_step, stream_step, then_all, state_after, broken_at, detached_frame_step, first_ready_step}
use Rattle.turn_client_laws.proofs.Machine.{framed_by, go_on, is_ready, max_steps, next_frame_step, payload_in, poll_recv_step, steps_until_payload, with_bytes, without_stream, stream_with_piece, Has}
use Rattle.turn_client_laws.proofs.Machine.{has-append, has-found}
use Rattle.turn_client_laws.proofs.Laws.{Input, datagram_input, fed_taken, handled, inputs_taken, is_front, piece_inputs, poll_recv_inputs, processed, stream_input, stream_inputs, stream_inputs_taken}
use Rattle.turn_client_laws.proofs.Laws.{taken_first, taken_in, taken_of_len, then_taken, unless_given, TakesInput, packet-by}

-- a stream with this local address and this mode is there
abbrev pub IsThere : Stream → State → Type 0
IsThere stream s = (x : Stream) × Has x s.streams × (x.local ≡ stream.local) × (x.mode ≡ stream.mode)

pub found-there : (p : Stream → Bool) (stream : Stream) (s : State) → find p s.streams ≡ Some stream → IsThere stream s
found-there p stream s e = (stream, (has-found p stream s.streams e).0, refl, refl)

-- Of a claim on states, and one on inputs: the steps of streams keep the first, and it gives the second for a
-- frame of a stream that is there.
pub record KeepsStreams (P : State → Type 0) (Fine : Input → Type 0) : Type 0 where
  pub bytes : (local : SocketAddr) (bytes : List ℕ) (s : State) → P s → P (with_bytes local bytes s)
  pub broken : (local : SocketAddr) (s : State) → P s → P (broken_at local s)
  pub dropped : (local : SocketAddr) (s : State) → P s → P (without_stream local s)
  pub gone : (local : SocketAddr) (s : State) → P s → P (connection_gone local s)
  pub input : (one : Input) → Fine one → P one.before → P (processed one).1
  pub frame : (is_lent : Bool) (stream : Stream) (bytes : List ℕ) (now : ℕ) (s : State) → IsThere stream s → P s
      → Fine (stream_input is_lent stream bytes now (with_bytes stream.local [] s))
  pub datagram : (bytes : List ℕ) (now : ℕ) (s : State) → P s → Fine (datagram_input bytes now s)

module _ (P : State → Type 0) (Fine : Input → Type 0) (k : KeepsStreams P Fine) where
  abbrev pub AllFine : List Input → Type 0
  AllFine inputs = (one : Input) → Has one inputs → Fine one

  none-fine : AllFine []
  none-fine one there = absurd there

  one-fine : (x : Input) → Fine x → AllFine (x ∷ [])
  one-fine x fine one (inl e) = subst Fine (sym e) fine
  one-fine x fine one (inr none) = absurd none

  append-fine : (front later : List Input) → AllFine front → AllFine later → AllFine (front ++ later)
  append-fine front later first second one there = elim (has-append one front later there) [ inl here ↦ first one here | inr behind ↦ second one behind ]

  -- the claim holds after these inputs
  abbrev pub Goes : List Input → State → Type 0
  Goes inputs t = P t × AllFine inputs

  -- ---- the step of a stream

  detached_in_mode : (m : Mode) (l : Bool) (stream : Stream) (now : ℕ) (s : State) → IsThere (record stream { mode = m }) s → P s
      → Goes (taken_in l (record stream { mode = m }) now (with_bytes stream.local [] s)) (detached_frame_step (record stream { mode = m }) now (with_bytes stream.local [] s)).1
  detached_in_mode (Bound peer) l stream now s there h =
      (k.bytes stream.local [] s h, one-fine _ (k.frame l (record stream { mode = Bound peer }) stream.bytes now s there h))
  detached_in_mode Broken l stream now s there h = (k.bytes stream.local [] s h, none-fine)
  detached_in_mode m l stream now s there h = by (begins_no_frame stream.bytes) (frame_len stream.bytes)
    where
      u : Stream
      u = record stream { mode = m }

      t : State
      t = with_bytes stream.local [] s

      by : (b : Bool) (o : Option ℕ) → Goes (cond b [] (taken_of_len l u now t o)) (cond {A = Outcome × State} b (Handled, broken_at stream.local t) (framed_by u now t o)).1
      by true o = (k.broken stream.local t (k.bytes stream.local [] s h), none-fine)
      by false None = (k.bytes stream.local stream.bytes t (k.bytes stream.local [] s h), none-fine)
      by false (Some len) =
          let one = stream_input l u (take len stream.bytes) now t in
          let fine = k.frame l u (take len stream.bytes) now s there h in
          (k.bytes stream.local (drop len stream.bytes) (processed one).1 (k.input one fine (k.bytes stream.local [] s h)), one-fine one fine)

  step-goes : (l : Bool) (stream : Stream) (now : ℕ) (s : State) → IsThere stream s → P s → Goes (stream_inputs_taken l stream now s) (next_frame_step stream now s).1
  step-goes l stream now s there h = detached_in_mode stream.mode l stream now s there h

  -- ---- all streams

  go_on-goes : (next : State → Option Payload × State) (later : State → List Input) (front : List Input) (p : Outcome × State) → Goes front p.1
      → ((t : State) → P t → Goes (later t) (next t).1) → Goes (front ++ unless_given (payload_in p.0) (later p.1)) (go_on next p).1
  go_on-goes next later front (PeerData payload, t) first more = (first.0, append-fine front [] first.1 none-fine)
  go_on-goes next later front (_, t) first more = let second = more t first.0 in (second.0, append-fine front (later t) first.1 second.1)

  steps-go : (n now : ℕ) (s : State) → P s → Goes (inputs_taken n now s) (steps_until_payload n now s).1
  unfolding steps_until_payload inputs_taken
  steps-go zero now s h = (h, none-fine)
  steps-go (suc n) now s h = by (find is_ready s.streams) refl (λ t. steps-go n now t)
    where
      by : (o : Option Stream) → find is_ready s.streams ≡ o → ((t : State) → P t → Goes (inputs_taken n now t) (steps_until_payload n now t).1)
          → Goes (taken_first (inputs_taken n now) now s o) (first_ready_step (steps_until_payload n now) now s o).1
      by None e more = (h, none-fine)
      by (Some stream) e more =
          go_on-goes (steps_until_payload n now) (inputs_taken n now) (stream_inputs_taken false stream now s) (next_frame_step stream now s)
          (step-goes false stream now s (found-there is_ready stream s e) h) more

  poll_recv-goes : (now : ℕ) (s : State) → P s → Goes (poll_recv_inputs now s) (poll_recv_step now s).1
  poll_recv-goes now s h = steps-go (max_steps s) now s h

  -- ---- a piece of a stream

  then_all-goes : (now : ℕ) (front : List Input) (p : Outcome × State) → Goes front p.1 → Goes (front ++ then_taken now p) (then_all now p).1
  then_all-goes now front (Handled, t) first = let second = poll_recv-goes now t first.0 in (second.0, append-fine front (poll_recv_inputs now t) first.1 second.1)
  then_all-goes now front (Ignored, t) first = let second = poll_recv-goes now t first.0 in (second.0, append-fine front (poll_recv_inputs now t) first.1 second.1)
  then_all-goes now front (_, t) first = (first.0, append-fine front [] first.1 none-fine)

  fed-goes : (stream : Stream) (piece : List ℕ) (now : ℕ) (s : State) → IsThere stream s → P s → Goes (fed_taken stream piece now s) (first_frame_step stream piece now s).1
  fed-goes stream piece now s there h = step-goes (is_front stream.bytes) (stream_with_piece stream piece) now s there h

  piece_in_mode : (m : Mode) (stream : Stream) (piece : List ℕ) (now : ℕ) (s : State) → IsThere (record stream { mode = m }) s → P s
      → Goes (piece_inputs (record stream { mode = m }) piece now s) (piece_step (record stream { mode = m }) piece now s).1
  piece_in_mode Control stream piece now s there h =
      let u = record stream { mode = Control } in
      then_all-goes now (fed_taken u piece now s) (first_frame_step u piece now s) (fed-goes u piece now s there h)
  piece_in_mode Waiting stream piece now s there h = fed-goes (record stream { mode = Waiting }) piece now s there h
  piece_in_mode (Bound peer) stream piece now s there h = fed-goes (record stream { mode = Bound peer }) piece now s there h
  piece_in_mode Broken stream piece now s there h = by (same_address stream.local s.local)
    where
      by : (b : Bool) → Goes (cond b (poll_recv_inputs now s) []) (cond {A = Outcome × State} b (then_all now (Handled, s)) (Handled, s)).1
      by true = poll_recv-goes now s h
      by false = (h, none-fine)

  stream-goes : (stream : Stream) (piece : List ℕ) (now : ℕ) (s : State) → IsThere stream s → P s → Goes (stream_inputs stream piece now s) (stream_step stream piece now s).1
  stream-goes stream [] now s there h = (k.dropped stream.local (connection_gone stream.local s) (k.gone stream.local s h), none-fine)
  stream-goes stream (b ∷ bs) now s there h = piece_in_mode stream.mode stream (b ∷ bs) now s there h

  -- ---- a call that takes input

  recv-goes : (packet : Transmit (List ℕ)) (now : ℕ) (s : State) → P s → Goes (handled (Recv packet now) s) (state_after (Recv packet now) s)
  recv-goes packet now s =
      packet-by (λ s inputs r. P s → Goes inputs r.1) packet.transport packet.from packet.to packet.payload now
      (λ s h. let fine = k.datagram packet.payload now s h in (k.input (datagram_input packet.payload now s) fine h, one-fine _ fine))
      (λ stream s e h. stream-goes stream packet.payload now s (found-there _ stream s e) h) (λ s h. (h, none-fine)) s

  pub input-goes : (call : Call) (s : State) → TakesInput call → P s → Goes (handled call s) (state_after call s)
  input-goes (Recv packet now) s takes h = recv-goes packet now s h
  input-goes (PollRecv now) s takes h = poll_recv-goes now s h
  input-goes call s takes h = absurd takes
