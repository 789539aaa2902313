-- Bytes received over streams keep their local addresses distinct.
use Rattle.turn_client_laws.proofs.Common.{◌≡◌, ◌≢◌, ℕ, zero, suc, ◌++◌, Bool, true, false, not, cond, List, [], ◌∷◌, take, drop, Option, Some, None, refl, subst, sym, inl, inr, arith, find, is_some}
use Rattle.turn_client_laws.proofs.Common.{SocketAddr}
use Rattle.turn_client_laws.proofs.Machine.{TransportType, begins_no_frame, frame_len, same_address, State, Mode, Control, Waiting, Bound, Broken, Stream, connection_at, Payload, Outcome, Handled}
use Rattle.turn_client_laws.proofs.Machine.{Ignored, PeerData, datagram_step, broken_at, frame_step, framed_by, framed_stream_step, go_on, is_ready, max_steps, poll_recv_step, stream_at}
use Rattle.turn_client_laws.proofs.Machine.{next_frame_step, detached_frame_step, first_ready_step, steps_until_payload, with_bytes, connection_gone, first_frame_step, piece_step, recv_step}
use Rattle.turn_client_laws.proofs.Machine.{stream_step, then_all}
use Rattle.turn_client_laws.specs.LawsStreams.{AreApart}
use Rattle.turn_client_laws.proofs.MoveLemmas.{by_test}
use Rattle.turn_client_laws.proofs.OneInputLemmas.{datagram-by}
use Rattle.turn_client_laws.proofs.StreamApartLemmas.{Apart, NotBroken, bound-NotBroken, bound-apart, broken-apart, bytes-apart, bytes-NotBroken, emptied-apart, filter-apart, found-NotBroken}
use Rattle.turn_client_laws.proofs.StreamDrainLemmas.{broken_by, bytes_by, found-ready, mode_by}
use Rattle.turn_client_laws.proofs.StreamMessageLemmas.{Same, Rebound, frame-rebound, message-same, same-cond}
use Rattle.turn_client_laws.proofs.PacketLemmas.{packet-by}

-- if the streams were distinct, they are
abbrev pub StayApart : State → State → Type 0
StayApart s t = AreApart s → AreApart t

pub same-apart : (s t : State) → Same s t → StayApart s t
same-apart s t same h = subst Apart (sym same) h

rebound-apart : (s t : State) → Rebound s t → StayApart s t
unfolding mode_by
rebound-apart s t (inl same) h = same-apart s t same h
rebound-apart s t (inr (local, peer, is)) h = subst Apart (sym is) (bound-apart local peer s.streams h)

-- ---- steps

-- none at the local address is broken, nor is any after a frame
rebound-NotBroken : (local : SocketAddr) (s t : State) → Rebound s t → NotBroken local s.streams → NotBroken local t.streams
unfolding mode_by
rebound-NotBroken local s t (inl same) whole = subst (NotBroken local) (sym same) whole
rebound-NotBroken local s t (inr (other, peer, is)) whole = subst (NotBroken local) (sym is) (bound-NotBroken local other peer s.streams whole)

framed_stream_step-apart : (stream : Stream) (now : ℕ) (t : State) → NotBroken stream.local t.streams → StayApart t (framed_stream_step stream now t).1
unfolding bytes_by broken_by
framed_stream_step-apart stream now t whole h = by (begins_no_frame stream.bytes) (frame_len stream.bytes)
  where
    by : (b : Bool) (o : Option ℕ) → AreApart (cond {A = Outcome × State} b (Handled, broken_at stream.local t) (framed_by stream now t o)).1
    by true o = broken-apart stream.local t.streams h
    by false None = bytes-apart stream.local stream.bytes t.streams whole h
    by false (Some len) =
        let u = (frame_step stream (take len stream.bytes) now t).1 in
        let rebound = frame-rebound stream (take len stream.bytes) now t in
        bytes-apart stream.local (drop len stream.bytes) u.streams (rebound-NotBroken stream.local t u rebound whole) (rebound-apart t u rebound h)

detached_in_mode : (m : Mode) (stream : Stream) (now : ℕ) (t : State) → NotBroken stream.local t.streams → StayApart t (detached_frame_step (record stream { mode = m }) now t).1
detached_in_mode (Bound peer) stream now t whole h = h
detached_in_mode Broken stream now t whole h = h
detached_in_mode m stream now t whole h = framed_stream_step-apart (record stream { mode = m }) now t whole h

step-apart : (stream : Stream) (now : ℕ) (s : State) → NotBroken stream.local s.streams → StayApart s (next_frame_step stream now s).1
unfolding bytes_by
step-apart stream now s whole h =
    let out = with_bytes stream.local [] s in
    detached_in_mode stream.mode stream now out (bytes-NotBroken stream.local [] s.streams whole) (emptied-apart stream.local s.streams h)

go_on-apart : (next : State → Option Payload × State) (s : State) (p : Outcome × State) → AreApart p.1 → ((t : State) → StayApart t (next t).1) → AreApart (go_on next p).1
go_on-apart next s (PeerData payload, t) first more = first
go_on-apart next s (_, t) first more = more t first

-- what is broken is not ready
ready-whole : (mode : Mode) (stream : Stream) → is_ready (record stream { mode = mode }) ≡ true → mode ≢ Broken
ready-whole mode stream e f = grind arith

pub steps-apart : (n now : ℕ) (s : State) → StayApart s (steps_until_payload n now s).1
unfolding steps_until_payload
steps-apart zero now s h = h
steps-apart (suc n) now s h = by (find is_ready s.streams) refl (λ t. steps-apart n now t)
  where
    by : (o : Option Stream) → find is_ready s.streams ≡ o → ((t : State) → StayApart t (steps_until_payload n now t).1) → AreApart (first_ready_step (steps_until_payload n now) now s o).1
    by None e more = h
    by (Some stream) e more =
        let whole = found-NotBroken is_ready s.streams stream e (ready-whole stream.mode stream (found-ready s.streams stream e)) h.0 in
        go_on-apart (steps_until_payload n now) s (next_frame_step stream now s) (step-apart stream now s whole h) more

pub poll_recv-apart : (now : ℕ) (s : State) → StayApart s (poll_recv_step now s).1
poll_recv-apart now s = steps-apart (max_steps s) now s

-- ---- input

then_all-apart : (now : ℕ) (p : Outcome × State) → StayApart p.1 (then_all now p).1
then_all-apart now (Handled, t) h = poll_recv-apart now t h
then_all-apart now (Ignored, t) h = poll_recv-apart now t h
then_all-apart now (_, t) h = h

pub first_frame_step-apart : (stream : Stream) (piece : List ℕ) (now : ℕ) (s : State) → NotBroken stream.local s.streams → StayApart s (first_frame_step stream piece now s).1
first_frame_step-apart stream piece now s whole h = step-apart (record stream { bytes = stream.bytes ++ piece }) now s whole h

piece_in_mode : (to : SocketAddr) (m : Mode) (stream : Stream) (piece : List ℕ) (now : ℕ) (s : State) → stream_at to s ≡ Some (record stream { mode = m })
    → StayApart s (piece_step (record stream { mode = m }) piece now s).1
unfolding bytes_by
piece_in_mode to Control stream piece now s e h =
    let u = record stream { mode = Control } in
    let whole = found-NotBroken (λ x. same_address x.local to) s.streams u e (λ f. cc) h.0 in
    then_all-apart now (first_frame_step u piece now s) (first_frame_step-apart u piece now s whole h)
piece_in_mode to Waiting stream piece now s e h =
    let u = record stream { mode = Waiting } in
    let whole = found-NotBroken (λ x. same_address x.local to) s.streams u e (λ f. cc) h.0 in
    first_frame_step-apart u piece now s whole h
piece_in_mode to (Bound peer) stream piece now s e h = emptied-apart stream.local s.streams h
piece_in_mode to Broken stream piece now s e h =
    by_test (StayApart s) (same_address stream.local s.local) (then_all now (Handled, s)) (Handled, s) (then_all-apart now (Handled, s)) (λ k. k) h

gone-same : (local : SocketAddr) (s : State) → Same s (connection_gone local s)
gone-same local s = same-cond (is_some (connection_at local s)) s _ _ refl refl

stream-apart : (to : SocketAddr) (stream : Stream) (piece : List ℕ) (now : ℕ) (s : State) → stream_at to s ≡ Some stream → StayApart s (stream_step stream piece now s).1
stream-apart to stream [] now s e h =
    let t = connection_gone stream.local s in
    filter-apart (λ x. not (same_address x.local stream.local)) t.streams (same-apart s t (gone-same stream.local s) h)
stream-apart to stream (b ∷ bs) now s e h = piece_in_mode to stream.mode stream (b ∷ bs) now s e h

datagram-same : (bytes : List ℕ) (now : ℕ) (s : State) → Same s (datagram_step bytes now s).1
datagram-same bytes now s = datagram-by (Same s) bytes now s refl (λ whole. message-same bytes now s)

pub recv-apart : (transport : TransportType) (from to : SocketAddr) (bytes : List ℕ) (now : ℕ) (s : State) → StayApart s (recv_step transport from to bytes now s).1
recv-apart transport from to bytes now =
    packet-by (λ s inputs r. StayApart s r.1) transport from to bytes now (λ s. same-apart s (datagram_step bytes now s).1 (datagram-same bytes now s))
    (λ stream s e. stream-apart to stream bytes now s e) (λ s h. h)
