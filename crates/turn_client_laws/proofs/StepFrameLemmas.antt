-- A step of a stream is one frame.
use Rattle.turn_client_laws.proofs.Common.{◌≡◌, ℕ, Bool, true, false, cond, List, [], ◌∷◌, map, drop, Option, Some, None, refl, ap, sym, inl, inr, arith, append-nil, take-append-drop, SocketAddr}
use Rattle.turn_client_laws.proofs.Common.{cases_Bool}
use Rattle.turn_client_laws.proofs.Machine.{begins_no_frame, frame_len, same_address, State, Mode, Bound, Broken, Stream, Outcome, Handled, broken_at, framed_by, framed_stream_step, next_frame_step}
use Rattle.turn_client_laws.proofs.Machine.{with_bytes}
use Rattle.turn_client_laws.specs.Handled.{frame_taken, stream_inputs_taken, taken_of_len}
use Rattle.turn_client_laws.specs.LawsHandled.{IsInputOf}
use Rattle.turn_client_laws.proofs.FrameRestLemmas.{bytes_by}

once : (a : SocketAddr) (first later : List ℕ) (x : Stream) → bytes_by a later (bytes_by a first x) ≡ bytes_by a later x
once a first later x = grind arith

twice : (a : SocketAddr) (first later : List ℕ) (xs : List Stream) → map (bytes_by a later) (map (bytes_by a first) xs) ≡ map (bytes_by a later) xs
twice a first later [] = refl
twice a first later (x ∷ xs) = rw (once a first later x, twice a first later xs) refl

-- the bytes of a stream are set twice
pub bytes-twice : (a : SocketAddr) (first later : List ℕ) (s : State) → with_bytes a later (with_bytes a first s) ≡ with_bytes a later s
bytes-twice a first later s = ap (λ (x : List Stream). record s { streams = x }) (twice a first later s.streams)

abbrev pub broken_by : SocketAddr → Stream → Stream
broken_by a stream = cond (same_address stream.local a) (record stream { mode = Broken; bytes = [] }) stream

broken-once : (a : SocketAddr) (first : List ℕ) (x : Stream) → broken_by a (bytes_by a first x) ≡ broken_by a x
broken-once a first x = elim (cases_Bool (same_address x.local a)) [ inl e ↦ rw (e, e) refl | inr e ↦ rw (e, e) refl ]

broken-all : (a : SocketAddr) (first : List ℕ) (xs : List Stream) → map (broken_by a) (map (bytes_by a first) xs) ≡ map (broken_by a) xs
broken-all a first [] = refl
broken-all a first (x ∷ xs) = rw (broken-once a first x, broken-all a first xs) refl

emptied-broken : (a : SocketAddr) (s : State) → broken_at a (with_bytes a [] s) ≡ broken_at a s
emptied-broken a s = ap (λ (x : List Stream). record s { streams = x }) (broken-all a [] s.streams)

framed-IsInputOf : (stream : Stream) (now : ℕ) (s : State) → IsInputOf stream now s (frame_taken false stream now (with_bytes stream.local [] s))
    (framed_stream_step stream now (with_bytes stream.local [] s))
framed-IsInputOf stream now s = by (begins_no_frame stream.bytes) (frame_len stream.bytes)
  where
    t : State
    t = with_bytes stream.local [] s

    by : (b : Bool) (o : Option ℕ) → IsInputOf stream now s (cond b [] (taken_of_len false stream now t o))
        (cond {A = Outcome × State} b (Handled, broken_at stream.local t) (framed_by stream now t o))
    by true o = inl (ap (λ (x : State). (Handled, x)) (emptied-broken stream.local s))
    by false None = inr (inl (ap (λ (x : State). (Handled, x)) (bytes-twice stream.local [] stream.bytes s)))
    by false (Some len) = record {
      taken_of = refl;
      at = refl;
      alone = refl;
      rest = drop len stream.bytes;
      cut = sym (take-append-drop len stream.bytes);
      outcome = refl;
      after = refl;
    }

step_in_mode : (m : Mode) (stream : Stream) (now : ℕ) (s : State) → IsInputOf (record stream { mode = m }) now s (stream_inputs_taken false (record stream { mode = m }) now s)
    (next_frame_step (record stream { mode = m }) now s)
step_in_mode (Bound peer) stream now s = record {
  taken_of = refl;
  at = refl;
  alone = refl;
  rest = [];
  cut = sym (append-nil stream.bytes);
  outcome = refl;
  after = sym (bytes-twice stream.local [] [] s);
}
step_in_mode Broken stream now s = inr (inr (refl, refl))
step_in_mode m stream now s = framed-IsInputOf (record stream { mode = m }) now s

pub step-IsInputOf : (stream : Stream) (now : ℕ) (s : State) → IsInputOf stream now s (stream_inputs_taken false stream now s) (next_frame_step stream now s)
step-IsInputOf stream now s = step_in_mode stream.mode stream now s
