-- If no stream is ready, nothing is processed.
use Rattle.turn_client_laws.proofs.Common.{◌≡◌, ℕ, zero, suc, false, cond, List, [], length, Some, None, refl, Bool, Option, arith, All, find}
use Rattle.turn_client_laws.proofs.Machine.{begins_no_frame, frame_len, State, Mode, Bound, Broken, Stream, is_ready, max_steps, poll_recv_step, ready_len, steps_until_payload, find-none, has-all}
use Rattle.turn_client_laws.specs.Handled.{poll_recv_inputs, inputs_taken}
use Rattle.turn_client_laws.specs.LawsStreams.{HasNoFrame, NeedsMoreBytes}
use Rattle.turn_client_laws.proofs.StreamShortLemmas.{no_frame-none}

none-by : (b : Bool) (some other : Option ℕ) → b ≡ false → other ≡ None → cond b some other ≡ None
none-by b some other e none = grind arith

no_frame-waits : (bytes : List ℕ) → HasNoFrame bytes → cond (begins_no_frame bytes) (Some (length bytes)) (frame_len bytes) ≡ None
no_frame-waits bytes h = none-by (begins_no_frame bytes) _ (frame_len bytes) h.0 (no_frame-none bytes h (frame_len bytes) refl)

waits-in : (mode : Mode) (stream : Stream) → NeedsMoreBytes (record stream { mode = mode }) → ready_len (record stream { mode = mode }) ≡ None
waits-in (Bound peer) stream h = rw h refl
waits-in Broken stream h = refl
waits-in mode stream h = no_frame-waits stream.bytes h

drained-waits : (stream : Stream) → NeedsMoreBytes stream → is_ready stream ≡ false
drained-waits stream h = rw (waits-in stream.mode stream h) refl

none-ready : (s : State) → All NeedsMoreBytes s.streams → find is_ready s.streams ≡ None
none-ready s all = find-none is_ready s.streams (λ stream h. drained-waits stream (has-all NeedsMoreBytes stream s.streams all h))

pub steps-rest : (n now : ℕ) (s : State) → find is_ready s.streams ≡ None → steps_until_payload n now s ≡ (None, s)
unfolding steps_until_payload
steps-rest zero now s e = refl
steps-rest (suc n) now s e = rw e refl

taken-rest : (n now : ℕ) (s : State) → find is_ready s.streams ≡ None → inputs_taken n now s ≡ []
unfolding inputs_taken
taken-rest zero now s e = refl
taken-rest (suc n) now s e = rw e refl

pub poll_recv-rests : (now : ℕ) (s : State) → All NeedsMoreBytes s.streams → poll_recv_step now s ≡ (None, s)
poll_recv-rests now s all = steps-rest (max_steps s) now s (none-ready s all)

pub poll_recv-handles_nothing : (now : ℕ) (s : State) → All NeedsMoreBytes s.streams → poll_recv_inputs now s ≡ []
poll_recv-handles_nothing now s all = taken-rest (max_steps s) now s (none-ready s all)
