-- What one input leaves: the state as it was, or what its message leaves.
use Rattle.turn_client_laws.proofs.Common.{◌≡◌, ℕ, Bool, true, false, not, cond, List, Option, Some, None, refl}
use Rattle.turn_client_laws.proofs.Machine.{begins_message, State, Mode, Control, Waiting, Stream, bind_step, Outcome, Handled, Ignored, channel_sent, datagram_step, is_channel_frame, is_message}
use Rattle.turn_client_laws.proofs.Machine.{message_step, frame_step}
use Rattle.turn_client_laws.specs.Handled.{Input, processed}
use Rattle.turn_client_laws.specs.LawsHandled.{IsOverControl}

module _ (P : State → Type 0) (bytes : List ℕ) (now : ℕ) (s : State) (same : P s) where
  pub datagram-by : (is_message bytes ≡ true → P (message_step bytes now s).1) → P (datagram_step bytes now s).1
  datagram-by message = by (is_message bytes) refl (is_channel_frame bytes)
    where
      by : (b : Bool) → is_message bytes ≡ b → (c : Bool)
          → P (cond {A = Outcome × State} b (message_step bytes now s) (cond {A = Outcome × State} c (channel_sent s bytes, s) (Ignored, s))).1
      by true e c = message e
      by false e true = same
      by false e false = same

  frame_in_mode-by : (m : Mode) (stream : Stream) → (m ≡ Control → is_message bytes ≡ true → P (message_step bytes now s).1)
      → (m ≡ Waiting → is_message bytes ≡ true → P (bind_step stream.local bytes now s)) → P (frame_step (record stream { mode = m }) bytes now s).1
  frame_in_mode-by Control stream message bind = by (not (begins_message bytes)) (is_message bytes) refl
    where
      by : (b c : Bool) → is_message bytes ≡ c
          → P (cond {A = Outcome × State} b (channel_sent s bytes, s) (cond {A = Outcome × State} c (message_step bytes now s) (Handled, s))).1
      by false true e = message refl e
      by false false e = same
      by true c e = same
  frame_in_mode-by Waiting stream message bind = by (not (begins_message bytes)) (is_message bytes) refl
    where
      by : (b c : Bool) → is_message bytes ≡ c
          → P (cond {A = Outcome × State} b (Ignored, s) (cond {A = Outcome × State} c (Handled, bind_step stream.local bytes now s) (Handled, s))).1
      by false true e = bind refl e
      by false false e = same
      by true c e = same
  frame_in_mode-by m stream message bind = same

  pub frame-by : (stream : Stream) → (stream.mode ≡ Control → is_message bytes ≡ true → P (message_step bytes now s).1)
      → (stream.mode ≡ Waiting → is_message bytes ≡ true → P (bind_step stream.local bytes now s)) → P (frame_step stream bytes now s).1
  frame-by stream = frame_in_mode-by stream.mode stream

pub input-by : (P : State → Type 0) (one : Input) → P one.before
    → (IsOverControl one → is_message one.bytes ≡ true → P (message_step one.bytes one.time one.before).1)
    → ((stream : Stream) → one.stream ≡ Some stream → stream.mode ≡ Waiting → is_message one.bytes ≡ true → P (bind_step stream.local one.bytes one.time one.before))
    → P (processed one).1
input-by P one same message bind = by one.stream refl
  where
    by : (o : Option Stream) → one.stream ≡ o → P (processed (record one { stream = o })).1
    by None of = datagram-by P one.bytes one.time one.before same (message (rw of tt))
    by (Some stream) of = frame-by P one.bytes one.time one.before same stream (λ mode. message (rw of mode)) (bind stream of)
