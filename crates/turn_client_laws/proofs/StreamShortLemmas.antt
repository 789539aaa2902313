-- A stream that holds no whole frame holds less than the longest frame.
use Rattle.turn_client_laws.proofs.Common.{◌≡◌, ◌≢◌, ℕ, ◌+◌, ◌<◌, ◌≤◌, Bool, true, false, cond, leb, ltb, List, length, take, drop, Option, Some, None, refl, sym, arith, All, leb-false, ltb-true}
use Rattle.turn_client_laws.proofs.Common.{ltb-false, take-append-drop}
use Rattle.turn_client_laws.proofs.Machine.{padded_len, u16_at, begins_message, begins_no_frame, frame_len, frame_size, frame_len-IsWhole, Mode, Bound, Broken, Stream}
use Rattle.turn_types.proofs.SplitLemmas.{IsWhole-IsFrame}
use Rattle.turn_client_laws.specs.LawsStreams.{HasNoFrame, NeedsMoreBytes}

u16-most : (bytes : List ℕ) → 3 < length bytes → All (λ b. b < 256) bytes → u16_at bytes 2 ≤ 65535
u16-most bytes there h = omega (arith, h 2 0 (omega (arith, there)), h 3 0 there)

size-by : (b : Bool) (n : ℕ) → n ≤ 65535 → cond b (20 + n) (4 + padded_len n) ≤ 65555
size-by b n h = grind arith

some-if : (b : Bool) (n : ℕ) → cond b (Some n) None ≡ None → b ≡ false
some-if b n h = grind arith

-- it holds less than its size
frame_len-none : (bytes : List ℕ) → begins_no_frame bytes ≡ false → frame_len bytes ≡ None → length bytes < frame_size bytes
frame_len-none bytes begins none =
    let short : leb (frame_size bytes) (length bytes) ≡ false = some-if _ (frame_size bytes) (rw begins at none) in
    leb-false (frame_size bytes) (length bytes) short

pub no_frame-none : (bytes : List ℕ) → HasNoFrame bytes → (o : Option ℕ) → frame_len bytes ≡ o → o ≡ None
no_frame-none bytes h None e = refl
no_frame-none bytes h (Some k) e =
    absurd (h.1 (take k bytes) (drop k bytes) (sym (take-append-drop k bytes)) (IsWhole-IsFrame bytes k (frame_len-IsWhole bytes k e)))

no_frame-short : (bytes : List ℕ) → HasNoFrame bytes → All (λ b. b < 256) bytes → length bytes < 65555
no_frame-short bytes h are = by (ltb 3 (length bytes)) refl
  where
    size : length bytes < frame_size bytes
    size = frame_len-none bytes h.0 (no_frame-none bytes h (frame_len bytes) refl)

    by : (b : Bool) → ltb 3 (length bytes) ≡ b → length bytes < 65555
    by true e = omega (arith, size, size-by (begins_message bytes) (u16_at bytes 2) (u16-most bytes (ltb-true 3 (length bytes) e) are))
    by false e = omega (arith, ltb-false 3 (length bytes) e)

short_in : (mode : Mode) (stream : Stream) → NeedsMoreBytes (record stream { mode = mode }) → mode ≢ Broken → All (λ b. b < 256) stream.bytes → length stream.bytes < 65555
short_in (Bound peer) stream h not_broken are = rw h (omega arith)
short_in Broken stream h not_broken are = absurd (not_broken refl)
short_in mode stream h not_broken are = no_frame-short stream.bytes h are

pub drained-short : (stream : Stream) → NeedsMoreBytes stream → stream.mode ≢ Broken → All (λ b. b < 256) stream.bytes → length stream.bytes < 65555
drained-short stream = short_in stream.mode stream
