-- Taking the next frame of a stream is a step of draining it.
use Rattle.std.proofs.Common.{◌≡◌, ℕ, Bool, true, false, if◌then◌else◌, List, [], ◌∷◌, take, drop, Option, Some, None, refl, sym, ap, subst, ◌∙◌}
use Rattle.turn_types.specs.Cuts.{behind, one_frame, drained}
use Rattle.turn_types.specs.Frames.{begins_no_frame, frame_len}
use Rattle.turn_types.specs.Streams.{Mode, NextFrame, size_in, framed, broken_stream, next_frame}
use Rattle.turn_types.specs.Streams.Mode.{Framed, Bound, Broken}
use Rattle.turn_types.proofs.CutLemmas.{by_first}
use Rattle.turn_types.proofs.FrameLemmas.{size_in-IsPrefixCut}
use Rattle.turn_types.proofs.RunLemmas.{next_frame-no_frame, next_frame-frame_len}

-- what the call finds at the start, and what it makes of it
pub data Found : List ℕ → NextFrame → Type 0 where
  Breaks : {bytes : List ℕ} → begins_no_frame bytes ≡ true → Found bytes (record { frame = None; after = broken_stream })
  Waits : {bytes : List ℕ} → begins_no_frame bytes ≡ false → frame_len bytes ≡ None → Found bytes (record { frame = None; after = framed bytes })
  Gives : {bytes : List ℕ} {k : ℕ} → begins_no_frame bytes ≡ false → frame_len bytes ≡ Some k → Found bytes (record { frame = Some (take k bytes); after = framed (drop k bytes) })

found_by : (bytes : List ℕ) (begins : Bool) (found : Option ℕ) → begins_no_frame bytes ≡ begins → frame_len bytes ≡ found → Found bytes (next_frame (framed bytes))
found_by bytes true found b f = subst (Found bytes) (sym (next_frame-no_frame (framed bytes) b)) (Breaks b)
found_by bytes false None b f = subst (Found bytes) (sym (next_frame-frame_len (framed bytes) None b f)) (Waits b f)
found_by bytes false (Some k) b f = subst (Found bytes) (sym (next_frame-frame_len (framed bytes) (Some k) b f)) (Gives b f)

pub next_frame-Found : (bytes : List ℕ) → Found bytes (next_frame (framed bytes))
next_frame-Found bytes = found_by bytes (begins_no_frame bytes) (frame_len bytes) refl refl

size-breaks : (bytes : List ℕ) → begins_no_frame bytes ≡ true → size_in Framed bytes ≡ Some 1
size-breaks bytes e = ap (λ b. if b then Some 1 else frame_len bytes) e

size-frame : (bytes : List ℕ) (found : Option ℕ) → begins_no_frame bytes ≡ false → frame_len bytes ≡ found → size_in Framed bytes ≡ found
size-frame bytes found b f = ap (λ b. if b then Some 1 else frame_len bytes) b ∙ f

size-byte : (m : Mode) (byte : ℕ) (bytes : List ℕ) → (m ≡ Framed → ⊥) → size_in m (byte ∷ bytes) ≡ Some 1
size-byte Framed byte bytes other = absurd (other refl)
size-byte Bound byte bytes other = refl
size-byte Broken byte bytes other = refl

module _ {S O : Type 0} (mode : S → Mode) (handle : S → List ℕ → S × List O) where
  -- the step that the mode requires
  pub step_in : (state : S) (bytes : List ℕ) (m : Mode) (found : Option ℕ) → mode state ≡ m → size_in m bytes ≡ found
      → drained (λ s. size_in (mode s)) handle state bytes ≡ one_frame (λ s. size_in (mode s)) handle (drained (λ s. size_in (mode s)) handle) state bytes found
  step_in state bytes m found e h =
      by_first (λ s. size_in (mode s)) handle (size_in-IsPrefixCut mode) state bytes found (ap (λ n. size_in n bytes) e ∙ h)

  frame_step : (state : S) (bytes frame : List ℕ) (t : NextFrame) → mode state ≡ Framed → Found bytes t → t.frame ≡ Some frame
      → drained (λ s. size_in (mode s)) handle state bytes ≡ behind (handle state frame).1 (drained (λ s. size_in (mode s)) handle (handle state frame).0 t.after.bytes)
  frame_step state bytes frame t e (Breaks b) h = cc
  frame_step state bytes frame t e (Waits b f) h = cc
  frame_step state bytes frame t e (Gives {k = k} b f) h =
      let same : take k bytes ≡ frame = cc in
      step_in state bytes Framed (Some k) e (size-frame bytes (Some k) b f)
      ∙ ap (λ (l : List ℕ). behind (handle state l).1 (drained (λ s. size_in (mode s)) handle (handle state l).0 (drop k bytes))) same

  wait_step : (state : S) (bytes : List ℕ) (t : NextFrame) → mode state ≡ Framed → Found bytes t → t.frame ≡ None → t.after.is_broken ≡ false
      → drained (λ s. size_in (mode s)) handle state bytes ≡ record { state = state; given = []; rest = bytes }
  wait_step state bytes t e (Breaks b) h unbroken = cc
  wait_step state bytes t e (Waits b f) h unbroken = step_in state bytes Framed None e (size-frame bytes None b f)
  wait_step state bytes t e (Gives b f) h unbroken = cc

  break_step : (state : S) (bytes : List ℕ) (t : NextFrame) → mode state ≡ Framed → Found bytes t → t.after.is_broken ≡ true
      → drained (λ s. size_in (mode s)) handle state bytes ≡ behind (handle state (take 1 bytes)).1 (drained (λ s. size_in (mode s)) handle (handle state (take 1 bytes)).0 (drop 1 bytes))
  break_step state bytes t e (Breaks b) broken = step_in state bytes Framed (Some 1) e (size-breaks bytes b)
  break_step state bytes t e (Waits b f) broken = cc
  break_step state bytes t e (Gives b f) broken = cc

  pub framed-drained : (state : S) (bytes frame : List ℕ) → mode state ≡ Framed → (next_frame (framed bytes)).frame ≡ Some frame
      → drained (λ s. size_in (mode s)) handle state bytes ≡ behind (handle state frame).1 (drained (λ s. size_in (mode s)) handle (handle state frame).0 (next_frame (framed bytes)).after.bytes)
  framed-drained state bytes frame e h = frame_step state bytes frame (next_frame (framed bytes)) e (next_frame-Found bytes) h

  pub waiting-drained : (state : S) (bytes : List ℕ) → mode state ≡ Framed → (next_frame (framed bytes)).frame ≡ None → (next_frame (framed bytes)).after.is_broken ≡ false
      → drained (λ s. size_in (mode s)) handle state bytes ≡ record { state = state; given = []; rest = bytes }
  waiting-drained state bytes e h unbroken = wait_step state bytes (next_frame (framed bytes)) e (next_frame-Found bytes) h unbroken

  pub breaking-drained : (state : S) (bytes : List ℕ) → mode state ≡ Framed → (next_frame (framed bytes)).after.is_broken ≡ true
      → drained (λ s. size_in (mode s)) handle state bytes ≡ behind (handle state (take 1 bytes)).1 (drained (λ s. size_in (mode s)) handle (handle state (take 1 bytes)).0 (drop 1 bytes))
  breaking-drained state bytes e broken = break_step state bytes (next_frame (framed bytes)) e (next_frame-Found bytes) broken

  pub byte-drained : (state : S) (byte : ℕ) (bytes : List ℕ) → (mode state ≡ Framed → ⊥)
      → drained (λ s. size_in (mode s)) handle state (byte ∷ bytes) ≡ behind (handle state (byte ∷ [])).1 (drained (λ s. size_in (mode s)) handle (handle state (byte ∷ [])).0 bytes)
  byte-drained state byte bytes other = step_in state (byte ∷ bytes) (mode state) (Some 1) refl (size-byte (mode state) byte bytes other)
