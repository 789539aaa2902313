-- Streams that the network cuts anywhere: a state, a rule for the length of the first frame, which may
-- depend on the state, and the effect of one whole frame on the state.
use Rattle.std.specs.Prelude.{◌≡◌, ℕ, zero, suc, ◌<◌, ◌≤◌, List, [], ◌∷◌, ◌++◌, length, take, drop, Option, Some, None}

-- the rest of a stream from which each whole first frame was taken, and the outputs of the frames
pub record Drained (S O : Type 0) : Type 0 where
  pub state : S
  pub given : List O
  pub rest : List ℕ

-- the same, after the outputs of earlier frames
abbrev pub behind : {S O : Type 0} → List O → Drained S O → Drained S O
behind given d = record { state = d.state; given = given ++ d.given; rest = d.rest }

-- `size` is the length of the first frame in bytes, if the whole of it is present, and `handle` the
-- effect of one whole frame on the state, with its outputs.
module _ {S O : Type 0} (size : S → List ℕ → Option ℕ) (handle : S → List ℕ → S × List O) where
  -- the first frame, and then what `next` makes of the rest
  abbrev pub one_frame : (S → List ℕ → Drained S O) → S → List ℕ → Option ℕ → Drained S O
  one_frame next s bytes None = record { state = s; given = []; rest = bytes }
  one_frame next s bytes (Some k) = behind (handle s (take k bytes)).1 (next (handle s (take k bytes)).0 (drop k bytes))

  -- this many frames, or as many as there are
  unfoldable pub drained_at_most : ℕ → S → List ℕ → Drained S O
  drained_at_most zero s bytes = record { state = s; given = []; rest = bytes }
  drained_at_most (suc n) s bytes = one_frame (drained_at_most n) s bytes (size s bytes)

  -- each whole frame: there are no more of them than bytes
  abbrev pub drained : S → List ℕ → Drained S O
  drained s bytes = drained_at_most (length bytes) s bytes

  -- the stream continues with one more piece
  abbrev pub fed : Drained S O → List ℕ → Drained S O
  fed d piece = behind d.given (drained d.state (d.rest ++ piece))

  -- the stream continues with these pieces, in sequence
  abbrev pub fed_each : Drained S O → List (List ℕ) → Drained S O
  fed_each d [] = d
  fed_each d (piece ∷ pieces) = fed_each (fed d piece) pieces

-- a frame that is whole has at least one byte, and is the same frame whatever follows
pub record IsPrefixCut {S : Type 0} (size : S → List ℕ → Option ℕ) : Type 0 where
  pub within : (s : S) (bytes : List ℕ) (k : ℕ) → size s bytes ≡ Some k → (0 < k) × (k ≤ length bytes)
  pub stays : (s : S) (bytes more : List ℕ) (k : ℕ) → size s bytes ≡ Some k → size s (bytes ++ more) ≡ Some k
