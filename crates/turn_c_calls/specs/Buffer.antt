-- Bytes that are written to a caller's buffer.
use Rattle.std.specs.Prelude.{◌≡◌, ◌≤◌, ℕ, ◌+◌, ◌-◌, min, List, ◌++◌, length, take, drop, Option, Some, None}
use Rattle.turn_c_calls.specs.declared.answer.Answer.{Answer}
use Rattle.turn_c_calls.specs.declared.code.TheConstants.{PEER_DATA_RANGE}

-- the buffer with these bytes at its front, as far as they fit
abbrev pub buffer_filled : List ℕ → List ℕ → List ℕ
buffer_filled bytes buffer = take (length buffer) bytes ++ drop (length bytes) buffer

-- The answer says this, and how many of the bytes are in the buffer and how many are left. These come before what was to
-- be read.
pub record Puts (bytes was : List ℕ) (said : Answer) (buffer after unread : List ℕ) (answer : Answer) : Type 0 where
  pub says : answer ≡ record said { len = min (length buffer) (length bytes); left = length bytes - length buffer }
  pub buffer_is : after ≡ buffer_filled bytes buffer
  pub unread_is : unread ≡ drop (length buffer) bytes ++ was

-- the answer says this, and where the bytes lie in the data that was passed in; none is copied
pub record Points (bytes passed was : List ℕ) (said : Answer) (buffer after unread : List ℕ) (answer : Answer) : Type 0 where
  pub says : answer ≡ record said { kind = PEER_DATA_RANGE; start = answer.start; len = length bytes }
  pub part : take (length bytes) (drop answer.start passed) ≡ bytes
  pub inside : answer.start + length bytes ≤ length passed
  pub buffer_is : after ≡ buffer
  pub unread_is : unread ≡ was

abbrev pub PointsIfAny : Option (List ℕ) → List ℕ → List ℕ → Answer → List ℕ → List ℕ → List ℕ → Answer → Type 0
PointsIfAny (Some bytes) passed was said buffer after unread answer = Points bytes passed was said buffer after unread answer
PointsIfAny None passed was said buffer after unread answer = ⊥

-- the answer says this, and there are no bytes
pub record PutsNone (was : List ℕ) (said : Answer) (buffer after unread : List ℕ) (answer : Answer) : Type 0 where
  pub says : answer ≡ said
  pub buffer_is : after ≡ buffer
  pub unread_is : unread ≡ was

-- these bytes, if there are any
abbrev pub PutsIfAny : Option (List ℕ) → List ℕ → Answer → List ℕ → List ℕ → List ℕ → Answer → Type 0
PutsIfAny (Some bytes) = Puts bytes
PutsIfAny None = PutsNone
