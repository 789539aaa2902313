-- What an integrity attribute covers.
use Rattle.std.proofs.Common.{◌≡◌, ℕ, ◌+◌, ◌-◌, ◌≤◌, List, [], ◌∷◌, ◌++◌, length, take, drop, get_or, refl, arith, Fits, w8}
use Rattle.std.specs.Int.{w16, to_be_bytes}
use Rattle.std.proofs.lemmas.List.{take-take, drop-take}
use Rattle.turn_stun.specs.Message.{Attribute, IsMessage}
use Rattle.turn_stun.specs.Writer.{with_length}

behind_length : (bytes : List ℕ) (offset rest : ℕ) → offset ≡ 4 + rest → take rest (drop 4 bytes) ≡ drop 4 (take offset bytes)
behind_length bytes offset rest e = rw (e, drop-take 4 rest bytes) refl

first_two : (bytes : List ℕ) → 2 ≤ length bytes → get_or bytes 0 0 ∷ get_or bytes 1 0 ∷ [] ≡ take 2 bytes
first_two [] h = absurd (omega (arith, h))
first_two (a ∷ []) h = absurd (omega (arith, h))
first_two (a ∷ b ∷ others) h = refl

-- the covered text, as it is digested: the type and the length, and the bytes after them
pub covered_pieces : (bytes : List ℕ) (offset : ℕ) (counted : ℕ) (end : ℕ) → 20 ≤ offset → offset ≤ length bytes → counted ≡ end
    → (get_or bytes 0 0 ∷ get_or bytes 1 0 ∷ to_be_bytes w16 counted) ++ take (offset - 4) (drop 4 bytes) ≡ with_length end (take offset bytes)
covered_pieces bytes offset counted end header within same =
    let long : 2 ≤ offset = omega arith in
    let front : get_or bytes 0 0 ∷ get_or bytes 1 0 ∷ [] ≡ take 2 bytes = first_two bytes (omega arith) in
    rw (same, behind_length bytes offset (offset - 4) (omega arith), take-take 2 offset bytes long, ← front) refl

-- a message is no longer than its length field can express
pub IsMessage-short : (bytes : List ℕ) (type id : ℕ) (attributes : List Attribute) → IsMessage bytes type id attributes → Fits w8 (get_or bytes 2 0) → Fits w8 (get_or bytes 3 0) → length bytes ≤ 65555
IsMessage-short bytes type id attributes is high low = omega (arith, is.whole)
