-- The first frame is a frame, it is the only one, and it is the same whatever follows.
use Rattle.std.proofs.Common.{◌≡◌, ℕ, ◌+◌, ◌<◌, ◌≤◌, Bool, true, false, not, nat_le, nat_lt, ◌&&◌, if◌then◌else◌, List, [], ◌∷◌, ◌++◌, length, Some, None, refl, ap, ◌∙◌, arith, length-append}
use Rattle.std.proofs.lemmas.Bool.{leb-true, le-leb, not-true, and_parts}
use Rattle.turn_stun.specs.Message.{padded_len}
use Rattle.turn_stun.specs.Number.{u16_at}
use Rattle.turn_stun.proofs.GrammarLemmas.{u16_at-append}
use Rattle.turn_types.specs.Cuts.{IsPrefixCut}
use Rattle.turn_types.specs.Frames.{begins_message, begins_no_frame, frame_size, frame_len}
use Rattle.turn_types.specs.Streams.{Mode, size_in, one_byte}
use Rattle.turn_types.specs.Streams.Mode.{Framed, Bound, Broken}

-- what the tests find for a whole first frame
pub record IsWhole (bytes : List ℕ) (k : ℕ) : Type 0 where
  pub begins : begins_no_frame bytes ≡ false
  pub size : frame_size bytes ≡ k
  pub within : k ≤ length bytes
  pub least : 4 ≤ k

some_where : (b : Bool) (n k : ℕ) → (if b then Some n else None) ≡ Some k → (b ≡ true) × (n ≡ k)
some_where true n k h = (refl, cc)
some_where false n k h = cc

if_least : (b : Bool) (m n : ℕ) → 4 ≤ m → 4 ≤ n → 4 ≤ (if b then m else n)
if_least true m n hm hn = hm
if_least false m n hm hn = hn

frame_size-least : (bytes : List ℕ) → 4 ≤ frame_size bytes
frame_size-least bytes = if_least (begins_message bytes) (20 + u16_at bytes 2) (4 + padded_len (u16_at bytes 2)) (omega arith) (omega arith)

pub frame_len-IsWhole : (bytes : List ℕ) (k : ℕ) → frame_len bytes ≡ Some k → IsWhole bytes k
frame_len-IsWhole bytes k h =
    let found = some_where _ _ _ h in
    let tests = and_parts _ _ found.0 in
    record {
      begins = not-true _ tests.0;
      size = found.1;
      within = rw (← found.1) (leb-true _ _ tests.1);
      least = rw (← found.1) (frame_size-least bytes);
    }

some_of : (begins within : Bool) (n k : ℕ) → begins ≡ false → within ≡ true → n ≡ k → (if not begins && within then Some n else None) ≡ Some k
some_of begins within n k hb hw hn = rw (hb, hw, hn) refl

pub IsWhole-frame_len : (bytes : List ℕ) (k : ℕ) → IsWhole bytes k → frame_len bytes ≡ Some k
IsWhole-frame_len bytes k is =
    let fits : frame_size bytes ≤ length bytes = rw is.size is.within in
    some_of (begins_no_frame bytes) (nat_le (frame_size bytes) (length bytes)) (frame_size bytes) k is.begins (le-leb _ _ fits) is.size

-- the size is in the header, in the first four bytes
same_size : (first second : List ℕ) → u16_at first 0 ≡ u16_at second 0 → u16_at first 2 ≡ u16_at second 2 → frame_size first ≡ frame_size second
same_size first second number len =
    ap (λ n. if nat_lt n 0x4000 then 20 + u16_at first 2 else 4 + padded_len (u16_at first 2)) number
    ∙ ap (λ n. if nat_lt (u16_at second 0) 0x4000 then 20 + n else 4 + padded_len n) len

-- a whole frame stays whole if its header stays and its bytes are present
pub IsWhole-along : (first second : List ℕ) (k : ℕ) → IsWhole first k → u16_at second 0 ≡ u16_at first 0 → u16_at second 2 ≡ u16_at first 2 → k ≤ length second → IsWhole second k
IsWhole-along first second k is number len fits = record {
  begins = ap (λ n. nat_le 0x8000 n) number ∙ is.begins;
  size = same_size second first number len ∙ is.size;
  within = fits;
  least = is.least;
}

-- a whole frame is the same whatever follows
pub IsWhole-append : (bytes more : List ℕ) (k : ℕ) → IsWhole bytes k → IsWhole (bytes ++ more) k
IsWhole-append bytes more k is =
    IsWhole-along bytes (bytes ++ more) k is
    (u16_at-append bytes more 0 (omega (arith, is.least, is.within)))
    (u16_at-append bytes more 2 (omega (arith, is.least, is.within)))
    (omega (arith, is.within, length-append bytes more))

pub frame_len-append : (bytes more : List ℕ) (k : ℕ) → frame_len bytes ≡ Some k → frame_len (bytes ++ more) ≡ Some k
frame_len-append bytes more k h = IsWhole-frame_len (bytes ++ more) k (IsWhole-append bytes more k (frame_len-IsWhole bytes k h))

-- bytes that begin no frame still begin none, whatever follows: the first byte decides
pub begins_no_frame-append : (bytes more : List ℕ) → begins_no_frame bytes ≡ true → begins_no_frame (bytes ++ more) ≡ true
begins_no_frame-append [] more h = cc
begins_no_frame-append (b ∷ []) more h =
    let high : 0x8000 ≤ u16_at (b ∷ []) 0 = leb-true 0x8000 (u16_at (b ∷ []) 0) h in
    le-leb 0x8000 (u16_at (b ∷ more) 0) (omega arith)
begins_no_frame-append (b ∷ d ∷ bytes) more h = h

-- bytes that begin no frame have no whole first frame
pub begins_no_frame-frame_len : (bytes : List ℕ) → begins_no_frame bytes ≡ true → frame_len bytes ≡ None
begins_no_frame-frame_len bytes h = ap (λ b. if not b && nat_le (frame_size bytes) (length bytes) then Some (frame_size bytes) else None) h

one_byte-within : (bytes : List ℕ) (k : ℕ) → one_byte bytes ≡ Some k → (0 < k) × (k ≤ length bytes)
one_byte-within [] k h = cc
one_byte-within (b ∷ bytes) k h = let one : 1 ≡ k = cc in (omega arith, omega arith)

one_byte-append : (bytes more : List ℕ) (k : ℕ) → one_byte bytes ≡ Some k → one_byte (bytes ++ more) ≡ Some k
one_byte-append [] more k h = cc
one_byte-append (b ∷ bytes) more k h = h

framed-within : (bytes : List ℕ) (begins : Bool) → begins_no_frame bytes ≡ begins → (k : ℕ) → (if begins then Some 1 else frame_len bytes) ≡ Some k → (0 < k) × (k ≤ length bytes)
framed-within [] true e k h = cc
framed-within (b ∷ bytes) true e k h = let one : 1 ≡ k = cc in (omega arith, omega arith)
framed-within bytes false e k h = let is = frame_len-IsWhole bytes k h in (omega (arith, is.least), is.within)

framed-append : (bytes more : List ℕ) (begins : Bool) → begins_no_frame bytes ≡ begins → (k : ℕ) → (if begins then Some 1 else frame_len bytes) ≡ Some k → size_in Framed (bytes ++ more) ≡ Some k
framed-append bytes more true e k h = ap (λ b. if b then Some 1 else frame_len (bytes ++ more)) (begins_no_frame-append bytes more e) ∙ h
framed-append bytes more false e k h =
    let is = IsWhole-append bytes more k (frame_len-IsWhole bytes k h) in
    ap (λ b. if b then Some 1 else frame_len (bytes ++ more)) is.begins ∙ IsWhole-frame_len (bytes ++ more) k is

size_in-within : (mode : Mode) (bytes : List ℕ) (k : ℕ) → size_in mode bytes ≡ Some k → (0 < k) × (k ≤ length bytes)
size_in-within Framed bytes k h = framed-within bytes _ refl k h
size_in-within Bound bytes k h = one_byte-within bytes k h
size_in-within Broken bytes k h = one_byte-within bytes k h

size_in-append : (mode : Mode) (bytes more : List ℕ) (k : ℕ) → size_in mode bytes ≡ Some k → size_in mode (bytes ++ more) ≡ Some k
size_in-append Framed bytes more k h = framed-append bytes more _ refl k h
size_in-append Bound bytes more k h = one_byte-append bytes more k h
size_in-append Broken bytes more k h = one_byte-append bytes more k h

-- in each mode a frame is the same whatever follows
pub size_in-IsPrefixCut : {S : Type 0} (mode : S → Mode) → IsPrefixCut (λ (s : S). size_in (mode s))
size_in-IsPrefixCut mode = record {
  within = λ s bytes k h. size_in-within (mode s) bytes k h;
  stays = λ s bytes more k h. size_in-append (mode s) bytes more k h;
}
