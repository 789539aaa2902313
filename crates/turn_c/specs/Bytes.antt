-- Bytes that a C program passes by a pointer and a length.
use Rattle.std.specs.Prelude.{◌≡◌, ℕ, ◌<◌, ◌^◌, List, []}
use Prim.Native.Nat.{zero, suc}
use base.Fml.{Share, Fml, ftrue, fsep, fex}
use denote.Array.{Array}
use denote.Builtin.{u8}
use denote.RawPtr.{Ptr, lies_at}

-- bytes, of which a share is passed: any share is enough to read them, and the whole one to write them
pub record Given : Type 0 where
  pub share : Share
  pub bytes : List ℕ

-- The share of these bytes lies at the pointer. If there are none, the pointer says nothing: it may be null.
abbrev pub bytes_at : Share → Ptr → ℕ → List ℕ → Fml
bytes_at q p zero bytes = fex (bytes ≡ []) (λ _. ftrue)
bytes_at q p (suc n) bytes = fsep (lies_at (Array u8 (suc n)) q p bytes) (fex (suc n < 2 ^ 63) (λ _. ftrue))

-- the pointer, or another if there are no bytes
abbrev pub place_of : Ptr → ℕ → Ptr → Ptr
place_of p zero other = other
place_of p (suc n) other = p
