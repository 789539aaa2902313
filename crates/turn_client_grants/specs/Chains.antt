-- Chains: each row of a list that has a key leads to the one before it whose key is in the same bucket.
use Rattle.std.specs.Prelude.{ℕ, zero, suc, ◌≡◌, ◌==◌, ◌<◌, ◌-◌, Bool, true, false, cond, List, [], ◌∷◌, length, take, Option, Some, None, bit_and}
use Rattle.std.specs.Prelude.{fold, slice_index, slice_index_or}
use Rattle.std.specs.Hash.FoldHasher as folding
use Rattle.turn_client_grants.specs.KeyHash.{key_writes}
use Rattle.turn_client_grants.specs.declared.key.Key.{Key}

-- what a hasher makes of the key
unfoldable pub key_hash : Key → ℕ
key_hash k = folding.finish (fold folding.write folding.initial (key_writes k))

-- in which of so many buckets the key is
unfoldable pub bucket_of : ℕ → Key → ℕ
bucket_of count k = bit_and (key_hash k) (count - 1)

-- whether a row with this key, if it has one, is in the bucket
abbrev pub is_in : ℕ → ℕ → Option Key → Bool
is_in count bucket None = false
is_in count bucket (Some k) = bucket_of count k == bucket

-- the place of the last, if the first of all passes or not and this is the place among the others
abbrev pub counted : Bool → ℕ → ℕ
counted is_first zero = cond is_first 1 0
counted is_first (suc n) = suc (suc n)

-- the place of the last that passes, counted from one, and zero if none does
abbrev pub last_of : {X : Type 0} → (X → Bool) → List X → ℕ
last_of p [] = zero
last_of p (x ∷ xs) = counted (p x) (last_of p xs)

-- the bucket leads to its last row, and each row to the one before it in its bucket
pub record IsChained (hs ls : List ℕ) (keys : List (Option Key)) : Type 0 where
  pub some : 0 < length hs
  pub heads : (b : ℕ) → b < length hs → slice_index hs b ≡ last_of (is_in (length hs) b) keys
  pub links : (i b : ℕ) → is_in (length hs) b (slice_index_or keys i None) ≡ true → slice_index ls i ≡ last_of (is_in (length hs) b) (take i keys)
  pub count : length ls ≡ length keys
