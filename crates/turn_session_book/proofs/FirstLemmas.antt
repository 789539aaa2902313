-- The first row of a list that passes a test.
use Rattle.std.proofs.Common.{◌≡◌, ℕ, ◌<◌, Bool, List, length, get_or, Some, None, refl, sym, ap, ◌∙◌, inl, inr, arith, ltb}
use Rattle.std.specs.Prelude.{remove, slice_get, slice_set}
use Rattle.std.specs.List.{position, position_or_len, find}
use Rattle.std.proofs.lemmas.Bool.{cases_Bool, ltb-true, ltb-false}
use Rattle.std.proofs.lemmas.List.Folds.{find_at}
use Rattle.std.proofs.lemmas.Option.{cond_some, slice_get-get_or, slice_get_past, none-some}
use Rattle.turn_session_book.specs.First.{with_first, without_first}

-- the place is within, and what stands there is found
pub record IsFirst {X : Type 0} (p : X → Bool) (xs : List X) (i : ℕ) : Type 0 where
  pub within : i < length xs
  pub found : (d : X) → find p xs ≡ Some (get_or xs i d)

pub position-IsFirst : {X : Type 0} (p : X → Bool) (xs : List X) (i : ℕ) → position p xs ≡ Some i → IsFirst p xs i
position-IsFirst p xs i at =
    let parts = cond_some (ltb (position_or_len p xs) (length xs)) (position_or_len p xs) i at in
    let within = ltb-true _ _ parts.0 in
    record {
      within = omega (arith, within, parts.1);
      found = λ d. rw (find_at p xs, parts.1) (slice_get-get_or xs i d (omega (arith, within, parts.1)));
    }

pub position-none : {X : Type 0} (p : X → Bool) (xs : List X) → position p xs ≡ None → find p xs ≡ None
position-none p xs none = elim (cases_Bool (ltb (position_or_len p xs) (length xs))) [
  | inl within ↦ absurd (none-some _ (sym (rw within at none)))
  | inr past ↦ rw (find_at p xs) (slice_get_past xs (position_or_len p xs) (ltb-false _ _ past))
]

pub find-some : {X : Type 0} (p : X → Bool) (xs : List X) (i : ℕ) (x : X) → position p xs ≡ Some i → x ≡ get_or xs i x → find p xs ≡ Some x
find-some p xs i x at is = (position-IsFirst p xs i at).found x ∙ ap Some (sym is)

-- ---- what is made of the list

pub without_first-none : {X : Type 0} (p : X → Bool) (xs : List X) → position p xs ≡ None → without_first p xs ≡ xs
without_first-none p xs none = rw none refl

pub without_first-some : {X : Type 0} (p : X → Bool) (xs : List X) (i : ℕ) → position p xs ≡ Some i → without_first p xs ≡ remove xs i
without_first-some p xs i at = rw at refl

pub with_first-none : {X : Type 0} (p : X → Bool) (f : X → X) (xs : List X) → position p xs ≡ None → with_first p f xs ≡ xs
with_first-none p f xs none = rw none refl

pub with_first-some : {X : Type 0} (p : X → Bool) (f : X → X) (xs : List X) (i : ℕ) (x : X) → position p xs ≡ Some i → x ≡ get_or xs i x
    → with_first p f xs ≡ slice_set xs i (f x)
with_first-some p f xs i x at is =
    let there : slice_get xs i ≡ Some x = slice_get-get_or xs i x (position-IsFirst p xs i at).within ∙ ap Some (sym is) in
    rw (at, there) refl
