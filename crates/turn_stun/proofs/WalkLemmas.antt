-- One step of the walk over attributes, as an equation of `attributes_from`.
use Rattle.std.proofs.Common.{◌≡◌, ℕ, zero, suc, ◌+◌, ◌-◌, ◌<◌, ◌≤◌, List, [], ◌∷◌, length, drop, true, false, Option, Some, None, is_some, unwrap_or, inl, inr, refl, sym, ap, ◌∙◌, arith, add-zero}
use Rattle.std.proofs.lemmas.Bool.{cases_lt}
use Rattle.std.specs.Option.{option_map}
use Rattle.turn_stun.specs.Iterator.{found_from}
use Rattle.turn_stun.specs.Message.{attribute_at, attribute_size, attributes_from}

pub skip_whole : (n at : ℕ) (bytes : List ℕ) → n ≤ length bytes → attributes_from n at bytes ≡ attributes_from 0 (at + n) (drop n bytes)
unfolding attributes_from
skip_whole zero at bytes h = rw add-zero
skip_whole (suc n) at [] h = absurd (omega arith)
skip_whole (suc n) at (b ∷ bs) h =
    let e : at + suc n ≡ at + 1 + n = omega arith in
    rw e (skip_whole n (at + 1) bs (omega arith))

pub skip_cut : (n at : ℕ) (bytes : List ℕ) → length bytes < n → attributes_from n at bytes ≡ None
unfolding attributes_from
skip_cut zero at bytes h = absurd (omega arith)
skip_cut (suc n) at [] h = refl
skip_cut (suc n) at (b ∷ bs) h = skip_cut n (at + 1) bs (omega arith)

-- after the first byte the rest of the attribute is skipped
past_first : (k n at b : ℕ) (bs : List ℕ) → n ≡ suc k → attributes_from 0 (at + 1 + k) (drop k bs) ≡ attributes_from 0 (at + n) (drop n (b ∷ bs))
past_first k n at b bs e =
    let s : at + 1 + k ≡ at + suc k = omega arith in
    rw (e, s) refl

-- an attribute that ends within the bytes: the walk continues after it
pub step_whole : (at b : ℕ) (bs : List ℕ) → attribute_size (b ∷ bs) ≤ length (b ∷ bs)
    → attributes_from 0 at (b ∷ bs) ≡ option_map (λ later. attribute_at at (b ∷ bs) ∷ later) (attributes_from 0 (at + attribute_size (b ∷ bs)) (drop (attribute_size (b ∷ bs)) (b ∷ bs)))
unfolding attributes_from
step_whole at b bs h =
    ap (option_map (λ later. attribute_at at (b ∷ bs) ∷ later))
    (skip_whole (attribute_size (b ∷ bs) - 1) (at + 1) bs (omega arith)
    ∙ past_first (attribute_size (b ∷ bs) - 1) (attribute_size (b ∷ bs)) at b bs (omega arith))

-- an attribute that runs past the end: there is no walk
pub step_cut : (at b : ℕ) (bs : List ℕ) → length (b ∷ bs) < attribute_size (b ∷ bs) → attributes_from 0 at (b ∷ bs) ≡ None
unfolding attributes_from
step_cut at b bs h =
    ap (option_map (λ later. attribute_at at (b ∷ bs) ∷ later)) (skip_cut (attribute_size (b ∷ bs) - 1) (at + 1) bs (omega arith))

is_some-option_map : {A B : Type 0} (f : A → B) (found : Option A) → is_some (option_map f found) ≡ is_some found
is_some-option_map f None = refl
is_some-option_map f (Some x) = refl

-- whether there is a walk, after an attribute that ends within the bytes
pub is_some-whole : (at : ℕ) (bytes : List ℕ) → 0 < length bytes → attribute_size bytes ≤ length bytes
    → is_some (attributes_from 0 at bytes) ≡ is_some (attributes_from 0 (at + attribute_size bytes) (drop (attribute_size bytes) bytes))
is_some-whole at [] some h = absurd (omega arith)
is_some-whole at (b ∷ bs) some h = ap is_some (step_whole at b bs h) ∙ is_some-option_map _ _

-- there is none if an attribute runs past the end
pub is_some-cut : (at : ℕ) (bytes : List ℕ) → 0 < length bytes → length bytes < attribute_size bytes → is_some (attributes_from 0 at bytes) ≡ false
is_some-cut at [] some h = absurd (omega arith)
is_some-cut at (b ∷ bs) some h = ap is_some (step_cut at b bs h)

-- there is one if no bytes are left
pub is_some-none : (at : ℕ) (bytes : List ℕ) → length bytes ≡ 0 → is_some (attributes_from 0 at bytes) ≡ true
unfolding attributes_from
is_some-none at [] h = refl
is_some-none at (b ∷ bs) h = absurd (omega arith)

-- if there is a walk and bytes are left, the walk finds the first attribute and continues
pub record WalksOn (at : ℕ) (bytes : List ℕ) : Type 0 where
  pub within : attribute_size bytes ≤ length bytes
  pub goes_on : is_some (attributes_from 0 (at + attribute_size bytes) (drop (attribute_size bytes) bytes)) ≡ true
  pub found : unwrap_or (attributes_from 0 at bytes) [] ≡ attribute_at at bytes ∷ unwrap_or (attributes_from 0 (at + attribute_size bytes) (drop (attribute_size bytes) bytes)) []

unwrap_or-option_map : {A : Type 0} (x : A) (found : Option (List A)) → is_some found ≡ true → unwrap_or (option_map (λ later. x ∷ later) found) [] ≡ x ∷ unwrap_or found []
unwrap_or-option_map x None h = cc
unwrap_or-option_map x (Some later) h = refl

pub walks_on : (at : ℕ) (bytes : List ℕ) → 0 < length bytes → is_some (attributes_from 0 at bytes) ≡ true → WalksOn at bytes
walks_on at [] left h = absurd (omega arith)
walks_on at (b ∷ bs) left h =
    elim (cases_lt (length (b ∷ bs)) (attribute_size (b ∷ bs))) [
      | inl cut ↦ let none : false ≡ true = sym (is_some-cut at (b ∷ bs) left cut) ∙ h in cc
      | inr whole ↦
          let on : is_some (attributes_from 0 (at + attribute_size (b ∷ bs)) (drop (attribute_size (b ∷ bs)) (b ∷ bs))) ≡ true = sym (is_some-whole at (b ∷ bs) left whole) ∙ h in
          record {
            within = whole;
            goes_on = on;
            found = rw (step_whole at b bs whole) (unwrap_or-option_map _ _ on);
          }
    ]

-- whether there is a walk doesn't depend on the offsets
pub is_some-anywhere : (skip at place : ℕ) (bytes : List ℕ) → is_some (attributes_from skip at bytes) ≡ is_some (attributes_from skip place bytes)
unfolding attributes_from
is_some-anywhere zero at place [] = refl
is_some-anywhere zero at place (b ∷ bs) =
    is_some-option_map _ _ ∙ is_some-anywhere (attribute_size (b ∷ bs) - 1) (at + 1) (place + 1) bs ∙ sym (is_some-option_map _ _)
is_some-anywhere (suc skip) at place [] = refl
is_some-anywhere (suc skip) at place (b ∷ bs) = is_some-anywhere skip (at + 1) (place + 1) bs

-- nothing is found if no bytes are left
pub found_from-none : (at : ℕ) (bytes : List ℕ) → length bytes ≡ 0 → found_from at bytes ≡ []
unfolding attributes_from
found_from-none at [] h = refl
found_from-none at (b ∷ bs) h = absurd (omega arith)
