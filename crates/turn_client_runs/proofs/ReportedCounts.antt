-- How many elements pass a test, as lists change.
use Rattle.turn_client_laws.proofs.Common.{◌≡◌, ◌+◌, ◌≤◌, Bool, true, cond, not, List, [], ◌∷◌, map, filter, filter_map, reverse, Option, Some, drop, inl, inr, refl, sym, arith, slice_get}
use Rattle.turn_client_laws.proofs.Common.{option_map_or, cases_Bool, reverse-append}
use Rattle.turn_client_laws.proofs.Machine.{Has, cases_Option}
use Rattle.turn_client_runs.specs.Reported.{count}
use Rattle.turn_client_runs.proofs.LastingCounts.{passes, passes-append, passes-filter, one-more}

pub count-passes : {X : Type 0} (p : X → Bool) (xs : List X) → count p xs ≡ passes p xs
count-passes p [] = refl
count-passes p (x ∷ xs) = elim (cases_Bool (p x)) [
  | inl e ↦ rw e (omega (arith, count-passes p xs))
  | inr e ↦ rw e (omega (arith, count-passes p xs))
]

pub passes-reverse : {X : Type 0} (p : X → Bool) (xs : List X) → passes p (reverse xs) ≡ passes p xs
passes-reverse p [] = refl
passes-reverse p (x ∷ xs) = rw (reverse-append (x ∷ []) xs) (omega (arith, passes-append p (reverse xs) (x ∷ []), passes-reverse p xs))

-- those that are left out, and the others
pub passes-both : {X : Type 0} (p q : X → Bool) (xs : List X) → passes p (filter (λ x. not (q x)) xs) + passes p (filter q xs) ≡ passes p xs
passes-both p q [] = refl
passes-both p q (x ∷ xs) = elim (cases_Bool (q x)) [
  | inl e ↦ rw e (omega (arith, passes-both p q xs))
  | inr e ↦ rw e (omega (arith, passes-both p q xs))
]

-- without those of which one is known
pub passes-without : {X : Type 0} (p q : X → Bool) (x : X) (xs : List X) → Has x xs → q x ≡ true → passes p (filter (λ y. not (q y)) xs) + cond (p x) 1 0 ≤ passes p xs
passes-without p q x [] h e = absurd h
passes-without p q x (y ∷ xs) (inl is) e = let f : q y ≡ true = rw (sym is) e in rw (is, f) (omega (arith, passes-filter p (λ z. not (q z)) xs))
passes-without p q x (y ∷ xs) (inr h) e = elim (cases_Bool (q y)) [
  | inl f ↦ rw f (omega (arith, passes-without p q x xs h e))
  | inr f ↦ rw f (omega (arith, passes-without p q x xs h e))
]

-- what changes keeps its answer
pub passes-kept : {X : Type 0} (p : X → Bool) (f : X → X) → ((x : X) → p (f x) ≡ p x) → (xs : List X) → passes p (map f xs) ≡ passes p xs
passes-kept p f each [] = refl
passes-kept p f each (x ∷ xs) = rw (each x) (omega (arith, passes-kept p f each xs))

-- what comes of those that pass
pub passes-made : {X Y : Type 0} (p : X → Bool) (q : Y → Bool) (f : X → Option Y) (xs : List X) → ((x : X) (y : Y) → Has x xs → f x ≡ Some y → q y ≡ true → p x ≡ true)
    → passes q (filter_map f xs) ≤ passes p xs
passes-made p q f [] each = omega arith
passes-made p q f (x ∷ xs) each =
    let more = passes-made p q f xs (λ y z h. each y z (inr h)) in
    elim (cases_Option (f x)) [
      | inl e ↦ rw e (omega (arith, more))
      | inr (y, e) ↦ rw e (omega (arith, more, one-more (q y) (p x) (each x y (inl refl) e)))
    ]

-- the first, and the others
pub passes-first : {X : Type 0} (p : X → Bool) (xs : List X) → option_map_or (λ x. cond (p x) 1 0) (slice_get xs 0) 0 + passes p (drop 1 xs) ≡ passes p xs
passes-first p [] = refl
passes-first p (x ∷ xs) = refl

pub passes-over : {X Y : Type 0} (q : Y → Bool) (f : X → Y) (xs : List X) → passes q (map f xs) ≡ passes (λ x. q (f x)) xs
passes-over q f [] = refl
passes-over q f (x ∷ xs) = omega (arith, passes-over q f xs)
