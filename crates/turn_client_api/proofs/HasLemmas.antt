-- What is in a list.
use Rattle.std.proofs.Common.{◌≡◌, ℕ, zero, suc, ◌≤◌, min, Bool, true, false, List, [], ◌∷◌, ◌++◌, map}
use Rattle.std.proofs.Common.{filter, flat_map, filter_map, find, fold, reverse, Option, Some, None, ◌⊎◌, inl, inr, refl, sym, subst}
use Rattle.std.proofs.Common.{arith}
use Rattle.std.specs.Prelude.{All, slice_get}
use Rattle.std.proofs.lemmas.Option.{none-some, same_Some}
use Rattle.std.proofs.Math.Nat.{min-le_left, min-le_right}
use Rattle.std.proofs.lemmas.Bool.{cases_Bool}
use Rattle.std.proofs.lemmas.List.{reverse-append}

-- x is in the list
abbrev pub Has : {X : Type 0} → X → List X → Type 0
Has x [] = ⊥
Has x (y ∷ ys) = (x ≡ y) ⊎ Has x ys

-- nothing, or what was found
pub cases_Option : {X : Type 0} (o : Option X) → (o ≡ None) ⊎ ((x : X) × (o ≡ Some x))
cases_Option None = inl refl
cases_Option (Some x) = inr (x, refl)

pub has-left : {X : Type 0} (x : X) (xs ys : List X) → Has x xs → Has x (xs ++ ys)
has-left x [] ys h = absurd h
has-left x (y ∷ xs) ys (inl e) = inl e
has-left x (y ∷ xs) ys (inr h) = inr (has-left x xs ys h)

pub has-right : {X : Type 0} (x : X) (xs ys : List X) → Has x ys → Has x (xs ++ ys)
has-right x [] ys h = h
has-right x (y ∷ xs) ys h = inr (has-right x xs ys h)

pub has-append : {X : Type 0} (x : X) (xs ys : List X) → Has x (xs ++ ys) → Has x xs ⊎ Has x ys
has-append x [] ys h = inr h
has-append x (y ∷ xs) ys (inl e) = inl (inl e)
has-append x (y ∷ xs) ys (inr h) = elim (has-append x xs ys h) [ inl here ↦ inl (inr here) | inr there ↦ inr there ]

pub has-reverse : {X : Type 0} (x : X) (xs : List X) → Has x xs → Has x (reverse xs)
has-reverse x [] h = absurd h
has-reverse x (y ∷ xs) (inl e) = rw (reverse-append (y ∷ []) xs) (has-right x (reverse xs) (y ∷ []) (inl e))
has-reverse x (y ∷ xs) (inr h) = rw (reverse-append (y ∷ []) xs) (has-left x (reverse xs) (y ∷ []) (has-reverse x xs h))

pub has-unreversed : {X : Type 0} (x : X) (xs : List X) → Has x (reverse xs) → Has x xs
has-unreversed x [] h = h
has-unreversed x (y ∷ xs) h = elim (has-append x (reverse xs) (y ∷ []) (rw (reverse-append (y ∷ []) xs) at h)) [
  | inl there ↦ inr (has-unreversed x xs there)
  | inr (inl e) ↦ inl e
  | inr (inr none) ↦ absurd none
]

-- what stays passed, and was in the list
pub has-filter : {X : Type 0} (p : X → Bool) (x : X) (xs : List X) → Has x (filter p xs) → Has x xs × (p x ≡ true)
has-filter p x [] h = absurd h
has-filter p x (y ∷ xs) h = elim (cases_Bool (p y)) [
  | inl passes ↦ elim (rw passes at h) [ inl e ↦ (inl e, rw e passes) | inr there ↦ let later = has-filter p x xs there in (inr later.0, later.1) ]
  | inr fails ↦ let later = has-filter p x xs (rw fails at h) in (inr later.0, later.1)
]

pub filter-has : {X : Type 0} (p : X → Bool) (x : X) (xs : List X) → Has x xs → p x ≡ true → Has x (filter p xs)
filter-has p x [] h passes = absurd h
filter-has p x (y ∷ xs) (inl e) passes = rw (rw e at passes) (inl e)
filter-has p x (y ∷ xs) (inr h) passes = elim (cases_Bool (p y)) [
  | inl here ↦ rw here (inr (filter-has p x xs h passes))
  | inr fails ↦ rw fails (filter-has p x xs h passes)
]

pub map-has : {X Y : Type 0} (f : X → Y) (x : X) (xs : List X) → Has x xs → Has (f x) (map f xs)
map-has f x [] h = absurd h
map-has f x (y ∷ xs) (inl e) = inl (rw e refl)
map-has f x (y ∷ xs) (inr h) = inr (map-has f x xs h)

pub flat_map-has : {X Y : Type 0} (f : X → List Y) (x : X) (y : Y) (xs : List X) → Has x xs → Has y (f x) → Has y (flat_map f xs)
flat_map-has f x y [] h inside = absurd h
flat_map-has f x y (z ∷ xs) (inl e) inside = has-left y (f z) (flat_map f xs) (rw e at inside)
flat_map-has f x y (z ∷ xs) (inr h) inside = has-right y (f z) (flat_map f xs) (flat_map-has f x y xs h inside)

-- an element of which y is the result
pub record Came {X Y : Type 0} (f : X → List Y) (y : Y) (xs : List X) : Type 0 where
  pub from : X
  pub there : Has from xs
  pub gives : Has y (f from)

pub has-flat_map : {X Y : Type 0} (f : X → List Y) (y : Y) (xs : List X) → Has y (flat_map f xs) → Came f y xs
has-flat_map f y [] h = absurd h
has-flat_map f y (z ∷ xs) h = elim (has-append y (f z) (flat_map f xs) h) [
  | inl here ↦ record { from = z; there = inl refl; gives = here }
  | inr later ↦ let came = has-flat_map f y xs later in record { from = came.from; there = inr came.there; gives = came.gives }
]

pub filter_map-has : {X Y : Type 0} (f : X → Option Y) (x : X) (y : Y) (xs : List X) → Has x xs → f x ≡ Some y → Has y (filter_map f xs)
filter_map-has f x y [] h gives = absurd h
filter_map-has f x y (z ∷ xs) (inl e) gives = rw (rw e at gives) (inl refl)
filter_map-has f x y (z ∷ xs) (inr h) gives = elim (cases_Option (f z)) [
  | inl e ↦ rw e (filter_map-has f x y xs h gives)
  | inr (w, e) ↦ rw e (inr (filter_map-has f x y xs h gives))
]

pub has-filter_map : {X Y : Type 0} (f : X → Option Y) (y : Y) (xs : List X) → Has y (filter_map f xs) → (x : X) × Has x xs × (f x ≡ Some y)
has-filter_map f y [] h = absurd h
has-filter_map {X = X} f y (z ∷ xs) h = elim (cases_Option (f z)) [
  | inl e ↦ later (has-filter_map f y xs (rw e at h))
  | inr (w, e) ↦ elim (rw e at h) [ inl same ↦ (z, inl refl, rw same e) | inr there ↦ later (has-filter_map f y xs there) ]
]
  where
    later : (x : X) × Has x xs × (f x ≡ Some y) → (x : X) × Has x (z ∷ xs) × (f x ≡ Some y)
    later (x, there, gives) = (x, inr there, gives)

-- what is found is in the list, and passes
pub has-found : {X : Type 0} (p : X → Bool) (x : X) (xs : List X) → find p xs ≡ Some x → Has x xs × (p x ≡ true)
has-found p x [] found = absurd (none-some x found)
has-found p x (y ∷ xs) found = elim (cases_Bool (p y)) [
  | inl passes ↦ let same : y ≡ x = same_Some y x (rw passes at found) in (inl (sym same), rw (sym same) passes)
  | inr fails ↦ let later = has-found p x xs (rw fails at found) in (inr later.0, later.1)
]

pub first-has : {X : Type 0} (x : X) (xs : List X) → slice_get xs 0 ≡ Some x → Has x xs
first-has x [] e = absurd (none-some x e)
first-has x (y ∷ ys) e = inl (sym (same_Some y x e))

pub find-none : {X : Type 0} (p : X → Bool) (xs : List X) → ((x : X) → Has x xs → p x ≡ false) → find p xs ≡ None
find-none p [] fails = refl
find-none p (y ∷ xs) fails = rw (fails y (inl refl)) (find-none p xs (λ x h. fails x (inr h)))

pub filter-none : {X : Type 0} (p : X → Bool) (xs : List X) → ((x : X) → Has x xs → p x ≡ false) → filter p xs ≡ []
filter-none p [] fails = refl
filter-none p (y ∷ xs) fails = rw (fails y (inl refl)) (filter-none p xs (λ x h. fails x (inr h)))

-- the minimum is not above any, and is one of them or the start
pub least-start : (start : ℕ) (ms : List ℕ) → fold min start ms ≤ start
least-start start [] = omega arith
least-start start (m ∷ ms) = omega (arith, least-start (min start m) ms, min-le_left start m)

pub least-le : (start m : ℕ) (ms : List ℕ) → Has m ms → fold min start ms ≤ m
least-le start m [] h = absurd h
least-le start m (k ∷ ms) (inl e) = rw e (omega (arith, least-start (min start k) ms, min-le_right start k))
least-le start m (k ∷ ms) (inr h) = least-le (min start k) m ms h

pub all-has : {X : Type 0} (P : X → Type 0) (xs : List X) → ((x : X) → Has x xs → P x) → All P xs
all-has P [] each k d within = absurd (omega (arith, within))
all-has P (y ∷ xs) each zero d within = each y (inl refl)
all-has P (y ∷ xs) each (suc k) d within = all-has P xs (λ x h. each x (inr h)) k d (omega (arith, within))

pub has-all : {X : Type 0} (P : X → Type 0) (x : X) (xs : List X) → All P xs → Has x xs → P x
has-all P x [] all h = absurd h
has-all P x (y ∷ xs) all (inl e) = subst P (sym e) (all zero y (omega arith))
has-all P x (y ∷ xs) all (inr h) = has-all P x xs (λ k d within. all (suc k) d (omega (arith, within))) h
