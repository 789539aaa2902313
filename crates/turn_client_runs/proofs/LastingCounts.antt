-- How many elements pass a test.
use Rattle.turn_client_laws.proofs.Common.{◌≡◌, ℕ, ◌+◌, ◌≤◌, Bool, true, false, cond, not, ◌&&◌, ◌||◌, List, [], ◌∷◌, ◌++◌, length, map, filter, inl, inr, refl, sym, arith, ◌∙◌, cases_Bool}
use Rattle.turn_client_laws.proofs.Machine.{Has}

-- so many pass
abbrev pub passes : {X : Type 0} → (X → Bool) → List X → ℕ
passes p [] = 0
passes p (x ∷ xs) = cond (p x) 1 0 + passes p xs

one-less : (b : Bool) → cond b 1 0 ≤ 1
one-less true = omega arith
one-less false = omega arith

pub one-more : (b c : Bool) → (b ≡ true → c ≡ true) → cond b 1 0 ≤ cond c 1 0
one-more true c h = rw (h refl) (omega arith)
one-more false true h = omega arith
one-more false false h = omega arith

pub passes-le : {X : Type 0} (p : X → Bool) (xs : List X) → passes p xs ≤ length xs
passes-le p [] = omega arith
passes-le p (x ∷ xs) = omega (arith, one-less (p x), passes-le p xs)

-- one that fails is not among them
pub passes-less : {X : Type 0} (p : X → Bool) (x : X) (xs : List X) → Has x xs → p x ≡ false → passes p xs + 1 ≤ length xs
passes-less p x [] h e = absurd h
passes-less p x (y ∷ xs) (inl is) e = let f : p y ≡ false = rw (sym is) e in rw f (omega (arith, passes-le p xs))
passes-less p x (y ∷ xs) (inr h) e = omega (arith, one-less (p y), passes-less p x xs h e)

-- as many pass the second test, of what they have become
pub passes-map : {X : Type 0} (p q : X → Bool) (f : X → X) (xs : List X) → ((x : X) → Has x xs → p x ≡ true → q (f x) ≡ true) → passes p xs ≤ passes q (map f xs)
passes-map p q f [] each = omega arith
passes-map p q f (x ∷ xs) each =
    omega (arith, one-more (p x) (q (f x)) (each x (inl refl)), passes-map p q f xs (λ y h. each y (inr h)))

pub passes-all : {X : Type 0} (p q : X → Bool) (xs : List X) → ((x : X) → Has x xs → p x ≡ true → q x ≡ true) → passes p xs ≤ passes q xs
passes-all p q [] each = omega arith
passes-all p q (x ∷ xs) each = omega (arith, one-more (p x) (q x) (each x (inl refl)), passes-all p q xs (λ y h. each y (inr h)))

-- one more passes the second test
pub passes-more : {X : Type 0} (p q : X → Bool) (x : X) (xs : List X) → ((y : X) → Has y xs → p y ≡ true → q y ≡ true) → Has x xs → p x ≡ false → q x ≡ true
    → passes p xs + 1 ≤ passes q xs
passes-more p q x [] each h e f = absurd h
passes-more p q x (y ∷ xs) each (inl is) e f =
    let fails : p y ≡ false = rw (sym is) e in
    let now : q y ≡ true = rw (sym is) f in
    rw (fails, now) (omega (arith, passes-all p q xs (λ z h. each z (inr h))))
passes-more p q x (y ∷ xs) each (inr h) e f =
    omega (arith, one-more (p y) (q y) (each y (inl refl)), passes-more p q x xs (λ z h. each z (inr h)) h e f)

-- no more pass the second test, of what they have become
pub passes-mapped : {X : Type 0} (p q : X → Bool) (f : X → X) (xs : List X) → ((x : X) → Has x xs → q (f x) ≡ true → p x ≡ true) → passes q (map f xs) ≤ passes p xs
passes-mapped p q f [] each = omega arith
passes-mapped p q f (x ∷ xs) each =
    omega (arith, one-more (q (f x)) (p x) (each x (inl refl)), passes-mapped p q f xs (λ y h. each y (inr h)))

pub passes-append : {X : Type 0} (p : X → Bool) (xs ys : List X) → passes p (xs ++ ys) ≡ passes p xs + passes p ys
passes-append p [] ys = omega arith
passes-append p (x ∷ xs) ys = omega (arith, passes-append p xs ys)

-- those that are left out pass the other test
pub passes-split : {X : Type 0} (p q : X → Bool) (xs : List X) → passes p xs ≤ passes p (filter (λ x. not (q x)) xs) + passes q xs
passes-split p q [] = omega arith
passes-split p q (x ∷ xs) = elim (cases_Bool (q x)) [
  | inl e ↦ rw e (omega (arith, one-less (p x), passes-split p q xs))
  | inr e ↦ rw e (omega (arith, passes-split p q xs))
]

-- those that are left out pass both tests
pub passes-cut : {X : Type 0} (p q : X → Bool) (xs : List X) → passes p xs ≤ passes p (filter (λ x. not (q x)) xs) + passes (λ x. p x && q x) xs
passes-cut p q [] = omega arith
passes-cut p q (x ∷ xs) = elim (cases_Bool (q x)) [
  | inl e ↦ elim (cases_Bool (p x)) [ inl f ↦ rw (e, f) (omega (arith, passes-cut p q xs)) | inr f ↦ rw (e, f) (omega (arith, passes-cut p q xs)) ]
  | inr e ↦ elim (cases_Bool (p x)) [ inl f ↦ rw (e, f) (omega (arith, passes-cut p q xs)) | inr f ↦ rw (e, f) (omega (arith, passes-cut p q xs)) ]
]

-- two tests that none passes both, and a third one that each of those passes
pub passes-both : {X : Type 0} (p q r : X → Bool) (xs : List X) → ((x : X) → p x ≡ true → (q x ≡ false) × (r x ≡ true)) → ((x : X) → q x ≡ true → r x ≡ true) → passes p xs + passes q xs ≤ passes r xs
passes-both p q r [] first second = omega arith
passes-both p q r (x ∷ xs) first second = elim (cases_Bool (p x)) [
  | inl e ↦ let (f, g) = first x e in rw (e, f, g) (omega (arith, passes-both p q r xs first second))
  | inr e ↦ rw e (omega (arith, one-more (q x) (r x) (second x), passes-both p q r xs first second))
]

pub passes-length : {X : Type 0} (p : X → Bool) (xs : List X) → length (filter p xs) ≡ passes p xs
passes-length p [] = refl
passes-length p (x ∷ xs) = elim (cases_Bool (p x)) [ inl e ↦ rw e (omega (arith, passes-length p xs)) | inr e ↦ rw e (omega (arith, passes-length p xs)) ]

pub passes-filter : {X : Type 0} (p q : X → Bool) (xs : List X) → passes p (filter q xs) ≤ passes p xs
passes-filter p q [] = omega arith
passes-filter p q (x ∷ xs) = elim (cases_Bool (q x)) [
  | inl e ↦ rw e (omega (arith, passes-filter p q xs))
  | inr e ↦ rw e (omega (arith, passes-filter p q xs))
]

pub passes-none : {X : Type 0} (p : X → Bool) (xs : List X) → ((x : X) → Has x xs → p x ≡ false) → passes p xs ≡ 0
passes-none p [] none = refl
passes-none p (x ∷ xs) none = let e = none x (inl refl) in rw e (omega (arith, passes-none p xs (λ y h. none y (inr h))))

pub passes-one : {X : Type 0} (p : X → Bool) (x : X) (xs : List X) → Has x xs → p x ≡ true → 1 ≤ passes p xs
passes-one p x [] h e = absurd h
passes-one p x (y ∷ xs) (inl is) e = let f : p y ≡ true = rw (sym is) e in rw f (omega arith)
passes-one p x (y ∷ xs) (inr h) e = omega (arith, passes-one p x xs h e)

parts : (a b : Bool) → cond (a && b) 1 0 + cond (a && not b) 1 0 ≤ cond a 1 0
parts true true = omega arith
parts true false = omega arith
parts false b = omega arith

passes-parts : {X : Type 0} (p r : X → Bool) (xs : List X) → passes (λ x. p x && r x) xs + passes (λ x. p x && not (r x)) xs ≤ passes p xs
passes-parts p r [] = omega arith
passes-parts p r (x ∷ xs) = omega (arith, parts (p x) (r x), passes-parts p r xs)

-- two that differ in a second test
pub passes-two : {X : Type 0} (p r : X → Bool) (x y : X) (xs : List X) → Has x xs → Has y xs → p x ≡ true → p y ≡ true → r x ≡ true → r y ≡ false → 2 ≤ passes p xs
passes-two p r x y xs hx hy px py rx ry =
    omega (
      arith,
      passes-parts p r xs,
      passes-one (λ z. p z && r z) x xs hx (rw (px, rx) refl),
      passes-one (λ z. p z && not (r z)) y xs hy (rw (py, ry) refl),
    )

pub length-filtered : {X : Type 0} (p : X → Bool) (zs : List X) → length (filter p zs) ≤ length zs
length-filtered p [] = omega arith
length-filtered p (z ∷ zs) = elim (cases_Bool (p z)) [
  | inl f ↦ rw f (omega (arith, length-filtered p zs))
  | inr f ↦ rw f (omega (arith, length-filtered p zs))
]

-- one at least is left out
pub length-without : {X : Type 0} (q : X → Bool) (x : X) (xs : List X) → Has x xs → q x ≡ true → length (filter (λ y. not (q y)) xs) + 1 ≤ length xs
length-without q x [] h e = absurd h
length-without q x (y ∷ xs) (inl is) e = let f : q y ≡ true = rw (sym is) e in rw f (omega (arith, length-filtered (λ y. not (q y)) xs))
length-without q x (y ∷ xs) (inr h) e = elim (cases_Bool (q y)) [
  | inl f ↦ rw f (omega (arith, length-without q x xs h e))
  | inr f ↦ rw f (omega (arith, length-without q x xs h e))
]

-- if one passes at most, two that pass are the same
pub passes-same : {X : Type 0} (p : X → Bool) (x y : X) (xs : List X) → passes p xs ≤ 1 → Has x xs → Has y xs → p x ≡ true → p y ≡ true → x ≡ y
passes-same p x y [] few hx hy px py = absurd hx
passes-same p x y (z ∷ xs) few (inl ex) (inl ey) px py = ex ∙ sym ey
passes-same p x y (z ∷ xs) few (inl ex) (inr hy) px py =
    let here : p z ≡ true = rw (sym ex) px in
    let more = passes-one p y xs hy py in
    absurd (let few : 1 + passes p xs ≤ 1 = rw here at few in omega (arith, few, more))
passes-same p x y (z ∷ xs) few (inr hx) (inl ey) px py =
    let here : p z ≡ true = rw (sym ey) py in
    let more = passes-one p x xs hx px in
    absurd (let few : 1 + passes p xs ≤ 1 = rw here at few in omega (arith, few, more))
passes-same p x y (z ∷ xs) few (inr hx) (inr hy) px py = passes-same p x y xs (omega (arith, few)) hx hy px py

-- one of two holds, and it is not the other
pub or_first : (a b : Bool) → b ≡ false → (a || b) ≡ true → a ≡ true
or_first true b none e = refl
or_first false b none e = let no : false ≡ true = sym none ∙ e in cc

pub or_else : (a b : Bool) → a ≡ false → (a || b) ≡ true → b ≡ true
or_else true b none e = cc
or_else false b none e = e
