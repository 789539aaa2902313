-- Results, and values that may be there.
use Rattle.turn_client_laws.proofs.Common.{Result, Ok, Err, OnErr, OnOk, IsOk, is_none, is_some, ◌≡◌, true, false, List, [], ◌∷◌, length, Option, Some, None, refl, rules}
use Rattle.std.specs.Prelude.{◌≤◌}

-- what holds in any case holds on an error
pub on-err : {T E P : Type 0} (r : Result T E) → P → OnErr r P
on-err (Ok x) p = tt
on-err (Err e) p = p

-- what follows on a value
pub on-ok-map : {T E P Q : Type 0} (r : Result T E) → (P → Q) → OnOk r P → OnOk r Q
on-ok-map (Ok x) f p = f p
on-ok-map (Err e) f p = tt

-- what follows on an error
pub on-err-map : {T E P Q : Type 0} (r : Result T E) → (P → Q) → OnErr r P → OnErr r Q
on-err-map (Ok x) f p = tt
on-err-map (Err e) f p = f p

-- of two facts on an error a third follows
pub on-both : {T E P Q R : Type 0} (r : Result T E) → (P → Q → R) → OnErr r P → OnErr r Q → OnErr r R
on-both (Ok x) f p q = tt
on-both (Err e) f p q = f p q

-- what can be no error is a value
pub no-err : {T E : Type 0} (r : Result T E) → OnErr r ⊥ → IsOk r
no-err (Ok x) h = refl
no-err (Err e) h = absurd h

-- what fails only for a list that is not empty
pub err-some : {A T E : Type 0} (xs : List A) (r : Result T E) → (xs ≡ [] → IsOk r) → OnErr r (1 ≤ length xs)
err-some xs (Ok x) ok = tt
err-some {T = T} {E = E} [] (Err e) ok = let clash : IsOk {T = T} {E = E} (Err e) = ok refl in absurd cc
err-some (x ∷ xs) (Err e) ok = search rules

pub none-is : {A : Type 0} (o : Option A) → is_none o ≡ true → o ≡ None
none-is None e = refl
none-is (Some x) e = cc

-- what is not none is there
pub some-is : {A : Type 0} (o : Option A) → (o ≡ None → ⊥) → is_some o ≡ true
some-is None absent = absurd (absent refl)
some-is (Some x) absent = refl

pub none-some_not : {A : Type 0} (o : Option A) → is_some o ≡ false → o ≡ None
none-some_not None e = refl
none-some_not (Some x) e = cc
