-- Steps of a parser that succeeded: each of them gave a value.
use Rattle.std.proofs.Common.{◌≡◌, cond, Bool, true, false, Option, Some, None, Result, Ok, Err, refl}
use Rattle.std.specs.Option.{option_map, option_and_then}
use Rattle.turn_client_calls.specs.Checks.{needed}
use Rattle.turn_lines.specs.Fault.{◌>>=◌}

pub of_map : {A B : Type 0} → (f : A → B) (o : Option A) (b : B) → option_map f o ≡ Some b → (a : A) × (o ≡ Some a) × (f a ≡ b)
of_map f None b h = cc
of_map f (Some a) b h = (a, refl, cc)

pub of_and_then : {A B : Type 0} → (o : Option A) (f : A → Option B) (b : B) → option_and_then f o ≡ Some b → (a : A) × (f a ≡ Some b)
of_and_then None f b h = cc
of_and_then (Some a) f b h = (a, h)

pub of_needed : {A B E : Type 0} → (o : Option A) (fault : E) (f : A → Result B E) (b : B) → needed o fault f ≡ Ok b → (a : A) × (o ≡ Some a) × (f a ≡ Ok b)
of_needed None fault f b h = cc
of_needed (Some a) fault f b h = (a, refl, h)

pub of_then : {A E : Type 0} → (test : Bool) (fault : E) (a b : A) → cond test (Ok a) (Err fault) ≡ Ok b → (test ≡ true) × (a ≡ b)
of_then true fault a b h = (refl, cc)
of_then false fault a b h = cc

pub of_else : {A E : Type 0} → (test : Bool) (fault : E) (r : Result A E) (a : A) → cond test (Err fault) r ≡ Ok a → r ≡ Ok a
of_else true fault r a h = cc
of_else false fault r a h = h

pub of_guard : {A : Type 0} → (test : Bool) (a b : A) → cond test (Some a) None ≡ Some b → (test ≡ true) × (a ≡ b)
of_guard true a b h = (refl, cc)
of_guard false a b h = cc

pub of_both : {A B E : Type 0} → (r : Result A E) (f : A → Result B E) (b : B) → r >>= f ≡ Ok b → (a : A) × (r ≡ Ok a) × (f a ≡ Ok b)
of_both (Ok a) f b h = (a, refl, h)
of_both (Err fault) f b h = cc

pub some_is : {A : Type 0} → (a b : A) → Some a ≡ Some b → a ≡ b
some_is a b h = cc

pub ok_is : {A E : Type 0} → (a b : A) → ◌≡◌ {A = Result A E} (Ok a) (Ok b) → a ≡ b
ok_is a b h = cc
