-- The address at an index of those that an iterator over addresses returns.
use Rattle.std.proofs.Common.{◌≡◌, ℕ, List, Option, Some, None, length, refl, sym, ◌∙◌}
use Rattle.std.proofs.lemmas.Iterator.Consumers.{YieldsList-from_first, nth_from_yields_List}
use Rattle.std.specs.Iterator.{YieldsFirst, YieldsThen}
use Rattle.std.specs.Option.{MatchOption, option_map}
use Rattle.std.specs.Prelude.{◌≤◌, slice_get}

same_option : {A : Type 0} → (r : Option A) → option_map (λ x. x) r ≡ r
same_option None = refl
same_option (Some x) = refl

-- the call's clause `ran`, and what was left before it
pub nth_of : {S A : Type 0} → (rest : S → List A) (s : S) (all : List A) (r : Option A) (u : S) (n : ℕ)
    → rest s ≡ all
    → ((xs : List A) × YieldsThen (YieldsFirst rest) s xs r u × MatchOption r (length xs ≤ n) (λ _. length xs ≡ n))
    → r ≡ slice_get all n
nth_of rest s all r u n left ran = sym (same_option r) ∙ nth_from_yields_List r u n ran (YieldsList-from_first (λ x. x) rest all left)
