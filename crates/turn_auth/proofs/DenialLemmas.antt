-- What is read attribute by attribute is the value of the first one of the type.
use Rattle.std.proofs.Common.{◌≡◌, ℕ, ◌==◌, Bool, true, false, cond, List, [], ◌∷◌, Some, None, fold, refl}
use Rattle.std.specs.Prelude.{option_map}
use Rattle.turn_stun.specs.Attributes.{first_of}
use Rattle.turn_stun.specs.Message.{Attribute}
use Rattle.turn_auth.specs.Denial.{first_value}

-- what was found stays
found : (kind : ℕ) (value : List ℕ) (attributes : List Attribute) → fold (first_value kind) (Some value) attributes ≡ Some value
found kind value [] = refl
found kind value (a ∷ others) = found kind value others

either : (is : Bool) (kind : ℕ) (a : Attribute) (others : List Attribute) → fold (first_value kind) None others ≡ option_map (λ (a : Attribute). a.value) (first_of kind others)
    → fold (first_value kind) (cond is (Some a.value) None) others ≡ option_map (λ (a : Attribute). a.value) (cond is (Some a) (first_of kind others))
either true kind a others rest = found kind a.value others
either false kind a others rest = rest

pub first-fold : (kind : ℕ) (attributes : List Attribute) → fold (first_value kind) None attributes ≡ option_map (λ (a : Attribute). a.value) (first_of kind attributes)
first-fold kind [] = refl
first-fold kind (a ∷ others) = either (a.kind == kind) kind a others (first-fold kind others)
