-- The first of a list.
use Rattle.turn_client_laws.proofs.Common.{◌≡◌, List, [], ◌∷◌, ◌++◌, Some, None, suc, drop, length, refl, ap, arith, Option, option_to_list, slice_get}

-- what comes before all but the first is the first
pub first_of : {X : Type 0} (xs : List X) (first : Option X) → xs ≡ option_to_list first ++ drop 1 xs → slice_get xs 0 ≡ first
first_of [] None e = refl
first_of [] (Some x) e = cc
first_of (y ∷ ys) (Some x) e = cc
first_of (y ∷ ys) None e = let longer : suc (length ys) ≡ length ys = ap length e in absurd (omega (arith, longer))
