-- A list with one element more.
use Rattle.turn_client_laws.proofs.Common.{◌≡◌, ◌⊎◌, List, [], ◌∷◌, ◌++◌, inl, inr}
use Rattle.turn_client_laws.proofs.Machine.{Has, has-append}

-- what it has was there, or is the last one
pub has-last : {X : Type 0} (x : X) (xs : List X) (new : X) → Has x (xs ++ new ∷ []) → Has x xs ⊎ (x ≡ new)
has-last x xs new h = elim (has-append x xs (new ∷ []) h) [ inl old ↦ inl old | inr (inl e) ↦ inr e | inr (inr none) ↦ absurd none ]
