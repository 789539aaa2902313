-- What is true of each attribute is true of the last one of a type.
use Rattle.turn_client_laws.proofs.Common.{ℕ, ◌==◌, Bool, true, false, cond, List, [], ◌∷◌, Option, Some, fold, IfSome, AllByRecursion}
use Rattle.turn_client_laws.proofs.Machine.{Attribute, later_of}

module _ (P : Attribute → Type 0) (kind : ℕ) where
  later : (is : Bool) (before : Option Attribute) (a : Attribute) → P a → IfSome before P → IfSome (cond is (Some a) before) P
  later true before a here held = here
  later false before a here held = held

  pub last-all : (before : Option Attribute) (attributes : List Attribute) → AllByRecursion P attributes → IfSome before P → IfSome (fold (later_of kind) before attributes) P
  last-all before [] all held = held
  last-all before (a ∷ others) all held =
      last-all (later_of kind before a) others all.1 (later (a.kind == kind) before a all.0 held)
