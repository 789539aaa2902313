-- The first row of a list that passes a test.
use Rattle.std.specs.Prelude.{ℕ, Bool, List, remove, slice_get, slice_set, Option, Some, None}
use Rattle.std.specs.List.{position}

-- the rows but the first that passes
abbrev pub without_first : {X : Type 0} → (X → Bool) → List X → List X
without_first {X = X} test rows = by (position test rows)
  where
    by : Option ℕ → List X
    by None = rows
    by (Some place) = remove rows place

-- the first that passes is changed
abbrev pub with_first : {X : Type 0} → (X → Bool) → (X → X) → List X → List X
with_first {X = X} test change rows = by (position test rows)
  where
    at : ℕ → Option X → List X
    at place None = rows
    at place (Some row) = slice_set rows place (change row)

    by : Option ℕ → List X
    by None = rows
    by (Some place) = at place (slice_get rows place)
