-- A text split into parts, and how each part is parsed.
use Rattle.std.specs.Prelude.{ℕ, ◌==◌, List, [], ◌∷◌, Option, Some, None}
use Rattle.std.specs.List.{slice_split}
use Rattle.std.specs.Option.{option_map}

-- the parts between the separators; a text without a separator is one part
abbrev pub parts_of : ℕ → List ℕ → List (List ℕ)
parts_of separator text = slice_split (λ byte. byte == separator) text

-- after the last part there is none
abbrev pub parts_left : ℕ → Option (List ℕ) → List (List ℕ)
parts_left separator None = []
parts_left separator (Some text) = parts_of separator text

-- the value of the next part, and the remaining parts
abbrev pub next : {A : Type 0} → (List ℕ → Option A) → List (List ℕ) → Option (A × List (List ℕ))
next read [] = None
next read (part ∷ parts) = option_map (λ value. (value, parts)) (read part)

-- no part is left
abbrev pub ends : List (List ℕ) → Option (Unit {0})
ends [] = Some tt
ends (part ∷ parts) = None
