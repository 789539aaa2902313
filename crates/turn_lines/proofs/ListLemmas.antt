-- A printed list: the number of its elements, and then each after a space.
use Rattle.std.proofs.Common.{◌≡◌, ℕ, List, [], ◌∷◌, ◌++◌, length, refl, sym, ap, ◌∙◌}
use Rattle.std.specs.Prelude.{codes, decimal}
use Rattle.std.specs.List.{flat_map}
use Rattle.std.proofs.lemmas.Grind.{flat_map-append}
use Rattle.std.proofs.lemmas.List.{append-nil}
use Rattle.turn_lines.specs.Text.{fields_text, list_fields}

-- each with a space before it
abbrev pub spaced : List (List ℕ) → List ℕ
spaced parts = flat_map (λ part. 32 ∷ part) parts

fields_text-first : (part : List ℕ) (parts : List (List ℕ)) → fields_text (part ∷ parts) ≡ part ++ spaced parts
fields_text-first part [] = sym (append-nil part)
fields_text-first part (next ∷ parts) = ap (λ text. part ++ 32 ∷ text) (fields_text-first next parts)

spaced-flat_map : {X : Type 0} → (fields : X → List (List ℕ)) (xs : List X) → spaced (flat_map fields xs) ≡ flat_map (λ x. spaced (fields x)) xs
spaced-flat_map fields [] = refl
spaced-flat_map fields (x ∷ xs) =
    flat_map-append (λ part. 32 ∷ part) (fields x) (flat_map fields xs) ∙ ap (λ text. spaced (fields x) ++ text) (spaced-flat_map fields xs)

-- the text of the first elements, after the count of all
abbrev pub list_text : {X : Type 0} → (X → List (List ℕ)) → ℕ → List X → List ℕ
list_text fields count xs = fields_text (codes "list" ∷ decimal count ∷ []) ++ flat_map (λ x. spaced (fields x)) xs

pub fields_text-list : {X : Type 0} → (fields : X → List (List ℕ)) (xs : List X) → fields_text (list_fields fields xs) ≡ list_text fields (length xs) xs
fields_text-list fields xs =
    fields_text-first (codes "list") (decimal (length xs) ∷ flat_map fields xs)
    ∙ ap (λ text. codes "list" ++ (32 ∷ (decimal (length xs) ++ text))) (spaced-flat_map fields xs)
