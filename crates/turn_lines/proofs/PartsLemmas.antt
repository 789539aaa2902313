-- Splitting a text, from the first part on.
use Rattle.std.proofs.Common.{◌≡◌, ℕ, ◌+◌, ◌-◌, ◌<◌, ◌≤◌, false, List, [], ◌∷◌, ◌++◌, length, get_or, take, drop, Some, None, refl, sym, ap, ◌∙◌, arith}
use Rattle.std.specs.Prelude.{◌==◌}
use Rattle.std.specs.List.{All}
use Rattle.std.proofs.lemmas.List.{take-append-drop, drop_more, get_or-take, length-take, take_rest, get_or_default}
use Rattle.std.proofs.lemmas.Bool.{false_from_ne_true}
use Rattle.std.proofs.lemmas.List.Splits.{slice_split_at, slice_split_none, length-slice_split}
use Rattle.memchr.specs.Find.{Nowhere, Passes, IsFirstByte, is_byte}
use Rattle.turn_lines.specs.Parts.{parts_of, ends}

-- the bytes before this place are no separators
clear_front : (separator : ℕ) (text : List ℕ) (place : ℕ) → place ≤ length text → Nowhere (Passes (is_byte separator) text) 0 place → All (λ byte. (byte == separator) ≡ false) (take place text)
clear_front separator text place inside none k d low =
    let below : k < place = omega (arith, length-take place text) in
    rw (get_or-take place text k d below, get_or_default text k d 0 (omega arith)) (false_from_ne_true (get_or text k 0 == separator) (none k (omega arith) below))

-- the first part ends before the first separator
pub parts_of_found : (separator : ℕ) (text : List ℕ) (place : ℕ) → IsFirstByte (is_byte separator) text (Some place)
    → parts_of separator text ≡ take place text ∷ parts_of separator (take (length text - (place + 1)) (drop (place + 1) text))
parts_of_found separator text place found =
    let inside : place < length text = found.0.high in
    let whole : text ≡ take place text ++ (get_or text place 0 ∷ drop (place + 1) text) =
    sym (take-append-drop place text) ∙ ap (λ rest. take place text ++ rest) (drop_more text place 0 inside) in
    rw (take_rest text (place + 1))
    (ap (parts_of separator) whole
    ∙ slice_split_at (λ byte. byte == separator) (take place text) (get_or text place 0) (drop (place + 1) text)
    (clear_front separator text place (omega arith) found.0.before) found.1)

-- a text with no separator is one part
pub parts_of_none : (separator : ℕ) (text : List ℕ) → IsFirstByte (is_byte separator) text None → parts_of separator text ≡ text ∷ []
parts_of_none separator text none = slice_split_none (λ byte. byte == separator) text
    (λ k d low. rw (get_or_default text k d 0 low) (false_from_ne_true (get_or text k 0 == separator) (none k (omega arith) low)))

some_left : (parts : List (List ℕ)) → 0 < length parts → ends parts ≡ None
some_left [] h = absurd (omega arith)
some_left (part ∷ parts) h = refl

-- a text has at least one part
pub ends_of_parts : (separator : ℕ) (text : List ℕ) → ends (parts_of separator text) ≡ None
ends_of_parts separator text = some_left (parts_of separator text) (omega (arith, length-slice_split (λ byte. byte == separator) text))
