-- Decimals, as std reads them.
use Rattle.std.proofs.Common.{◌≡◌, ℕ, ◌^◌, ◌<◌, cond, Bool, true, false, List, length, Some, None, Result, Err, refl, ap, arith, rules}
use Rattle.std.specs.Prelude.{nat_le, ◌&&◌}
use Rattle.std.specs.Char.{is_ascii_digit}
use Rattle.std.specs.List.{list_all}
use Rattle.std.specs.Str.{IsUtf8}
use Rattle.std.specs.Str.Parse.{ParsesUnsigned, digits_value}
use Rattle.std.specs.Result.{OkIff}
use borrow.Author.Tests.{ltb-true}
use Rattle.std.proofs.lemmas.Bool.{lt-leb}
use Rattle.std.proofs.lemmas.Str.{IsUtf8-from_ascii}
use Rattle.std.proofs.lemmas.Str.Parse.{IsNumeralModel, numerals_by_value, parse_digits}
use Rattle.std.proofs.lemmas.Fmt.{IsAscii-from_digits}
use Rattle.turn_lines.specs.Number.{is_decimal, decimal_up_to}

-- each byte is a digit
abbrev pub AreDigits : List ℕ → Type 0
AreDigits text = list_all is_ascii_digit text ≡ true

pub own : IsNumeralModel AreDigits (digits_value 10)
own = numerals_by_value AreDigits (search rules)

-- both operands are true
pub both : {a b : Bool} → a && b ≡ true → (a ≡ true) × (b ≡ true)
both {a = true} h = (refl, h)
both {a = false} h = cc

pub digits_of_decimal : (text : List ℕ) → is_decimal text ≡ true → AreDigits text
digits_of_decimal text h = (both h).1

-- a decimal is text
pub utf8_of_decimal : (text : List ℕ) → is_decimal text ≡ true → IsUtf8 text
utf8_of_decimal text h = IsUtf8-from_ascii text (IsAscii-from_digits text (own.to text (digits_of_decimal text h)))

-- std parses a decimal to its value, unless that is too large
pub parse_of_decimal : {E : Type 0} → (text : List ℕ) (r : Result ℕ E) → ParsesUnsigned 64 10 text r → is_decimal text ≡ true
    → OkIff r ((0 < length text) × (digits_value 10 text < 2 ^ 64)) (digits_value 10 text)
parse_of_decimal text r h decimal = parse_digits own 64 text r h (digits_of_decimal text decimal)

too_large : (most n : ℕ) (p : Bool) → most < n → cond (p && nat_le n most) (Some n) None ≡ None
too_large most n false h = refl
too_large most n true h = ap (λ b. cond b (Some n) None) (lt-leb n most h)

-- a decimal that std refuses is too large
pub decimal_not_parsed : {E : Type 0} → (most : ℕ) (text digits : List ℕ) (e : E) → most < 2 ^ 64 → digits ≡ text → ParsesUnsigned 64 10 digits (Err e) → is_decimal text ≡ true
    → decimal_up_to most text ≡ None
decimal_not_parsed {E} most text digits e small same h decimal =
    let read : ParsesUnsigned 64 10 text (Err e) = rw same at h in
    let fails : (0 < length text) × (digits_value 10 text < 2 ^ 64) → ⊥ = parse_of_decimal text (Err e) read decimal in
    let some : 0 < length text = ltb-true 0 (length text) (both (both decimal).0).0 in
    let large : digits_value 10 text < 2 ^ 64 → ⊥ = λ low. fails (some, low) in
    too_large most (digits_value 10 text) (is_decimal text) (omega arith)
