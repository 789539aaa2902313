-- Splitting a joined text gives its parts again, and parsing a part gives its value.
use Rattle.std.proofs.Common.{◌≡◌, ℕ, zero, suc, ◌^◌, ◌<◌, ◌≤◌, cond, Bool, true, false, not, List, [], ◌∷◌, ◌++◌, length, get_or, Some, None, refl, ap, ◌∙◌, arith, eq-eqb}
use Rattle.std.specs.Prelude.{⊤, ◌==◌, ◌&&◌, nat_le, nat_lt, decimal}
use Rattle.std.specs.List.{list_all, onto_first, join_with_byte}
use Rattle.std.specs.Char.{is_ascii_digit}
use Rattle.std.specs.Str.Parse.{digits_value}
use Rattle.std.proofs.lemmas.Bool.{ne_eqb, le-leb, lt-ltb}
use Rattle.std.proofs.lemmas.Fmt.{digits_decimal, digits_value-decimal, decimal_nonempty, decimal_digit, first_decimal}
use Rattle.turn_lines.specs.Number.{is_decimal, has_leading_zero, decimal_up_to}
use Rattle.turn_lines.specs.Parts.{parts_of}
use Rattle.turn_lines.proofs.NumberLemmas.{own, both}

-- ---- parts

-- this byte does not occur in the text
abbrev pub Free : ℕ → List ℕ → Type 0
Free c [] = ⊤
Free c (x ∷ xs) = ((x == c) ≡ false) × Free c xs

abbrev pub AllFree : ℕ → List (List ℕ) → Type 0
AllFree c [] = ⊤
AllFree c (part ∷ parts) = Free c part × AllFree c parts

pub Free-append : (c : ℕ) (xs ys : List ℕ) → Free c xs → Free c ys → Free c (xs ++ ys)
Free-append c [] ys f g = g
Free-append c (x ∷ xs) ys f g = (f.0, Free-append c xs ys f.1 g)

-- a byte that fails a test does not occur in a text whose bytes all pass it
pub Free-from_test : (p : ℕ → Bool) (c : ℕ) → p c ≡ false → (text : List ℕ) → list_all p text ≡ true → Free c text
Free-from_test p c fails [] h = tt
Free-from_test p c fails (x ∷ xs) h =
    let passes : p x ≡ true = (both h).0 in
    (ne_eqb x c (λ e. absurd (cc (ap p e))), Free-from_test p c fails xs (both h).1)

-- a text up to a separator
parts_of_cut : (c : ℕ) (text rest : List ℕ) → Free c text → parts_of c (text ++ c ∷ rest) ≡ text ∷ parts_of c rest
parts_of_cut c [] rest free = ap (λ b. cond b ([] ∷ parts_of c rest) (onto_first c (parts_of c rest))) (eq-eqb c c refl)
parts_of_cut c (x ∷ xs) rest free =
    ap (λ b. cond b ([] ∷ parts_of c (xs ++ c ∷ rest)) (onto_first x (parts_of c (xs ++ c ∷ rest)))) free.0
    ∙ ap (onto_first x) (parts_of_cut c xs rest free.1)

parts_of_whole : (c : ℕ) (text : List ℕ) → Free c text → parts_of c text ≡ text ∷ []
parts_of_whole c [] free = refl
parts_of_whole c (x ∷ xs) free =
    ap (λ b. cond b ([] ∷ parts_of c xs) (onto_first x (parts_of c xs))) free.0 ∙ ap (onto_first x) (parts_of_whole c xs free.1)

-- splitting a joined text gives its parts
pub parts_of-join : (c : ℕ) (part : List ℕ) (parts : List (List ℕ)) → AllFree c (part ∷ parts) → parts_of c (join_with_byte c (part ∷ parts)) ≡ part ∷ parts
parts_of-join c part [] free = parts_of_whole c part free.0
parts_of-join c part (next ∷ parts) free =
    parts_of_cut c part (join_with_byte c (next ∷ parts)) free.0 ∙ ap (λ ps. part ∷ ps) (parts_of-join c next parts free.1)

-- ---- decimals

pub false_and : (a : Bool) → a && false ≡ false
false_and true = refl
false_and false = refl

no_leading_zero : (n : ℕ) → n < 2 ^ 64 → has_leading_zero (decimal n) ≡ false
no_leading_zero zero h = ap has_leading_zero (decimal_digit 0 (omega arith))
no_leading_zero (suc n) h =
    let first : 48 < get_or (decimal (suc n)) 0 0 = first_decimal (suc n) (omega arith) h in
    ap (λ b. nat_lt 1 (length (decimal (suc n))) && b) (ne_eqb (get_or (decimal (suc n)) 0 0) 48 (λ e. absurd (omega arith))) ∙ false_and _

pub is_decimal-decimal : (n : ℕ) → n < 2 ^ 64 → is_decimal (decimal n) ≡ true
is_decimal-decimal n h =
    let some : nat_lt 0 (length (decimal n)) ≡ true = lt-ltb 0 (length (decimal n)) (decimal_nonempty n h) in
    let plain : has_leading_zero (decimal n) ≡ false = no_leading_zero n h in
    let digits : list_all is_ascii_digit (decimal n) ≡ true = digits_decimal own n h in
    λ i. some i && not (plain i) && digits i

-- parsing a printed number gives that number
pub decimal_up_to-decimal : (most n : ℕ) → n ≤ most → n < 2 ^ 64 → decimal_up_to most (decimal n) ≡ Some n
decimal_up_to-decimal most n low h =
    let t = decimal n in
    ap (λ b. cond (b && nat_le (digits_value 10 t) most) (Some (digits_value 10 t)) None) (is_decimal-decimal n h)
    ∙ ap (λ v. cond (nat_le v most) (Some v) None) (digits_value-decimal own n h)
    ∙ ap (λ b. cond b (Some n) None) (le-leb n most low)

pub decimal_free : (c n : ℕ) → is_ascii_digit c ≡ false → n < 2 ^ 64 → Free c (decimal n)
decimal_free c n fails h = Free-from_test is_ascii_digit c fails (decimal n) (digits_decimal own n h)
