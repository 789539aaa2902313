-- Decimal numbers.
use Rattle.std.specs.Prelude.{ℕ, ◌==◌, nat_le, nat_lt, Bool, ◌&&◌, not, if◌then◌else◌, List, length, slice_index, Option, Some, None}
use Rattle.std.specs.Char.{is_ascii_digit}
use Rattle.std.specs.List.{list_all}
use Rattle.std.specs.Str.Parse.{digits_value}

-- a zero before other digits
abbrev pub has_leading_zero : List ℕ → Bool
has_leading_zero text = nat_lt 1 (length text) && (slice_index text 0 == 48)

-- one digit or more
abbrev pub is_decimal : List ℕ → Bool
is_decimal text = nat_lt 0 (length text) && not (has_leading_zero text) && list_all is_ascii_digit text

-- the value of a decimal, if it is at most this
abbrev pub decimal_up_to : ℕ → List ℕ → Option ℕ
decimal_up_to most text =
    if is_decimal text && nat_le (digits_value 10 text) most then Some (digits_value 10 text) else None
