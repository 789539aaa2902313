-- The value of one field of a line.
use Rattle.std.specs.Prelude.{◌≡◌, ℕ, ◌==◌, ◌&&◌, ◌||◌, nat_le, Bool, if◌then◌else◌, List, [], length, codes, Option, Some, None, Result, Ok, Err, ⊤}
use Rattle.std.specs.List.{list_all}
use Rattle.std.specs.Str.{bytes_eq}
use Rattle.std.specs.Result.{result_ok}
use Rattle.hex.specs.Hex.{decode_of, decode_sized}
use Rattle.turn_stun.specs.declared.transport.TransportType.{TransportType}
use Rattle.turn_stun.specs.declared.transport.TransportType.TheVariants.{Udp, Tcp}
use Rattle.turn_lines.specs.declared.field.FieldError.{FieldError}
use Rattle.turn_lines.specs.declared.field.FieldError.TheVariants.{Malformed, OutOfMemory}

-- the parser's result, seen by `view`, is the specified one, unless memory allocation fails
abbrev pub Gives : {X Y : Type 0} → (X → Y) → Result X FieldError → Option Y → Type 0
Gives view (Ok value) reading = reading ≡ Some (view value)
Gives view (Err Malformed) reading = reading ≡ None
Gives view (Err OutOfMemory) reading = ⊤

abbrev pub transport_of : List ℕ → Option TransportType
transport_of text =
    if bytes_eq text (codes "udp") then Some Udp
    else if bytes_eq text (codes "tcp") then Some Tcp
    else None

-- digits and lower-case letters only
abbrev pub is_lower_hex : List ℕ → Bool
is_lower_hex text = list_all (λ c. (nat_le 48 c && nat_le c 57) || (nat_le 97 c && nat_le c 102)) text

-- `-` for no bytes; an empty text is an error
abbrev pub bytes_of : List ℕ → Option (List ℕ)
bytes_of text =
    if bytes_eq text (codes "-") then Some []
    else if (length text == 0) then None
    else if is_lower_hex text then result_ok (decode_of text)
    else None

-- 64 digits
abbrev pub seed_of : List ℕ → Option (List ℕ)
seed_of text = if is_lower_hex text then result_ok (decode_sized text 32) else None
