-- The decoded value of ICMP, or nothing if it is malformed, and its encoding (RFC 8656, section 18.13).
use Rattle.std.specs.Prelude.{ℕ, ◌==◌, if◌then◌else◌, List, ◌∷◌, length, slice_index, Option, Some, None}
use Rattle.std.specs.Int.{w32, to_be_bytes}
use Rattle.turn_stun.specs.Number.{u32_at}
use Rattle.turn_types.specs.declared.attribute.icmp_report.Icmp.{Icmp}

-- two bytes that are unread, the type and the code in a byte each, and four bytes of data
abbrev pub icmp_of : List ℕ → Option Icmp
icmp_of value =
    if length value == 8
    then Some (record { icmp_type = slice_index value 2; code = slice_index value 3; «data» = u32_at value 4 })
    else None

-- the unread bytes are written zero
abbrev pub icmp_value : Icmp → List ℕ
icmp_value icmp = 0 ∷ 0 ∷ icmp.icmp_type ∷ icmp.code ∷ to_be_bytes w32 icmp.data
