-- The numbers of address families (RFC 8656, section 18.6).
use Rattle.std.specs.Prelude.{ℕ, ◌==◌, if◌then◌else◌, Option, Some, None}
use Rattle.turn_types.specs.declared.family.AddressFamily.{AddressFamily}
use Rattle.turn_types.specs.declared.family.AddressFamily.TheVariants.{IPV4, IPV6}

abbrev pub family_number : AddressFamily → ℕ
family_number IPV4 = 1
family_number IPV6 = 2

-- the family with this number, if there is one
abbrev pub family_with_number : ℕ → Option AddressFamily
family_with_number number = if number == 1 then Some IPV4 else (if number == 2 then Some IPV6 else None)
