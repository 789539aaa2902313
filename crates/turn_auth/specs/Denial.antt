-- The values of the attributes that say why a request was denied, read attribute by attribute.
use Rattle.std.specs.Prelude.{ℕ, ◌==◌, if◌then◌else◌, List, Option, Some, None}
use Rattle.turn_stun.specs.Message.{Attribute}

-- the value that was found before stays: of several attributes of one type the first one counts
-- (RFC 8489, section 14)
abbrev pub first_value : ℕ → Option (List ℕ) → Attribute → Option (List ℕ)
first_value kind (Some value) a = Some value
first_value kind None a = if a.kind == kind then Some a.value else None
