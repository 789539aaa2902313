-- What a message says by its attributes that count: those before an integrity attribute, and the first of a type alone
-- (RFC 8489, sections 14, 14.5 and 14.6).
use Rattle.std.specs.Prelude.{ℕ, List, Option, option_and_then, option_map}
use Rattle.turn_stun.specs.Attributes.{first_of, seen_of}
use Rattle.turn_stun.specs.Values.{error_code_of}

-- the value of the first attribute of this type among those that count
abbrev pub value_in : ℕ → List ℕ → Option (List ℕ)
value_in kind message = option_map (λ first. first.value) (first_of kind (seen_of message))

-- the code of ERROR-CODE, if that is well formed (section 14.8)
abbrev pub code_in : List ℕ → Option ℕ
code_in message = option_map (λ refusal. refusal.code) (option_and_then error_code_of (value_in 0x0009 message))
