-- Checks in a row, of which the first that fails decides.
use Rattle.std.specs.Prelude.{Option, Some, None, Result, Err}
use Rattle.std.specs.Option.{option_and_then}

-- the second step, if the first gave a value
infixl 10 ◌>>=◌
abbrev pub ◌>>=◌ : {A B : Type 0} → Option A → (A → Option B) → Option B
o >>= f = option_and_then f o

-- continue with the value, or return the error if there is none
abbrev pub needed : {A B E : Type 0} → Option A → E → (A → Result B E) → Result B E
needed None fault go_on = Err fault
needed (Some value) fault go_on = go_on value
