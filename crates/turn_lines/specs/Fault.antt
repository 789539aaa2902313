-- The result of a parser, which may be an error, or that memory allocation failed.
use Rattle.std.specs.Prelude.{◌≡◌, ℕ, Result, Ok, Err, ⊤}
use Rattle.turn_lines.specs.declared.fault.BadKind.{BadKind}
use Rattle.turn_lines.specs.declared.fault.BadLine.{BadLine}
use Rattle.turn_lines.specs.declared.fault.ReadError.{ReadError}
use Rattle.turn_lines.specs.declared.fault.ReadError.TheVariants.{Bad, OutOfMemory}

-- the second step, if the first succeeded
infixl 10 ◌>>=◌
abbrev pub ◌>>=◌ : {A B E : Type 0} → Result A E → (A → Result B E) → Result B E
(Ok value) >>= f = f value
(Err fault) >>= f = Err fault

-- the parser's result, seen by `view`, is the specified one, unless memory allocation fails
abbrev pub Reads : {X Y E : Type 0} → (X → Y) → Result X (ReadError E) → Result Y E → Type 0
Reads view (Ok value) reading = reading ≡ Ok (view value)
Reads view (Err (Bad fault)) reading = reading ≡ Err fault
Reads view (Err OutOfMemory) reading = ⊤

-- ---- lines with their numbers

abbrev pub bad_line : ℕ → BadKind → BadLine
bad_line number kind = record { number = number; kind = kind }

-- the error of a line, with its number
abbrev pub at_line : {A : Type 0} → ℕ → Result A BadKind → Result A BadLine
at_line number (Ok value) = Ok value
at_line number (Err kind) = Err (bad_line number kind)
