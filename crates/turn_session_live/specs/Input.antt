-- One line of the input, whose bytes are known where they are `Some`.
use Rattle.std.specs.Prelude.{◌≡◌, ◌⊎◌, ℕ, List, Option, IfSome, Result, Ok, Err, Vec}
use Rattle.std.specs.Global.{Global}
use Rattle.std.specs.Io.{StopsAt}
use Rattle.std.specs.Io.BufRead.{take_through}
use Rattle.std.specs.Io.KnownBytes.{Consumes}
use Rattle.turn_lines.specs.declared.status.Status.{Status}
use Rattle.turn_lines.specs.declared.status.Status.TheVariants.{OutOfMemory, ReadFailed}

-- a line was read, and nothing after it: the bytes up to and including the first LF, or all of them
pub record IsTaken (input left : Option (List ℕ)) (line : List ℕ) : Type 0 where
  pub consumed : Consumes input left line
  pub one_line : StopsAt line 10
  pub whole : IfSome input (λ bytes. line ≡ take_through 10 bytes)

-- bytes of a line that could not be read to its end
abbrev pub IsLost : Option (List ℕ) → Option (List ℕ) → Status → Type 0
IsLost input left status =
    ((status ≡ OutOfMemory) ⊎ (status ≡ ReadFailed)) × (bytes : List ℕ) × Consumes input left bytes × StopsAt bytes 10

abbrev pub TakesLine : Option (List ℕ) → Option (List ℕ) → Result (Vec ℕ Global) Status → Type 0
TakesLine input left (Ok line) = IsTaken input left line.items
TakesLine input left (Err status) = IsLost input left status
