-- One line, from a reader.
use Rattle.std.specs.Prelude.{◌≡◌, ◌≢◌, ◌⊎◌, ℕ, ◌-◌, List, [], ◌∷◌, ◌++◌, All, length, take, Option, Some, None, OnSome, Result, Ok, Err, Vec, ⊤}
use Rattle.std.specs.Global.{Global}
use Rattle.std.specs.Io.KnownBytes.{Consumes, IsAtEnd}
use Rattle.turn_live.specs.declared.line.LineEnd.{LineEnd}
use Rattle.turn_live.specs.declared.line.LineEnd.TheVariants.{Feed, Input}
use Rattle.turn_live.specs.declared.stop.Stop.{Stop}
use Rattle.turn_live.specs.declared.stop.Stop.TheVariants as Stops

-- a line has no LF in it
abbrev pub IsLine : List ℕ → Type 0
IsLine line = All (λ byte. byte ≢ 10) line

-- what is kept of a line: the first bytes of one that is too long, one more than a line may have
abbrev pub first_bytes : List ℕ → List ℕ
first_bytes line = take 1048577 line

-- a piece of a line after these bytes, as far as it is kept
abbrev pub first_of_piece : List ℕ → List ℕ → List ℕ
first_of_piece front piece = take (1048577 - length front) piece

-- the bytes that were read after the line
abbrev pub feed_at : LineEnd → List ℕ
feed_at Feed = 10 ∷ []
feed_at Input = []

-- the bytes that the line lacks
abbrev pub missing_at : LineEnd → List ℕ
missing_at Feed = []
missing_at Input = 10 ∷ []

-- a line without its LF is at the end of the input, if that is known
abbrev pub EndsSo : Option (List ℕ) → Option (List ℕ) → LineEnd → Type 0
EndsSo input left Feed = ⊤
EndsSo input left Input = OnSome input (IsAtEnd left)

-- a line was read, and nothing after it
pub record IsTaken (old new : Option (List ℕ)) (line : List ℕ) (end : LineEnd) : Type 0 where
  pub consumed : Consumes old new (line ++ feed_at end)
  pub clear : IsLine line
  pub ends : EndsSo old new end

-- the bytes of a line that could not be returned, of which the LF was not read
abbrev pub IsLost : Option (List ℕ) → Option (List ℕ) → Stop → Type 0
IsLost old new Stops.ReadFailed = (bytes : List ℕ) × Consumes old new bytes × IsLine bytes
IsLost old new Stops.OutOfMemory = (bytes : List ℕ) × Consumes old new bytes × IsLine bytes
IsLost old new (Stops.Bad bad) = ⊥
IsLost old new Stops.WriteFailed = ⊥

abbrev pub TakesLine : Option (List ℕ) → Option (List ℕ) → Result (Vec ℕ Global × LineEnd) Stop → Type 0
TakesLine old new (Ok taken) = (line : List ℕ) × IsTaken old new line taken.1 × (taken.0.items ≡ first_bytes line)
TakesLine old new (Err stop) = IsLost old new stop

-- ---- a piece of a line

-- a piece was read, with the LF after it if that ended it
abbrev pub feed_if : Option LineEnd → List ℕ
feed_if None = []
feed_if (Some end) = feed_at end

abbrev pub EndsIf : Option (List ℕ) → Option (List ℕ) → Option LineEnd → Type 0
EndsIf input left None = ⊤
EndsIf input left (Some end) = EndsSo input left end

-- A piece of a line was read, and kept as far as a line is kept. `before` and `after` are the kept bytes of the line.
pub record IsPiece (old new : Option (List ℕ)) (before after piece : List ℕ) (end : Option LineEnd) : Type 0 where
  pub consumed : Consumes old new (piece ++ feed_if end)
  pub clear : IsLine piece
  pub kept : after ≡ before ++ first_of_piece before piece
  pub ends : EndsIf old new end

abbrev pub TakesSome : Option (List ℕ) → Option (List ℕ) → List ℕ → List ℕ → Result (Option LineEnd) Stop → Type 0
TakesSome old new before after (Ok end) = (piece : List ℕ) × IsPiece old new before after piece end
TakesSome old new before after (Err stop) = ((stop ≡ Stops.ReadFailed) ⊎ (stop ≡ Stops.OutOfMemory)) × Consumes old new []
