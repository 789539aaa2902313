-- What is written to a writer, whose content is known where it is `Some`.
use Rattle.std.specs.Prelude.{◌≡◌, ◌≤◌, ◌⊎◌, ℕ, List, [], length, take, Option, Result, Ok, Err}
use Rattle.std.specs.Io.KnownBytes.{Appends}
use Rattle.turn_lines.specs.declared.status.Status.{Status}
use Rattle.turn_lines.specs.declared.status.Status.TheVariants.{WriteFailed}
use Rattle.turn_lines.specs.declared.write.WriteError.{WriteError}

-- a text was written, or a prefix of it if the writer failed
abbrev pub Writes : Option (List ℕ) → Option (List ℕ) → List ℕ → Result (Unit {0}) WriteError → Type 0
Writes old new text (Ok _) = Appends old new text
Writes old new text (Err _) = (count : ℕ) × Appends old new (take count text)

-- a prefix of these bytes was written, of this length, or nothing if the writer failed
abbrev pub WritesSome : Option (List ℕ) → Option (List ℕ) → List ℕ → Result ℕ WriteError → Type 0
WritesSome old new bytes (Ok count) = (count ≤ length bytes) × Appends old new (take count bytes)
WritesSome old new bytes (Err _) = Appends old new []

-- a text was written and the result is that status, or the writer failed
abbrev pub PrintsText : Option (List ℕ) → Option (List ℕ) → Status → List ℕ → Status → Type 0
PrintsText old new status text result =
    ((result ≡ WriteFailed) × (count : ℕ) × Appends old new (take count text)) ⊎ ((result ≡ status) × Appends old new text)
