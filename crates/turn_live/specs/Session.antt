-- What a session reads and writes.
use Rattle.std.specs.Prelude.{◌≡◌, ◌≤◌, ◌⊎◌, ℕ, Bool, true, false, List, [], ◌∷◌, ◌++◌, All, length, take, codes, Option, Some, None, OnSome, Result, Ok, Err}
use Rattle.std.specs.Io.KnownBytes.{Appends, Consumes, IsAtEnd}
use Rattle.turn_stun.specs.declared.transport.TransportType.{TransportType}
use Rattle.turn_client_api.specs.declared.call.Call.{Call}
use Rattle.turn_client_api.specs.State.{State}
use Rattle.turn_lines.specs.Text.{bad_text}
use Rattle.turn_lines.specs.Write.{PrintsText}
use Rattle.turn_lines.specs.declared.fault.BadKind.{BadKind}
use Rattle.turn_lines.specs.declared.fault.BadLine.{BadLine}
use Rattle.turn_lines.specs.declared.head.Head.{Head}
use Rattle.turn_lines.specs.declared.status.Status.{Status}
use Rattle.turn_lines.specs.declared.status.Status.TheVariants.{Answered, Malformed, OutOfMemory, ReadFailed, WriteFailed}
use Rattle.turn_live.specs.Line.{EndsSo, IsLine, IsTaken, missing_at}
use Rattle.turn_live.specs.Lines.{after_line, joined_lines, line_call, line_head, line_said, session_of}
use Rattle.turn_live.specs.declared.line.LineEnd.{LineEnd}
use Rattle.turn_live.specs.declared.line.LineEnd.TheVariants.{Feed, Input}
use Rattle.turn_live.specs.declared.stop.Stop.{Stop}
use Rattle.turn_live.specs.declared.stop.Stop.TheVariants as Stops

-- ---- one line

abbrev pub ReadsHead : List ℕ → Result Head Stop → Type 0
ReadsHead line (Ok head) = line_head line ≡ Ok head
ReadsHead line (Err (Stops.Bad bad)) = line_head line ≡ Err bad
ReadsHead line (Err stop) = stop ≡ Stops.OutOfMemory

-- A line with this call was answered, and the client has made the call. If it is no call, what is wrong with it was
-- answered, and the client is as it was.
pub record IsAnswered (read : Result Call BadKind) (s after : State) (old new : Option (List ℕ)) : Type 0 where
  pub told : Appends old new (line_said s read)
  pub state : after ≡ after_line s read

-- the writer failed during that answer
abbrev pub IsCutOff : Result Call BadKind → State → Option (List ℕ) → Option (List ℕ) → Type 0
IsCutOff read s old new = (count : ℕ) × Appends old new (take count (line_said s read))

abbrev pub AnswersLine : Result Call BadKind → State → State → Option (List ℕ) → Option (List ℕ) → Result (Unit {0}) Stop → Type 0
AnswersLine read s after old new (Ok _) = IsAnswered read s after old new
AnswersLine read s after old new (Err (Stops.Bad bad)) = ⊥
AnswersLine read s after old new (Err Stops.OutOfMemory) = Appends old new []
AnswersLine read s after old new (Err Stops.ReadFailed) = ⊥
AnswersLine read s after old new (Err Stops.WriteFailed) = IsCutOff read s old new

-- these bytes are of one line, which its LF may end
abbrev pub IsOfOneLine : List ℕ → Type 0
IsOfOneLine bytes = (line : List ℕ) × IsLine line × ((bytes ≡ line) ⊎ (bytes ≡ line ++ 10 ∷ []))

-- One step of a session: it reads at most one line, and writes the answer before it ends. It returns whether there
-- may be more lines. No line after the first ends a session.
abbrev pub Steps : TransportType → State → State → Option (List ℕ) → Option (List ℕ) → Option (List ℕ) → Option (List ℕ) → Result Bool Stop → Type 0
Steps relays s after input left old new (Ok true) =
    (line : List ℕ) × IsTaken input left line Feed × IsAnswered (line_call relays line) s after old new
Steps relays s after input left old new (Ok false) =
    (line : List ℕ) × IsTaken input left line Input
    × (((line ≡ []) × (after ≡ s) × Appends old new []) ⊎ IsAnswered (line_call relays line) s after old new)
Steps relays s after input left old new (Err (Stops.Bad bad)) = ⊥
Steps relays s after input left old new (Err Stops.OutOfMemory) =
    (bytes : List ℕ) × Consumes input left bytes × IsOfOneLine bytes × Appends old new []
Steps relays s after input left old new (Err Stops.ReadFailed) =
    (bytes : List ℕ) × Consumes input left bytes × IsLine bytes × Appends old new []
Steps relays s after input left old new (Err Stops.WriteFailed) =
    (line : List ℕ) × (end : LineEnd) × IsTaken input left line end × IsCutOff (line_call relays line) s old new

-- ---- many lines

-- These lines were read, and then this much of the next line. The last line may lack its LF.
pub record ReadsLines (input left : Option (List ℕ)) (lines : List (List ℕ)) (rest : List ℕ) (end : LineEnd) : Type 0 where
  pub bytes : List ℕ
  pub consumed : Consumes input left bytes
  pub whole : joined_lines lines ++ rest ≡ bytes ++ missing_at end
  pub each : All IsLine lines

-- the lines were read, and this one of them ends the session
pub record RunsLines (said : List (List ℕ) → List ℕ × Option BadLine) (input left : Option (List ℕ)) (lines : List (List ℕ)) (rest : List ℕ) (end : LineEnd)
    (bad : Option BadLine) : Type 0 where
  pub read : ReadsLines input left lines rest end
  pub bad_is : (said lines).1 ≡ bad

-- A session with these answers to lines, by how it ends.
abbrev pub Talks : (List (List ℕ) → List ℕ × Option BadLine) → Option (List ℕ) → Option (List ℕ) → Option (List ℕ) → Option (List ℕ) → Result (Unit {0}) Stop
    → Type 0
-- at the end of the input, with each line answered
Talks said input left old new (Ok _) =
    (lines : List (List ℕ)) × (end : LineEnd) × RunsLines said input left lines [] end None × OnSome input (IsAtEnd left) × Appends old new (said lines).0
-- at a first line that ends it, after which nothing was read
Talks said input left old new (Err (Stops.Bad bad)) =
    (line : List ℕ) × (end : LineEnd) × RunsLines said input left (line ∷ []) [] end (Some bad) × EndsSo input left end × Appends old new []
-- at a line for which memory allocation failed, with no other line after the answered ones
Talks said input left old new (Err Stops.OutOfMemory) =
    (lines : List (List ℕ)) × (rest : List ℕ) × RunsLines said input left lines rest Feed None × IsOfOneLine rest × Appends old new (said lines).0
-- at a line that could not be read to its end
Talks said input left old new (Err Stops.ReadFailed) =
    (lines : List (List ℕ)) × (rest : List ℕ) × RunsLines said input left lines rest Feed None × IsLine rest × Appends old new (said lines).0
-- at a line whose answer could not be written
Talks said input left old new (Err Stops.WriteFailed) =
    (lines : List (List ℕ)) × (line : List ℕ) × (end : LineEnd) × (count : ℕ) × RunsLines said input left (lines ++ line ∷ []) [] end None
    × EndsSo input left end × Appends old new (take count (said (lines ++ line ∷ [])).0)

-- a session from its first line on
abbrev pub IsSession : Option (List ℕ) → Option (List ℕ) → Option (List ℕ) → Option (List ℕ) → Result (Unit {0}) Stop → Type 0
IsSession = Talks session_of

-- ---- the program

-- the last text of a session, by why it ended
abbrev pub Closes : Stop → Option (List ℕ) → Option (List ℕ) → Status → Type 0
Closes (Stops.Bad bad) old new status = PrintsText old new Malformed (bad_text bad) status ⊎ PrintsText old new OutOfMemory (codes "no memory\n") status
Closes Stops.OutOfMemory old new status = PrintsText old new OutOfMemory (codes "no memory\n") status
Closes Stops.ReadFailed old new status = PrintsText old new ReadFailed (codes "read failed\n") status
Closes Stops.WriteFailed old new status = (status ≡ WriteFailed) × Appends old new []

-- What a run of the program does. `input` is the content of the reader before, `left` after; `old` is the content of
-- the writer before, `new` after, where these are known.
abbrev pub Runs : Option (List ℕ) → Option (List ℕ) → Option (List ℕ) → Option (List ℕ) → Status → Type 0
Runs input left old new status =
    ((status ≡ Answered) × IsSession input left old new (Ok tt))
    ⊎ ((stop : Stop) × (answers : Option (List ℕ)) × IsSession input left old answers (Err stop) × Closes stop answers new status)
