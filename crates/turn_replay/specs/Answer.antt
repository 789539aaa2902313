-- What a run of the program reads and writes.
use Rattle.std.specs.Prelude.{◌≡◌, ℕ, ◌+◌, ◌≤◌, Bool, false, List, [], ◌++◌, length, take, codes, Option, IfSome, Result, Ok, Err}
use Rattle.std.specs.Io.KnownBytes.{Consumes, IsAtEnd}
use Rattle.turn_client_api.specs.declared.call.Call.{Call}
use Rattle.turn_line_client.specs.Answered.{answered_text}
use Rattle.turn_lines.specs.Text.{bad_text}
use Rattle.turn_lines.specs.Write.{PrintsText}
use Rattle.turn_replay.specs.Trace.{trace_of}
use Rattle.turn_replay.specs.declared.input.InputError.{InputError}
use Rattle.turn_replay.specs.declared.input.InputError.TheVariants as ReadFault
use Rattle.turn_lines.specs.declared.fault.BadLine.{BadLine}
use Rattle.turn_lines.specs.declared.head.Head.{Head}
use Rattle.turn_lines.specs.declared.status.Status.{Status}
use Rattle.turn_lines.specs.declared.status.Status.TheVariants.{Answered, Malformed, OutOfMemory, ReadFailed, WriteFailed}

-- the whole input, or, of a longer input, one byte more than a trace may have
abbrev pub trace_bytes : List ℕ → List ℕ
trace_bytes input = take 1048577 input

-- these bytes were read from a reader, and no more
pub record IsRead (old new : Option (List ℕ)) (bytes : List ℕ) : Type 0 where
  pub all : IfSome old (λ input. bytes ≡ trace_bytes input)
  pub consumed : Consumes old new bytes

-- the beginning of the input was read, at most one byte more than a trace may have, and nothing else
abbrev pub ReadsSome : Option (List ℕ) → Option (List ℕ) → Type 0
ReadsSome old new = (bytes : List ℕ) × Consumes old new bytes × (length bytes ≤ 1048577)

-- what one read, after these bytes, gave that was not kept: nothing, if the reader failed
abbrev pub LosesMore : Option (List ℕ) → Option (List ℕ) → List ℕ → InputError → Type 0
LosesMore old new before ReadFault.ReadFailed = Consumes old new []
LosesMore old new before ReadFault.OutOfMemory = (more : List ℕ) × Consumes old new more × (length before + length more ≤ 1048577)

-- a read appended some bytes; if it does not continue, no bytes are left
pub record ReadsMore (old new : Option (List ℕ)) (before after : List ℕ) (goes_on : Bool) : Type 0 where
  pub more : List ℕ
  pub appended : after ≡ before ++ more
  pub consumed : Consumes old new more
  pub few : length after ≤ 1048577
  pub end : goes_on ≡ false → IsAtEnd new

-- ---- the output

-- the status and the text for a trace: a line for each call, or the one line for its first bad line
abbrev pub answer_of : Result (Head × List Call) BadLine → Status × List ℕ
answer_of (Ok trace) = (Answered, answered_text trace.0 trace.1)
answer_of (Err bad) = (Malformed, bad_text bad)

abbrev pub answer_to : List ℕ → Status × List ℕ
answer_to trace = answer_of (trace_of trace)

-- these are the status and the text that answer the bytes that were read
abbrev pub Answers : Option (List ℕ) → Option (List ℕ) → Status → List ℕ → Type 0
Answers input left status text =
    IfSome input (λ bytes. Consumes input left (trace_bytes bytes) × ((status, text) ≡ answer_to (trace_bytes bytes)))

-- The text that a run prints, by the status that it has if all of it can be written, and what it read. `input` is the
-- content of the reader before, `left` after, where these are known. With `read failed` and `no memory` the beginning
-- of the input was read. That the reader failed cannot be said: its contract does not tell when it does.
abbrev pub Says : Option (List ℕ) → Option (List ℕ) → Status → List ℕ → Type 0
Says input left Answered text = Answers input left Answered text
Says input left Malformed text = Answers input left Malformed text
Says input left OutOfMemory text = ReadsSome input left × (text ≡ codes "no memory\n")
Says input left ReadFailed text = ReadsSome input left × (text ≡ codes "read failed\n")
Says input left WriteFailed text = ⊥

-- What a run of the program does: it prints a text, and nothing else, or a prefix of it if the writer fails. `old` is
-- the content of the writer before, `new` after, where these are known.
abbrev pub Runs : Option (List ℕ) → Option (List ℕ) → Option (List ℕ) → Option (List ℕ) → Status → Type 0
Runs input left old new status = (said : Status) × (text : List ℕ) × Says input left said text × PrintsText old new said text status
