-- What the program reads and writes. `input` are the bytes of the reader before, `left` after; `old` those of the writer before, `new` after.
use Rattle.std.specs.Prelude.{◌≡◌, ◌⊎◌, ℕ, ◌+◌, Bool, true, false, List, [], ◌∷◌, ◌++◌, length, take, All, codes, Option, Some, None, Result, Ok, Err}
use Rattle.std.specs.List.{flat_map}
use Rattle.std.specs.Io.{StopsAt}
use Rattle.std.specs.Io.BufRead.{strip_last}
use Rattle.std.specs.Io.KnownBytes.{Appends, Consumes}
use Rattle.turn_line_client.specs.Client.{client_of}
use Rattle.turn_lines.specs.Fault.{bad_line}
use Rattle.turn_lines.specs.Text.{bad_text}
use Rattle.turn_lines.specs.Write.{PrintsText}
use Rattle.turn_lines.specs.declared.fault.BadKind.{BadKind}
use Rattle.turn_lines.specs.declared.status.Status.{Status}
use Rattle.turn_lines.specs.declared.status.Status.TheVariants.{Answered, Malformed, OutOfMemory, ReadFailed, WriteFailed}
use Rattle.turn_session.specs.SessionState.{SessionState, new_session}
use Rattle.turn_session_lines.specs.Call.{session_call_of}
use Rattle.turn_session_lines.specs.Head.{described_in, session_head_of}
use Rattle.turn_session_lines.specs.Reply.{RepliesTo}
use Rattle.turn_session_lines.specs.Text.{answer_text}
use Rattle.turn_session_lines.specs.declared.call.SessionCall.{SessionCall}
use Rattle.turn_session_lines.specs.declared.head.SessionHead.{SessionHead}
use Rattle.turn_session_lines.specs.declared.reply.SessionReply.{SessionReply}
use Rattle.turn_session_live.specs.Input.{IsLost, IsTaken}

-- ---- one line

-- the text that answers a line with this call, and the session after it: a line that is no call changes nothing
abbrev pub IsAnsweredBy : ℕ → Result SessionCall BadKind → SessionState → List ℕ → SessionState → Type 0
IsAnsweredBy number (Ok call) was text s = (reply : SessionReply) × RepliesTo call was reply s × (text ≡ answer_text reply)
IsAnsweredBy number (Err kind) was text s = (text ≡ bad_text (bad_line number kind)) × (s ≡ was)

-- a text was written, or a part of it if the writer failed
abbrev pub Prints : Option (List ℕ) → Option (List ℕ) → List ℕ → Result (Unit {0}) Status → Type 0
Prints old new text (Ok _) = Appends old new text
Prints old new text (Err status) = (status ≡ WriteFailed) × (count : ℕ) × Appends old new (take count text)

-- the line was answered, or memory was wanted and nothing was written
abbrev pub AnswersLine : ℕ → List ℕ → SessionState → SessionState → Option (List ℕ) → Option (List ℕ) → Result (Unit {0}) Status → Type 0
AnswersLine number line was s old new result =
    ((result ≡ Err OutOfMemory) × Appends old new [])
    ⊎ ((text : List ℕ) × IsAnsweredBy number (session_call_of line) was text s × Prints old new text result)

-- ---- the next line

-- whether there was one
abbrev pub if_answered : Result (Unit {0}) Status → Result Bool Status
if_answered (Ok _) = Ok true
if_answered (Err status) = Err status

-- there is none, it could not be read, or it was read and answered
abbrev pub Steps : ℕ → SessionState → SessionState → Option (List ℕ) → Option (List ℕ) → Option (List ℕ) → Option (List ℕ) → Result Bool Status → Type 0
Steps number was s input left old new result =
    ((result ≡ Ok false) × IsTaken input left [] × (s ≡ was) × Appends old new [])
    ⊎ (((status : Status) × (result ≡ Err status) × IsLost input left status × (s ≡ was) × Appends old new [])
    ⊎ ((line : List ℕ) × (outcome : Result (Unit {0}) Status) × (result ≡ if_answered outcome)
    × IsTaken input left line × AnswersLine number (strip_last 10 line) was s old new outcome))

-- ---- many lines

-- the lines from this number on, one after the other, were answered by this text
abbrev pub IsAnswered : ℕ → List (List ℕ) → SessionState → List ℕ → SessionState → Type 0
IsAnswered number [] was text s = (text ≡ []) × (s ≡ was)
IsAnswered number (line ∷ lines) was text s =
    (said : List ℕ) × (t : SessionState) × (rest : List ℕ) × IsAnsweredBy number (session_call_of (strip_last 10 line)) was said t
    × IsAnswered (number + 1) lines t rest s × (text ≡ said ++ rest)

-- these lines after the first were read and answered, and nothing else was read and written
pub record GoesOn (lines : List (List ℕ)) (was s : SessionState) (input left old new : Option (List ℕ)) : Type 0 where
  pub consumed : Consumes input left (flat_map (λ line. line) lines)
  pub each : All (λ line. StopsAt line 10) lines
  pub text : List ℕ
  pub answered : IsAnswered 2 lines was text s
  pub written : Appends old new text

-- the last step ends the run: there is no line, or it failed
abbrev pub EndsBy : Result Bool Status → Result (Unit {0}) Status → Type 0
EndsBy (Ok true) result = result ≡ Err ReadFailed
EndsBy (Ok false) result = result ≡ Ok tt
EndsBy (Err status) result = result ≡ Err status

-- a session in this state, from the second line of the input on
abbrev pub Talks : SessionState → Option (List ℕ) → Option (List ℕ) → Option (List ℕ) → Option (List ℕ) → Result (Unit {0}) Status → Type 0
Talks was input left old new result =
    (lines : List (List ℕ)) × (s : SessionState) × (t : SessionState) × (rest : Option (List ℕ)) × (written : Option (List ℕ)) × (step : Result Bool Status)
    × GoesOn lines was s input rest old written × Steps (2 + length lines) s t rest left written new step × EndsBy step result

-- ---- the first line

abbrev pub ReadsHead : List ℕ → Result SessionHead Status → Type 0
ReadsHead line (Ok head) = session_head_of line ≡ Some (described_in head)
ReadsHead line (Err status) = ((status ≡ Malformed) × (session_head_of line ≡ None)) ⊎ (status ≡ OutOfMemory)

-- the session that it describes begins at time 0
abbrev pub session_of : SessionHead → SessionState
session_of head = new_session head.settings head.seed 0 (client_of head.client)

-- the first line describes no session, or memory was wanted, or the session talks
abbrev pub BeginsBy : List ℕ → Option (List ℕ) → Option (List ℕ) → Option (List ℕ) → Option (List ℕ) → Result (Unit {0}) Status → Type 0
BeginsBy line input left old new result =
    ((status : Status) × (result ≡ Err status) × ReadsHead line (Err status) × (left ≡ input) × Appends old new [])
    ⊎ ((head : SessionHead) × ReadsHead line (Ok head) × Talks (session_of head) input left old new result)

abbrev pub AnswersAll : Option (List ℕ) → Option (List ℕ) → Option (List ℕ) → Option (List ℕ) → Result (Unit {0}) Status → Type 0
AnswersAll input left old new result =
    ((status : Status) × (result ≡ Err status) × IsLost input left status × Appends old new [])
    ⊎ ((line : List ℕ) × (rest : Option (List ℕ)) × IsTaken input rest line × BeginsBy (strip_last 10 line) rest left old new result)

-- ---- the program

-- the last text of a run that ends with this status, and the status
abbrev pub Closes : Status → Option (List ℕ) → Option (List ℕ) → Status → Type 0
Closes Malformed old new status = PrintsText old new Malformed (codes "line 1: bad head\n") status
Closes OutOfMemory old new status = PrintsText old new OutOfMemory (codes "no memory\n") status
Closes ReadFailed old new status = PrintsText old new ReadFailed (codes "read failed\n") status
Closes Answered old new status = (status ≡ Answered) × Appends old new []
Closes WriteFailed old new status = (status ≡ WriteFailed) × Appends old new []

abbrev pub Runs : Option (List ℕ) → Option (List ℕ) → Option (List ℕ) → Option (List ℕ) → Status → Type 0
Runs input left old new status =
    ((status ≡ Answered) × AnswersAll input left old new (Ok tt))
    ⊎ ((stop : Status) × (answers : Option (List ℕ)) × AnswersAll input left old answers (Err stop) × Closes stop answers new status)
