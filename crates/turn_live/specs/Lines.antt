-- The meaning of the lines of a session.
use Rattle.std.specs.Prelude.{ℕ, nat_lt, if◌then◌else◌, List, [], ◌∷◌, ◌++◌, length, codes, Option, Some, None, Result, Ok, Err}
use Rattle.std.specs.List.{flat_map}
use Rattle.turn_stun.specs.declared.transport.TransportType.{TransportType}
use Rattle.turn_client_api.specs.declared.call.Call.{Call}
use Rattle.turn_client_api.specs.State.{State}
use Rattle.turn_client_api.specs.Steps.{state_after}
use Rattle.turn_client_calls.specs.Checks.{needed}
use Rattle.turn_client_calls.specs.Run.{reply_of}
use Rattle.turn_client_calls.specs.declared.reply.Reply.{Reply}
use Rattle.turn_lines.specs.Call.{call_of}
use Rattle.turn_line_client.specs.Client.{client_of}
use Rattle.turn_lines.specs.Fault.{bad_line}
use Rattle.turn_lines.specs.Head.{head_of}
use Rattle.turn_lines.specs.Text.{kind_text, line_text, reply_fields}
use Rattle.turn_lines.specs.declared.fault.BadKind.{BadKind}
use Rattle.turn_lines.specs.declared.fault.BadKind.TheVariants as Bad
use Rattle.turn_lines.specs.declared.fault.BadLine.{BadLine}
use Rattle.turn_lines.specs.declared.head.Head.{Head}

-- lines, each ended by LF
abbrev pub joined_lines : List (List ℕ) → List ℕ
joined_lines lines = flat_map (λ line. line ++ 10 ∷ []) lines

-- the first line, of at most a mebibyte
abbrev pub line_head : List ℕ → Result Head BadLine
line_head line = if nat_lt 1048576 (length line) then Err (bad_line 1 Bad.Size) else needed (head_of line) (bad_line 1 Bad.Head) Ok

-- the call of another line, of at most a mebibyte, or what is wrong with the line
abbrev pub line_call : TransportType → List ℕ → Result Call BadKind
line_call relays line = if nat_lt 1048576 (length line) then Err Bad.Size else call_of relays line

-- ---- answers

-- the answer to a line, by its call: the machine's reply, or what is wrong with the line
abbrev pub answer_of : State → Result Call BadKind → Result Reply BadKind
answer_of s (Ok call) = Ok (reply_of call s)
answer_of s (Err kind) = Err kind

-- the client after that line: one that is no call changes nothing
abbrev pub after_line : State → Result Call BadKind → State
after_line s (Ok call) = state_after call s
after_line s (Err kind) = s

-- what is wrong with a line, as a line: `bad call`
abbrev pub bad_answer : BadKind → List ℕ
bad_answer kind = codes "bad " ++ (kind_text kind ++ codes "\n")

-- each answer is a line
abbrev pub answer_text : Result Reply BadKind → List ℕ
answer_text (Ok reply) = line_text (reply_fields reply)
answer_text (Err kind) = bad_answer kind

-- what a client in this state writes for a line
abbrev pub line_said : State → Result Call BadKind → List ℕ
line_said s read = flat_map answer_text (answer_of s read ∷ [])

-- the answers to lines, one to each, and the client after them
abbrev pub answers_to : TransportType → State → List (List ℕ) → List (Result Reply BadKind)
answers_to relays s [] = []
answers_to relays s (line ∷ lines) = answer_of s (line_call relays line) ∷ answers_to relays (after_line s (line_call relays line)) lines

abbrev pub after_lines : TransportType → State → List (List ℕ) → State
after_lines relays s [] = s
after_lines relays s (line ∷ lines) = after_lines relays (after_line s (line_call relays line)) lines

-- for lines from the second of a session on: what is written for them, and that none of them ends the session
abbrev pub calls_said : TransportType → State → List (List ℕ) → List ℕ × Option BadLine
calls_said relays s lines = (flat_map answer_text (answers_to relays s lines), None)

-- ---- whole sessions

-- what is written for the lines after the first, or the first line if it is no head, which ends the session
abbrev pub session_with : Result Head BadLine → List (List ℕ) → List ℕ × Option BadLine
session_with (Err bad) lines = ([], Some bad)
session_with (Ok head) lines = calls_said head.request.allocation (client_of head) lines

abbrev pub session_of : List (List ℕ) → List ℕ × Option BadLine
session_of [] = ([], None)
session_of (first ∷ lines) = session_with (line_head first) lines
