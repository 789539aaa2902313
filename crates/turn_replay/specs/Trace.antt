-- A trace: its lines, the head and the calls.
use Rattle.std.specs.Prelude.{ℕ, ◌+◌, ◌-◌, ◌==◌, ◌&&◌, nat_lt, if◌then◌else◌, List, [], ◌∷◌, length, take, slice_index, Result, Ok, Err}
use Rattle.turn_stun.specs.declared.transport.TransportType.{TransportType}
use Rattle.turn_client_api.specs.declared.call.Call.{Call}
use Rattle.turn_client_calls.specs.Checks.{needed}
use Rattle.turn_lines.specs.Call.{call_of}
use Rattle.turn_lines.specs.Fault.{at_line, bad_line, ◌>>=◌}
use Rattle.turn_lines.specs.Head.{head_of}
use Rattle.turn_lines.specs.Parts.{parts_of}
use Rattle.turn_lines.specs.declared.fault.BadKind.TheVariants as Bad
use Rattle.turn_lines.specs.declared.fault.BadLine.{BadLine}
use Rattle.turn_lines.specs.declared.head.Head.{Head}

-- the first line is the head
abbrev pub head_line_of : List (List ℕ) → Result (Head × List (List ℕ)) BadLine
head_line_of [] = Err (bad_line 1 Bad.Head)
head_line_of (line ∷ lines) = needed (head_of line) (bad_line 1 Bad.Head) (λ head. Ok (head, lines))

-- the 10,000th call is on line 10,001
abbrev pub numbered_call_of : TransportType → ℕ → List ℕ → Result Call BadLine
numbered_call_of relays number line =
    if nat_lt 10001 number then Err (bad_line number Bad.Size) else at_line number (call_of relays line)

-- the calls of these lines; the first line has this number
unfoldable pub calls_of : TransportType → ℕ → List (List ℕ) → Result (List Call) BadLine
calls_of relays number [] = Ok []
calls_of relays number (line ∷ lines) =
    numbered_call_of relays number line >>= λ call. calls_of relays (number + 1) lines >>= λ calls. Ok (call ∷ calls)

-- each line ends with LF, which may be missing on the last one
abbrev pub without_last_feed : List ℕ → List ℕ
without_last_feed text =
    if nat_lt 0 (length text) && (slice_index text (length text - 1) == 10) then take (length text - 1) text else text

-- the head and the calls, or the first bad line; the size of the trace is checked first
unfoldable pub trace_of : List ℕ → Result (Head × List Call) BadLine
trace_of text =
    if nat_lt 1048576 (length text) then Err (bad_line 0 Bad.Size)
    else head_line_of (parts_of 10 (without_last_feed text)) >>= λ head. calls_of head.0.request.allocation 2 head.1 >>= λ calls. Ok (head.0, calls)
