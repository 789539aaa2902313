-- The exit status.
use Rattle.std.specs.Prelude.{◌≡◌, ℕ}
use Rattle.turn_lines.specs.declared.status.Status.{Status}
use Rattle.turn_lines.specs.declared.status.Status.TheVariants.{Answered, Malformed, OutOfMemory, ReadFailed, WriteFailed}

abbrev pub exit_code_of : Status → ℕ
exit_code_of Answered = 0
exit_code_of Malformed = 2
exit_code_of OutOfMemory = 3
exit_code_of ReadFailed = 4
exit_code_of WriteFailed = 4

-- a run with this exit status: it ends with a status that has this code, and with the effects of that status
abbrev pub Exits : (Status → Type 0) → ℕ → Type 0
Exits runs code = (status : Status) × (code ≡ exit_code_of status) × runs status
