-- What refuses an allocation that is still requested, before anything signed does.
use Rattle.std.specs.Prelude.{ℕ, ◌+◌, ◌-◌, ◌^◌, min, nat_lt, if◌then◌else◌, Option, Some, None}
use Rattle.turn_session_book.specs.declared.causes.Why.{Why}
use Rattle.turn_session_book.specs.declared.causes.Why.TheVariants.{SocketErrors}
use Rattle.turn_session_book.specs.declared.tags.Tag.{Tag}
use Rattle.turn_session_life.specs.declared.verdict.Blame.{Blame}
use Rattle.turn_session_life.specs.declared.verdict.VerdictStep.{VerdictStep}
use Rattle.turn_session_life.specs.declared.verdict.VerdictStep.TheVariants.{WaitUntil, Idle, Ended}

-- a signed response has 1 s left
abbrev pub first_verdict : Why → ℕ → Blame
first_verdict why now = record { until = min (now + 1_000_000_000) (2 ^ 63 - 1); why = why }

-- the first error sets time and cause
abbrev pub after_refusal : Why → ℕ → Option Blame → Option Blame
after_refusal why now None = Some (first_verdict why now)
after_refusal why now (Some blame) = Some blame

abbrev pub after_failure : Tag → ℕ → Option Blame → Option Blame
after_failure tag now blame = after_refusal (SocketErrors tag) now blame

-- a server that responds is reached, so an error of the socket is forgotten
abbrev pub after_response : Option Blame → Option Blame
after_response None = None
after_response (Some blame) = by blame.why
  where
    by : Why → Option Blame
    by (SocketErrors tag) = None
    by _ = Some blame

abbrev pub verdict_step : ℕ → Option Blame → VerdictStep
verdict_step now None = Idle
verdict_step now (Some blame) = if nat_lt now blame.until then WaitUntil blame.until else Ended blame.why
