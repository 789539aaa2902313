-- Whether the server still accepts user name and password.
use Rattle.std.specs.Prelude.{ℕ, ◌+◌, ◌-◌, ◌^◌, min, nat_lt, not, Bool, true, false, if◌then◌else◌, Option, Some, None}
use Rattle.turn_session_path.specs.declared.credentials.Credentials.{Credentials}
use Rattle.turn_session_path.specs.declared.credentials.CredentialsStep.{CredentialsStep}
use Rattle.turn_session_path.specs.declared.credentials.CredentialsStep.TheVariants.{WaitUntil, Idle, Refused}

abbrev pub no_refusal : Credentials
no_refusal = record { is_refused = false; grace = None }

abbrev pub is_first_refusal : Credentials → Bool
is_first_refusal c = not c.is_refused

-- after the second refusal a signed response may come for 1 s; a further one changes nothing
abbrev pub grace_after : ℕ → Option ℕ → Option ℕ
grace_after now None = Some (min (now + 1_000_000_000) (2 ^ 63 - 1))
grace_after now (Some grace) = Some grace

abbrev pub after_refusal : ℕ → Credentials → Credentials
after_refusal now c = if c.is_refused then record c { grace = grace_after now c.grace } else record c { is_refused = true }

-- without a signed response until then they are refused
abbrev pub credentials_step : ℕ → Option ℕ → CredentialsStep
credentials_step now None = Idle
credentials_step now (Some grace) = if nat_lt now grace then WaitUntil grace else Refused
