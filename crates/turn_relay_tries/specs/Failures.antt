-- After which failures a relay is not tried again.
use Rattle.std.specs.Prelude.{ℕ, ◌+◌, ◌==◌, ◌||◌, ◌&&◌, min, max, nat_lt, not, Bool, true, false, if◌then◌else◌, Option, Some, None}
use Rattle.turn_session_book.specs.declared.causes.Why.TheVariants.{Refused, WrongCredentials, CredentialsRefused}
use Rattle.turn_relay_tries.specs.declared.causes.Cause.{Cause}
use Rattle.turn_relay_tries.specs.declared.causes.Cause.TheVariants.{Life}
use Rattle.turn_relay_tries.specs.declared.failures.Failures.{Failures}

abbrev pub no_failures : Failures
no_failures = record { credentials = 0; refused = 0; quota = 0; alive_until = 0 }

-- the server may keep an allocation that is left, so that a quota of one is used up
abbrev pub after_leaving : ℕ → Failures → Failures
after_leaving until f = record f { alive_until = max f.alive_until until }

abbrev pub after_success : Failures → Failures
after_success f = record f { credentials = 0; refused = 0; quota = 0 }

-- the code by which the server refused the allocation
abbrev pub code_of : Cause → Option ℕ
code_of (Life (Refused error)) = error.code
code_of _ = None

abbrev pub has_wrong_credentials : Cause → Bool
has_wrong_credentials (Life (WrongCredentials error)) = true
has_wrong_credentials (Life CredentialsRefused) = true
has_wrong_credentials _ = false

-- errors that stay as they are: another server, forbidden, the address family, the transport (RFC 8656, section 19)
abbrev pub has_final_code : Cause → Bool
has_final_code cause = by (code_of cause)
  where
    by : Option ℕ → Bool
    by None = false
    by (Some code) = (code == 300) || (code == 403) || (code == 440) || (code == 442)

abbrev pub is_over_quota : Cause → Bool
is_over_quota cause = by (code_of cause)
  where
    by : Option ℕ → Bool
    by None = false
    by (Some code) = code == 486

-- failures count in a row
abbrev pub grown_if : Bool → ℕ → ℕ
grown_if is_one count = if is_one then min (count + 1) 255 else 0

-- a quota counts only if no earlier allocation of this relay may be what uses it up
abbrev pub after_failure : Cause → ℕ → Failures → Failures
after_failure cause now f = record {
  credentials = grown_if (has_wrong_credentials cause) f.credentials;
  refused = grown_if (has_final_code cause) f.refused;
  quota = grown_if (is_over_quota cause && not (nat_lt now f.alive_until)) f.quota;
  alive_until = f.alive_until;
}

-- no other try is made
abbrev pub is_last : Failures → Bool
is_last f = not (nat_lt f.credentials 2) || not (nat_lt f.refused 2) || not (nat_lt f.quota 3)
