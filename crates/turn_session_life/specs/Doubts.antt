-- Whether the server still knows the allocation and accepts user name and password: the doubts of both, and what they lead to.
use Rattle.std.specs.Prelude.{ℕ, ◌+◌, nat_lt, not, Bool, true, false, if◌then◌else◌, Option, Some, None}
use Rattle.turn_session_book.specs.declared.causes.Why.{Why}
use Rattle.turn_session_book.specs.declared.causes.Why.TheVariants.{CredentialsRefused, Forgotten, Unanswered}
use Rattle.turn_session_book.specs.declared.replies.ErrorReply.{ErrorReply}
use Rattle.turn_session_path.specs.Credentials.{credentials_step, is_first_refusal, no_refusal}
use Rattle.turn_session_path.specs.Credentials as Refusals
use Rattle.turn_session_path.specs.PathDue.{sooner}
use Rattle.turn_session_path.specs.Suspicion.{is_forgotten, no_doubt, suspicion_step}
use Rattle.turn_session_path.specs.Suspicion as Suspicions
use Rattle.turn_session_path.specs.declared.credentials.CredentialsStep.{CredentialsStep}
use Rattle.turn_session_path.specs.declared.credentials.CredentialsStep.TheVariants as Accepting
use Rattle.turn_session_path.specs.declared.suspicion.DoubtStep.{DoubtStep}
use Rattle.turn_session_path.specs.declared.suspicion.DoubtStep.TheVariants as Doubting
use Rattle.turn_session_path.specs.declared.suspicion.Suspicion.{Suspicion}
use Rattle.turn_session_life.specs.Heard.{has_code, is_challenge}
use Rattle.turn_session_life.specs.declared.doubts.Asking.{Asking}
use Rattle.turn_session_life.specs.declared.doubts.Asking.TheVariants.{Asked, Taken, NoAllocation}
use Rattle.turn_session_life.specs.declared.doubts.Doubts.{Doubts}
use Rattle.turn_session_life.specs.declared.doubts.DoubtsStep.{DoubtsStep}
use Rattle.turn_session_life.specs.declared.doubts.DoubtsStep.TheVariants.{Ask, WaitUntil, Idle, End}
use Rattle.turn_session_life.specs.declared.responses.Response.{Response}
use Rattle.turn_session_life.specs.declared.responses.Said.{Said}
use Rattle.turn_session_life.specs.declared.responses.Said.TheVariants.{Granted, Denied, Nothing}

abbrev pub no_doubts : Bool → Doubts
no_doubts checks =
    record { checks = checks; suspicion = no_doubt; credentials = no_refusal; is_asking = false; number = 1; is_ipv6 = false }

-- ---- what makes one doubt

-- errors and silence do where that is set
abbrev pub after_doubt : Doubts → Doubts
after_doubt d = if d.checks then record d { suspicion = Suspicions.after_doubt d.suspicion } else d

-- another address of this client always does
abbrev pub after_move : Doubts → Doubts
after_move d = record d { suspicion = Suspicions.after_move d.suspicion }

abbrev pub after_signed : Doubts → Doubts
after_signed d = record d { credentials = no_refusal }

-- the first 401 that nobody signed makes one doubt the allocation, and the second one user name and password
abbrev pub after_401 : ℕ → Doubts → Doubts
after_401 now d = record d {
  credentials = Refusals.after_refusal now d.credentials;
  suspicion = if is_first_refusal d.credentials then Suspicions.after_doubt d.suspicion else d.suspicion;
}

-- where errors lead to doubts
abbrev pub after_refusal : ℕ → Doubts → Doubts
after_refusal now d = if d.checks then after_401 now d else d

-- a challenge that the client answers says nothing
abbrev pub after_error : ErrorReply → ℕ → Doubts → Doubts
after_error e now d = by e.is_taken (is_challenge e) (has_code 401 e)
  where
    by : Bool → Bool → Bool → Doubts
    by true false _ = after_signed d
    by false _ true = after_refusal now d
    by _ _ _ = d

-- a server that does not know the allocation
abbrev pub after_denial : ErrorReply → ℕ → Doubts → Doubts
after_denial e now d = let a = after_error e now d in if is_forgotten e.code then after_doubt a else a

abbrev pub after_response : Response → ℕ → Doubts → Doubts
after_response r now d = by r.said
  where
    by : Said → Doubts
    by (Granted lifetime) = after_signed d
    by (Denied e) = after_denial e now d
    by Nothing = d

-- ---- what the server was asked

abbrev pub number_after : ℕ → ℕ
number_after number = if nat_lt number 254 then number + 1 else 1

-- the address with the next number was asked for; or it is in use, and then the one after it is, up to the last; or there is no
-- allocation of its family, and then, once, an address of the other one is
abbrev pub after_asking : Asking → Doubts → Doubts
after_asking Asked d = record d { is_asking = false; number = number_after d.number }
after_asking Taken d = record d { is_asking = nat_lt d.number 254; number = number_after d.number }
after_asking NoAllocation d = record d { is_asking = not d.is_ipv6; is_ipv6 = not d.is_ipv6 }

-- by these errors the server no longer knows the allocation, and by all others, and by a grant, it does
abbrev pub code_of : Option ErrorReply → Option ℕ
code_of None = None
code_of (Some e) = e.code

abbrev pub cause_told : Option ErrorReply → Option Why
cause_told None = None
cause_told (Some e) = if is_forgotten e.code then Some (Forgotten e) else None

abbrev pub after_told : Option ErrorReply → ℕ → Doubts → Doubts
after_told error now d =
    if is_forgotten (code_of error) then d
    else record d { suspicion = Suspicions.after_answer (code_of error) now d.suspicion }

-- ---- what is due: three requests in a row without an answer are the end, whatever errors say that nobody signed

abbrev pub later_step : Option ℕ → Option ℕ → DoubtsStep
later_step grace time = by (sooner grace time)
  where
    by : Option ℕ → DoubtsStep
    by (Some first) = WaitUntil first
    by None = Idle

abbrev pub suspicion_polled : Option ℕ → ℕ → Doubts → DoubtsStep × Doubts
suspicion_polled grace now d = by (suspicion_step now d.suspicion)
  where
    by : DoubtStep × Suspicion → DoubtsStep × Doubts
    by (Doubting.Ask, after) = (Ask, record d { suspicion = after; is_asking = true })
    by (Doubting.WaitUntil time, after) = (later_step grace (Some time), record d { suspicion = after })
    by (Doubting.Idle, after) = (later_step grace None, record d { suspicion = after })
    by (Doubting.Unanswered, after) = (End (Unanswered 3), record d { suspicion = after })

abbrev pub doubts_polled : ℕ → CredentialsStep → Doubts → DoubtsStep × Doubts
doubts_polled now Accepting.Refused d = (End CredentialsRefused, d)
doubts_polled now (Accepting.WaitUntil time) d = suspicion_polled (Some time) now d
doubts_polled now Accepting.Idle d = suspicion_polled None now d

-- user name and password first
abbrev pub doubts_step : ℕ → Doubts → DoubtsStep × Doubts
doubts_step now d = if d.is_asking then (Ask, d) else doubts_polled now (credentials_step now d.credentials.grace) d
