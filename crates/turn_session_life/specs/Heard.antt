-- What the server has said of the allocation (RFC 8656, sections 7.3 and 8.3), and why it ends.
use Rattle.std.specs.Prelude.{◌≡◌, ℕ, ◌+◌, ◌*◌, ◌^◌, min, ◌-◌, ◌==◌, ◌&&◌, ◌||◌, nat_lt, not, Bool, true, false, if◌then◌else◌, Option, Some, None}
use Rattle.std.specs.Option.{option_map, option_map_or, option_or}
use Rattle.std.specs.Duration.{as_nanos}
use Rattle.turn_session_book.specs.declared.causes.Why.{Why}
use Rattle.turn_session_book.specs.declared.causes.Why.TheVariants.{Silent, Refused, WrongCredentials, Unauthenticated, NoUsableAddress}
use Rattle.turn_session_book.specs.declared.causes.Why.TheVariants.{TooManyChallenges, NotRenewed, ShortRenewal, RenewalSilent, Forgotten}
use Rattle.turn_session_book.specs.declared.replies.ErrorReply.{ErrorReply}
use Rattle.turn_session_path.specs.Suspicion.{is_forgotten}
use Rattle.turn_session_life.specs.declared.heard.Challenge.{Challenge}
use Rattle.turn_session_life.specs.declared.heard.Heard.{Heard}
use Rattle.turn_session_life.specs.declared.responses.Asked.{Asked}
use Rattle.turn_session_life.specs.declared.responses.Asked.TheVariants.{Allocate, Refresh, Other}
use Rattle.turn_session_life.specs.declared.responses.Response.{Response}
use Rattle.turn_session_life.specs.declared.responses.Said.{Said}
use Rattle.turn_session_life.specs.declared.responses.Said.TheVariants.{Granted, Denied, Nothing}

abbrev pub nothing_heard : ℕ → Heard
nothing_heard now = record {
  since = now;
  is_heard = false;
  is_challenged = false;
  is_allocated = false;
  allocate_error = None;
  refresh_error = None;
  renewed_for = None;
  lifetime = None;
  challenge = None;
}

abbrev pub settled : Heard → Heard
settled h = record h { challenge = None }

-- ---- errors

abbrev pub has_code : ℕ → ErrorReply → Bool
has_code code e = option_map_or (λ other. other == code) e.code false

-- another signature is requested (RFC 8489, section 9.2.5)
abbrev pub is_challenge : ErrorReply → Bool
is_challenge e = has_code 401 e || has_code 438 e

-- a signed ALLOCATE is refused for its user name or password
abbrev pub is_credentials : ErrorReply → Bool
is_credentials e = has_code 400 e || has_code 401 e

-- ---- responses

-- any response to a request is a sign of the server
abbrev pub after_sign : ℕ → Heard → Heard
after_sign now h = record h { since = now; is_heard = true; challenge = None }

-- a success forgets the errors of its request
abbrev pub after_grant : Asked → Option ℕ → Heard → Heard
after_grant Allocate lifetime h = record h { is_allocated = true; allocate_error = None; lifetime = lifetime }
after_grant Refresh lifetime h = record h { refresh_error = None; renewed_for = lifetime; lifetime = option_or lifetime h.lifetime }
after_grant Other lifetime h = h

-- the client answers a challenge, and so nothing has failed
abbrev pub challenge_of : ErrorReply → Bool → Challenge
challenge_of e is_first = record { error = e; is_first = is_first }

abbrev pub after_challenge : Asked → ErrorReply → Heard → Heard
after_challenge Allocate e h = record h { challenge = Some (challenge_of e (not h.is_challenged)); is_challenged = true }
after_challenge _ e h = record h { challenge = Some (challenge_of e false) }

abbrev pub after_error : Asked → ErrorReply → Heard → Heard
after_error Allocate e h = record h { allocate_error = Some e }
after_error Refresh e h = record h { refresh_error = Some e }
after_error Other e h = h

abbrev pub after_denial : Asked → ErrorReply → Heard → Heard
after_denial asked e h = if e.is_taken && is_challenge e then after_challenge asked e h else after_error asked e h

abbrev pub after_response : Response → ℕ → Heard → Heard
after_response r now h = by r.said (after_sign now h)
  where
    by : Said → Heard → Heard
    by (Granted lifetime) heard = after_grant r.asked lifetime heard
    by (Denied e) heard = after_denial r.asked e heard
    by Nothing heard = heard

-- ---- how long the server may keep the allocation

-- for its lifetime, as it said last, from the last response to a request
abbrev pub kept_until : Heard → Option ℕ
kept_until h = option_map (λ seconds. min (h.since + seconds * 1_000_000_000) (2 ^ 63 - 1)) h.lifetime

-- ---- causes, the first that holds

-- an error of the ALLOCATE that is not signed
abbrev pub has_hint : Heard → Bool
has_hint h = option_map_or (λ e. not e.is_taken) h.allocate_error false

-- 401 and 400 to the signed ALLOCATE are refused credentials
abbrev pub refusal : ErrorReply → Bool → Why
refusal e is_challenged = if is_challenged && is_credentials e then WrongCredentials e else Refused e

-- a client has ended by a challenge that was one too many, or by the first one, which it could not answer
abbrev pub end_by : Challenge → Why
end_by c = by c.is_first c.error.code
  where
    by : Bool → Option ℕ → Why
    by false (Some code) = TooManyChallenges code
    by _ _ = Refused c.error

-- without an address: the last error, a challenge too many, a success without a challenge or without an address that was requested,
-- or silence since the last response
abbrev pub IsCauseWithoutAddress : ℕ → Heard → Why → Type 0
IsCauseWithoutAddress now h why = by h.allocate_error h.challenge h.is_allocated h.is_challenged why
  where
    silent : Why → Type 0
    silent (Silent time) = as_nanos time ≡ now - h.since
    silent _ = ⊥

    by : Option ErrorReply → Option Challenge → Bool → Bool → Why → Type 0
    by (Some e) _ _ challenged why = why ≡ refusal e challenged
    by None (Some c) _ _ why = why ≡ end_by c
    by None None true true why = why ≡ NoUsableAddress
    by None None true false why = why ≡ Unauthenticated
    by None None false _ why = silent why

-- of a client that had an address: a challenge too many, a REFRESH refused, or granted for less than 600 s, or silence
abbrev pub renewal_cause : Option ℕ → Why
renewal_cause None = RenewalSilent
renewal_cause (Some lifetime) = if nat_lt lifetime 600 then ShortRenewal lifetime else RenewalSilent

abbrev pub cause_of_end : Heard → Why
cause_of_end h = by h.challenge h.refresh_error
  where
    by : Option Challenge → Option ErrorReply → Why
    by (Some c) _ = end_by c
    by None (Some e) = if is_forgotten e.code then Forgotten e else NotRenewed e
    by None None = renewal_cause h.renewed_for
