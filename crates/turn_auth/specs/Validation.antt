-- How a message is judged (RFC 8489, section 9.2.5).
use Rattle.std.specs.Prelude.{ℕ, false, if◌then◌else◌, List, Option, Some, None, is_some, IsSomeAnd}
use Rattle.turn_stun.specs.Attributes.{seen_of, first_of}
use Rattle.turn_auth.specs.Credentials.{Credentials}
use Rattle.turn_auth.specs.LongTerm.{Challenge, ClientAuth}
use Rattle.turn_auth.specs.Key.{key_of}
use Rattle.turn_auth.specs.Integrity.{IntegrityHolds, integrity_holds, integrity_kind}
use Rattle.turn_auth.specs.Challenge.{challenge_of}
use Rattle.turn_auth.specs.declared.validation.Validation.{Validation}
use Rattle.turn_auth.specs.declared.validation.Validation.TheVariants.{Validated, ResendRequest, Refused}

-- the key for the challenge that is held
abbrev pub held_key : Credentials → Challenge → List ℕ
held_key credentials held = key_of credentials held.realm held.algorithm

-- the message is signed: a challenge is held, and integrity holds under its key
abbrev pub IsSigned : ClientAuth → List ℕ → Type 0
IsSigned auth bytes =
    IsSomeAnd auth.held (λ held. IsSomeAnd auth.credentials (λ credentials.
    IntegrityHolds bytes held.algorithm (held_key credentials held)))

-- the judgement by integrity
abbrev pub judged : Option Credentials → Option Challenge → List ℕ → Validation
judged (Some credentials) (Some held) bytes =
    if integrity_holds bytes held.algorithm (held_key credentials held) then Validated held.algorithm
    else Refused (is_some (first_of (integrity_kind held.algorithm) (seen_of bytes)))
judged (Some credentials) None bytes = Refused false
judged None _ bytes = Refused false

-- a challenge is judged before any integrity (our choice: the first one cannot be signed)
abbrev pub validated : Option Challenge → ClientAuth → List ℕ → Validation
validated (Some challenge) auth bytes = ResendRequest challenge.algorithm
validated None auth bytes = judged auth.credentials auth.held bytes

-- how a message is judged
abbrev pub validation_of : ClientAuth → List ℕ → Validation
validation_of auth bytes = validated (challenge_of auth bytes) auth bytes

abbrev pub IsValidated : Validation → Type 0
IsValidated (Validated algorithm) = Unit {0}
IsValidated (ResendRequest algorithm) = ⊥
IsValidated (Refused integrity) = ⊥

abbrev pub IsResendRequest : Validation → Type 0
IsResendRequest (Validated algorithm) = ⊥
IsResendRequest (ResendRequest algorithm) = Unit {0}
IsResendRequest (Refused integrity) = ⊥
