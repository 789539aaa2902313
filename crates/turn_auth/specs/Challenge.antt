-- Which messages are challenges (RFC 8489, sections 9.2.3 to 9.2.5).
use Rattle.std.specs.Prelude.{◌≡◌, ℕ, ◌==◌, Bool, true, false, ◌&&◌, ◌||◌, if◌then◌else◌, nat_le, List, [], length, Option, Some, None, is_some, unwrap_or}
use Rattle.std.specs.Prelude.{IsSome, IfSome, ◌⊎◌, option_map, option_and_then}
use Rattle.std.specs.Option.{option_map_or}
use Rattle.std.specs.List.{list_any}
use Rattle.std.specs.Str.{bytes_eq}
use Rattle.turn_stun.specs.Attributes.{seen_of, first_of}
use Rattle.turn_stun.specs.Message.{type_of}
use Rattle.turn_stun.specs.MessageType.{class_of}
use Rattle.turn_stun.specs.Read.{code_in, value_in}
use Rattle.turn_stun.specs.Values.{realm_of, nonce_of, entries_of, is_bare_entry}
use Rattle.turn_stun.specs.declared.message.header.MessageClass.{MessageClass}
use Rattle.turn_stun.specs.declared.message.header.MessageClass.TheVariants.{Request, Indication, Success, Error}
use Rattle.turn_auth.specs.LongTerm.{Challenge, ClientAuth, supports}
use Rattle.turn_auth.specs.declared.challenge.Denial.{Denial}
use Rattle.turn_auth.specs.declared.integrity.IntegrityAlgorithm.{IntegrityAlgorithm}
use Rattle.turn_auth.specs.declared.integrity.IntegrityAlgorithm.TheVariants.{Sha1, Sha256}

-- REALM and NONCE, if the first seen one is well formed
abbrev pub realm_in : List ℕ → Option (List ℕ)
realm_in bytes = option_and_then realm_of (value_in 0x0014 bytes)

abbrev pub nonce_in : List ℕ → Option (List ℕ)
nonce_in bytes = option_and_then nonce_of (value_in 0x0015 bytes)

-- PASSWORD-ALGORITHMS that are to be sent back: at most 64 bytes (our choice), a list of whole
-- entries, and among them SHA-256, which is algorithm 2, without parameters
abbrev pub offers_sha256 : List ℕ → Bool
offers_sha256 value = nat_le (length value) 64 && list_any (is_bare_entry 2) (entries_of value)

-- the algorithm that a first challenge selects: SHA-256 if it is configured and offered, else SHA-1 if that
-- is configured, else none
abbrev pub picked : List IntegrityAlgorithm → Option (List ℕ) → Option IntegrityAlgorithm
picked supported offered =
    if supports supported Sha256 && option_map_or offers_sha256 offered false then Some Sha256
    else (if supports supported Sha1 then Some Sha1 else None)

-- the value that is sent back with the algorithm
abbrev pub sent_back : Option (List ℕ) → IntegrityAlgorithm → List ℕ
sent_back offered Sha1 = []
sent_back offered Sha256 = unwrap_or offered []

-- whether the class is that of an error response
abbrev pub is_error : MessageClass → Bool
is_error Request = false
is_error Indication = false
is_error Success = false
is_error Error = true

abbrev pub denial_with : Option (List ℕ) → Option (List ℕ) → Option ℕ → Option Denial
denial_with (Some realm) (Some nonce) (Some code) = Some (record { realm = realm; nonce = nonce; code = code })
denial_with (Some realm) (Some nonce) None = None
denial_with (Some realm) None _ = None
denial_with None _ _ = None

-- the contents of an error response for the client: its realm, nonce and code
abbrev pub denial_in : List ℕ → Option Denial
denial_in bytes =
    if is_error (class_of (type_of bytes)) then denial_with (realm_in bytes) (nonce_in bytes) (code_in bytes) else None

-- The algorithm to use from now on: a first challenge is a 401, or a 438 to a client that holds nothing,
-- and selects it; a later one is a 438 in the realm that is held, and keeps it.
abbrev pub chosen : List IntegrityAlgorithm → Option Challenge → Option (List ℕ) → Denial → Option IntegrityAlgorithm
chosen supported None offered denial =
    if (denial.code == 401) || (denial.code == 438) then picked supported offered else None
chosen supported (Some held) offered denial =
    if (denial.code == 438) && bytes_eq denial.realm held.realm then Some held.algorithm else None

-- what is held then: a first challenge sets all of it, and a later one sets the nonce
abbrev pub held_after : Option Challenge → Option (List ℕ) → Denial → IntegrityAlgorithm → Challenge
held_after None offered denial algorithm = record {
  realm = denial.realm;
  nonce = denial.nonce;
  algorithm = algorithm;
  password_algorithms = sent_back offered algorithm;
}
held_after (Some held) offered denial algorithm = record held { nonce = denial.nonce }

-- what is held once the denial is accepted as a challenge, or nothing if it is none
abbrev pub challenge_by : List IntegrityAlgorithm → Option Challenge → Option (List ℕ) → Denial → Option Challenge
challenge_by supported held offered denial =
    option_map (held_after held offered denial) (chosen supported held offered denial)

-- what is held once the message is accepted as a challenge, or nothing if it is none
abbrev pub challenge_of : ClientAuth → List ℕ → Option Challenge
challenge_of auth bytes =
    if is_some auth.credentials then option_and_then (λ denial.
    option_map (held_after auth.held (value_in 0x8002 bytes) denial)
    (chosen auth.supported auth.held (value_in 0x8002 bytes) denial)) (denial_in bytes)
    else None

-- how the code, the algorithm and the value that is sent back fit what is held
abbrev pub Follows : List IntegrityAlgorithm → Option (List ℕ) → Option ℕ → Challenge → Option Challenge → Type 0
Follows supported offered code challenge None =
    ((code ≡ Some 401) ⊎ (code ≡ Some 438))
    × (picked supported offered ≡ Some challenge.algorithm)
    × (challenge.password_algorithms ≡ sent_back offered challenge.algorithm)
Follows supported offered code challenge (Some held) =
    (code ≡ Some 438) × (challenge ≡ record held { nonce = challenge.nonce })

-- A message is a challenge, with what is then held: credentials are set, and it is an error response with a
-- well-formed realm, nonce and code. If nothing is held, the code is 401 or 438 and an algorithm is
-- selected; else the code is 438, and the realm is the one that is held.
pub record IsChallenge (auth : ClientAuth) (bytes : List ℕ) (challenge : Challenge) : Type 0 where
  pub known : IsSome auth.credentials
  pub error : class_of (type_of bytes) ≡ Error
  pub realm : realm_in bytes ≡ Some challenge.realm
  pub nonce : nonce_in bytes ≡ Some challenge.nonce
  pub follows : Follows auth.supported (value_in 0x8002 bytes) (code_in bytes) challenge auth.held

-- The client may accept the challenge: it has credentials, and of what it holds the nonce changes alone
-- (RFC 8489, section 9.2.5; that the realm stays is our choice).
pub record MayTake (auth : ClientAuth) (challenge : Challenge) : Type 0 where
  pub known : IsSome auth.credentials
  pub kept : IfSome auth.held (λ held. challenge ≡ record held { nonce = challenge.nonce })
