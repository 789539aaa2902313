-- The client's side of the long-term credential mechanism (RFC 8489, section 9.2).
use Rattle.std.specs.Prelude.{ℕ, Bool, true, false, if◌then◌else◌, List, [], ◌∷◌, ◌++◌, Option, Some}
use Rattle.std.specs.List.{list_any}
use Rattle.turn_auth.specs.Credentials.{Credentials}
use Rattle.turn_auth.specs.declared.feature.Feature.{Feature}
use Rattle.turn_auth.specs.declared.integrity.IntegrityAlgorithm.{IntegrityAlgorithm}
use Rattle.turn_auth.specs.declared.integrity.IntegrityAlgorithm.TheVariants.{Sha1, Sha256}

-- The contents of the server's challenges: the realm, the nonce, the selected algorithm, and with SHA-256
-- the value of the PASSWORD-ALGORITHMS from which it was selected.
pub record Challenge : Type 0 where
  pub realm : List ℕ
  pub nonce : List ℕ
  pub algorithm : IntegrityAlgorithm
  pub password_algorithms : List ℕ

-- what a client is configured with, and what it holds
pub record ClientAuth : Type 0 where
  pub credentials : Option Credentials
  pub supported : List IntegrityAlgorithm
  pub anonymous_username : Feature
  pub held : Option Challenge

-- the client once it holds this challenge
abbrev pub with_challenge : Challenge → ClientAuth → ClientAuth
with_challenge challenge auth = record auth { held = Some challenge }

-- whether two algorithms are the same
abbrev pub same_algorithm : IntegrityAlgorithm → IntegrityAlgorithm → Bool
same_algorithm Sha1 Sha1 = true
same_algorithm Sha1 Sha256 = false
same_algorithm Sha256 Sha1 = false
same_algorithm Sha256 Sha256 = true

-- whether the algorithm is configured
abbrev pub supports : List IntegrityAlgorithm → IntegrityAlgorithm → Bool
supports algorithms algorithm = list_any (same_algorithm algorithm) algorithms

-- the algorithms with one more, each of them once
abbrev pub with_algorithm : List IntegrityAlgorithm → IntegrityAlgorithm → List IntegrityAlgorithm
with_algorithm algorithms algorithm = if supports algorithms algorithm then algorithms else algorithms ++ algorithm ∷ []
