-- What the client's side of the mechanism keeps.
use Rattle.std.specs.Prelude.{◌≡◌, ◌≤◌, Bool, true, false, List, [], ◌∷◌, length, Option, Some, None, is_some, option_map, IsSomeAnd, ⊤}
use Rattle.turn_stun.specs.Message.{attributes_from}
use Rattle.turn_auth.specs.Credentials.{Credentials}
use Rattle.turn_auth.specs.LongTerm.{Challenge, ClientAuth}
use Rattle.turn_auth.specs.Key.{key_of}
use Rattle.turn_auth.specs.Keyed.{HoldsKey, algorithm_of}
use Rattle.turn_auth.specs.declared.integrity.IntegrityAlgorithm.{IntegrityAlgorithm}
use Rattle.turn_auth.specs.declared.integrity.IntegrityAlgorithm.TheVariants.{Sha1, Sha256}
use Rattle.turn_auth.specs.declared.held.Held.{Held}
use Rattle.turn_auth.specs.declared.key.SigningKey.{SigningKey}
use Rattle.turn_auth.specs.declared.server_challenge.ServerChallenge.TheInside.{Inside as Taken}
use Rattle.turn_auth.specs.declared.long_term.LongTermClientAuth.TheInside.{Inside}

-- a challenge, as contracts see it
abbrev pub challenge_view : Taken → Challenge
challenge_view taken = record {
  realm = taken.realm.items;
  nonce = taken.nonce.items;
  algorithm = taken.algorithm;
  password_algorithms = taken.password_algorithms.items;
}

abbrev pub auth_view : Inside → ClientAuth
auth_view auth = record {
  credentials = auth.credentials;
  supported = auth.supported.items;
  anonymous_username = auth.anonymous_username;
  held = option_map (λ held. held.challenge) auth.held;
}

-- a list of algorithms that is not empty and has each of them at most once
abbrev pub is_supported_list : List IntegrityAlgorithm → Bool
is_supported_list (a ∷ []) = true
is_supported_list (Sha1 ∷ Sha256 ∷ []) = true
is_supported_list (Sha256 ∷ Sha1 ∷ []) = true
is_supported_list _ = false

-- the challenge can be written into a message (RFC 8489, sections 14.9 to 14.11; that at most 64 bytes are
-- sent back is our choice)
pub record IsWritable (challenge : Challenge) : Type 0 where
  pub realm_some : 1 ≤ length challenge.realm
  pub realm_short : length challenge.realm ≤ 763
  pub nonce_some : 1 ≤ length challenge.nonce
  pub nonce_short : length challenge.nonce ≤ 763
  pub algorithms_whole : is_some (attributes_from 0 0 challenge.password_algorithms) ≡ true
  pub algorithms_short : length challenge.password_algorithms ≤ 64

-- it is the key of the user in the realm, for the algorithm
pub record IsKeyOf (credentials : Credentials) (challenge : Challenge) (key : SigningKey) : Type 0 where
  pub algorithm : algorithm_of key ≡ challenge.algorithm
  pub text : HoldsKey key (key_of credentials challenge.realm challenge.algorithm)

abbrev pub IsHeldBy : Option Credentials → Option Held → Type 0
IsHeldBy credentials None = ⊤
IsHeldBy credentials (Some held) = IsSomeAnd credentials (λ c. IsKeyOf c held.challenge held.key)

pub record IsSound (auth : Inside) : Type 0 where
  pub supported : is_supported_list auth.supported.items ≡ true
  pub room : auth.supported.capacity ≡ 2
  pub held : IsHeldBy auth.credentials auth.held
