-- What an HMAC under a key has digested.
use Rattle.std.specs.Prelude.{ℕ, List}
use Rattle.sha1.specs.Sha1 as S1
use Rattle.sha1.specs.Sha1.{sha1}
use Rattle.sha2.specs.Hashers.{Holds256}
use Rattle.sha2.specs.Sha256.{sha256}
use Rattle.turn_auth.specs.Hmac.{key_block, padded}
use Rattle.turn_auth.specs.declared.hmac.HmacSha1.{HmacSha1}
use Rattle.turn_auth.specs.declared.hmac.HmacSha256.{HmacSha256}
use Rattle.turn_auth.specs.declared.key.SigningKey.{SigningKey}
use Rattle.turn_auth.specs.declared.key.SigningKey.TheVariants.{Sha1, Sha256}
use Rattle.turn_auth.specs.declared.integrity.IntegrityAlgorithm.{IntegrityAlgorithm}

-- its key
pub record HoldsSha1 (mac : HmacSha1) (key : List ℕ) : Type 0 where
  pub inner : S1.Holds mac.inner (padded 0x36 (key_block sha1 key))
  pub outer : S1.Holds mac.outer (padded 0x5c (key_block sha1 key))

pub record HoldsSha256 (mac : HmacSha256) (key : List ℕ) : Type 0 where
  pub inner : Holds256 mac.inner (padded 0x36 (key_block sha256 key))
  pub outer : Holds256 mac.outer (padded 0x5c (key_block sha256 key))

-- the algorithm of a kept key
abbrev pub algorithm_of : SigningKey → IntegrityAlgorithm
algorithm_of (Sha1 mac) = IntegrityAlgorithm.Sha1
algorithm_of (Sha256 mac) = IntegrityAlgorithm.Sha256

-- it is this key
abbrev pub HoldsKey : SigningKey → List ℕ → Type 0
HoldsKey (Sha1 mac) key = HoldsSha1 mac key
HoldsKey (Sha256 mac) key = HoldsSha256 mac key
