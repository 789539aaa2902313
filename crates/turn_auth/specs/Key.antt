-- Keys of long-term credentials (RFC 8489, sections 9.2.2 and 18.5.1).
use Rattle.std.specs.Prelude.{ℕ, List, ◌∷◌, ◌++◌}
use Rattle.md5.specs.Md5.{md5}
use Rattle.sha2.specs.Sha256.{sha256}
use Rattle.turn_auth.specs.Credentials.{Credentials}
use Rattle.turn_auth.specs.declared.integrity.IntegrityAlgorithm.{IntegrityAlgorithm}
use Rattle.turn_auth.specs.declared.integrity.IntegrityAlgorithm.TheVariants.{Sha1, Sha256}

-- username ":" realm
abbrev pub user_in_realm : Credentials → List ℕ → List ℕ
user_in_realm credentials realm = credentials.user ++ 0x3a ∷ realm

-- username ":" realm ":" password
abbrev pub key_text : Credentials → List ℕ → List ℕ
key_text credentials realm = user_in_realm credentials realm ++ 0x3a ∷ credentials.password

-- the key: MD5 of the text for HMAC-SHA1, and SHA-256 of it for HMAC-SHA256
abbrev pub key_of : Credentials → List ℕ → IntegrityAlgorithm → List ℕ
key_of credentials realm Sha1 = md5 (key_text credentials realm)
key_of credentials realm Sha256 = sha256 (key_text credentials realm)

-- USERHASH (section 14.4): SHA-256 of username ":" realm
abbrev pub userhash : Credentials → List ℕ → List ℕ
userhash credentials realm = sha256 (user_in_realm credentials realm)
