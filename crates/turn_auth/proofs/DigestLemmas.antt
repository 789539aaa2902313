-- The lengths of the digests.
use Rattle.std.proofs.Common.{◌≡◌, ℕ, List, length, refl}
use Rattle.sha1.specs.Sha1 as S1
use Rattle.sha2.specs.Sha256 as S2
use Rattle.turn_auth.specs.Hmac.{hmac}

pub length-hmac_sha1 : (key text : List ℕ) → length (hmac S1.sha1 key text) ≡ 20
unfolding hmac S1.sha1 S1.digest_bytes
length-hmac_sha1 key text = refl

pub length-hmac_sha256 : (key text : List ℕ) → length (hmac S2.sha256 key text) ≡ 32
unfolding hmac S2.sha256 S2.digest_bytes
length-hmac_sha256 key text = refl

pub length-sha256 : (text : List ℕ) → length (S2.sha256 text) ≡ 32
unfolding S2.sha256 S2.digest_bytes
length-sha256 text = refl
