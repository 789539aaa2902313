-- Integrity of messages (RFC 8489, sections 14.5 and 14.6).
use Rattle.std.specs.Prelude.{◌≡◌, ℕ, ◌+◌, ◌-◌, List, Bool, false, take, Option, option_map, IsSomeAnd}
use Rattle.std.specs.Str.{bytes_eq}
use Rattle.std.specs.Option.{option_map_or}
use Rattle.sha1.specs.Sha1.{sha1}
use Rattle.sha2.specs.Sha256.{sha256}
use Rattle.turn_stun.specs.Attributes.{seen_of, first_of}
use Rattle.turn_stun.specs.Writer.{with_length}
use Rattle.turn_auth.specs.Hmac.{hmac}
use Rattle.turn_auth.specs.declared.integrity.IntegrityAlgorithm.{IntegrityAlgorithm}
use Rattle.turn_auth.specs.declared.integrity.IntegrityAlgorithm.TheVariants.{Sha1, Sha256}

-- the attribute that carries the HMAC: MESSAGE-INTEGRITY or MESSAGE-INTEGRITY-SHA256
abbrev pub integrity_kind : IntegrityAlgorithm → ℕ
integrity_kind Sha1 = 0x0008
integrity_kind Sha256 = 0x001c

-- how many bytes its value has
abbrev pub integrity_len : IntegrityAlgorithm → ℕ
integrity_len Sha1 = 20
integrity_len Sha256 = 32

-- the HMAC of the algorithm
abbrev pub mac_of : IntegrityAlgorithm → List ℕ → List ℕ → List ℕ
mac_of Sha1 key text = hmac sha1 key text
mac_of Sha256 key text = hmac sha256 key text

-- What an integrity attribute at this offset covers: the message up to it, with the length of a message
-- that ends right after it ("the length must then point to the end of the MESSAGE-INTEGRITY attribute").
abbrev pub covered_text : IntegrityAlgorithm → ℕ → List ℕ → List ℕ
covered_text algorithm offset bytes =
    with_length (offset - 20 + (4 + integrity_len algorithm)) (take offset bytes)

-- The integrity of the message holds under the key: the first seen attribute of the algorithm's type
-- is the whole HMAC of what it covers.
abbrev pub IntegrityHolds : List ℕ → IntegrityAlgorithm → List ℕ → Type 0
IntegrityHolds bytes algorithm key =
    IsSomeAnd (first_of (integrity_kind algorithm) (seen_of bytes))
    (λ first. first.value ≡ mac_of algorithm key (covered_text algorithm first.offset bytes))

-- whether it holds
abbrev pub integrity_holds : List ℕ → IntegrityAlgorithm → List ℕ → Bool
integrity_holds bytes algorithm key =
    option_map_or (λ first. bytes_eq first.value (mac_of algorithm key (covered_text algorithm first.offset bytes)))
    (first_of (integrity_kind algorithm) (seen_of bytes)) false

-- the same, or nothing if no attribute of the algorithm's type is seen
abbrev pub seen_integrity : List ℕ → IntegrityAlgorithm → List ℕ → Option Bool
seen_integrity bytes algorithm key =
    option_map (λ first. bytes_eq first.value (mac_of algorithm key (covered_text algorithm first.offset bytes)))
    (first_of (integrity_kind algorithm) (seen_of bytes))
