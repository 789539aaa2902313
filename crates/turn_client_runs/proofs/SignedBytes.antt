-- The bytes of a signed message.
use Rattle.turn_client_laws.proofs.Common.{◌≡◌, ℕ, ◌+◌, ◌^◌, ◌<◌, ◌≤◌, true, List, length, arith, refl}
use Rattle.turn_client_laws.proofs.Machine.{attributes_of, padded_len, AddsAttribute, IsWritten, IsMessage-no_fault, is_unsigned, with_integrity, is_message}
use Rattle.turn_stun.proofs.WriteLemmas.{IsWritten-IsMessage, with_attribute-AddsAttribute, with_attribute-IsWritten}
use Rattle.turn_auth.specs.Integrity.{IntegrityHolds, covered_text, integrity_kind, mac_of}
use Rattle.turn_auth.specs.declared.integrity.IntegrityAlgorithm.{IntegrityAlgorithm}
use Rattle.turn_auth.specs.declared.integrity.IntegrityAlgorithm.TheVariants.{Sha1, Sha256}
use Rattle.turn_auth.proofs.DigestLemmas.{length-hmac_sha1, length-hmac_sha256}
use Rattle.turn_auth.proofs.SignLemmas.{signed_behind}

mac-len : (algorithm : IntegrityAlgorithm) (key text : List ℕ) → length (mac_of algorithm key text) ≤ 32
mac-len Sha1 key text = omega (arith, length-hmac_sha1 key text)
mac-len Sha256 key text = omega (arith, length-hmac_sha256 key text)

kind-in-range : (algorithm : IntegrityAlgorithm) → integrity_kind algorithm < 2 ^ 16
kind-in-range Sha1 = omega arith
kind-in-range Sha256 = omega arith

module _ (base : List ℕ) (written : IsWritten base) (plain : is_unsigned (attributes_of base) ≡ true) (long : 4 ≤ length base) (short : length base ≤ 1000)
    (algorithm : IntegrityAlgorithm) (key : List ℕ) where
  abbrev mac : List ℕ
  mac = mac_of algorithm key (covered_text algorithm (length base) base)

  room : length base + (4 + padded_len (length mac)) ≤ 65552
  room = let few = mac-len algorithm key (covered_text algorithm (length base) base) in omega (arith, short, few)

  pub mac-added : AddsAttribute base (with_integrity algorithm key base) (integrity_kind algorithm) mac
  mac-added = with_attribute-AddsAttribute (integrity_kind algorithm) mac base written (kind-in-range algorithm) room

  pub signed-message : is_message (with_integrity algorithm key base) ≡ true
  signed-message =
      let done = with_attribute-IsWritten (integrity_kind algorithm) mac base written (kind-in-range algorithm) room in
      rw (IsMessage-no_fault (with_integrity algorithm key base) _ _ _ (IsWritten-IsMessage (with_integrity algorithm key base) done)) refl

  pub signed-holds : IntegrityHolds (with_integrity algorithm key base) algorithm key
  signed-holds = signed_behind algorithm key base mac (with_integrity algorithm key base) refl refl mac-added plain long
