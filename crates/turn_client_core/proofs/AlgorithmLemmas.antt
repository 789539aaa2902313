-- The algorithms that a client is configured with.
use Rattle.turn_client_laws.proofs.Common.{◌≡◌, ◌≢◌, [], ◌∷◌, refl}
use Rattle.turn_client_laws.proofs.Machine.{with_algorithm}
use Rattle.turn_auth.specs.declared.integrity.IntegrityAlgorithm.{IntegrityAlgorithm}
use Rattle.turn_auth.specs.declared.integrity.IntegrityAlgorithm.TheVariants.{Sha1, Sha256}

pub two_algorithms : (a b : IntegrityAlgorithm) → a ≢ b → with_algorithm (a ∷ []) b ≡ a ∷ b ∷ []
two_algorithms Sha1 Sha256 differ = refl
two_algorithms Sha256 Sha1 differ = refl
two_algorithms a b differ = absurd (differ refl)
