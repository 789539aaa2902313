-- The lists of a configuration have at most both values.
use Rattle.std.proofs.Common.{◌≡◌, ◌≤◌, true, List, [], ◌∷◌, length, arith}
use Rattle.turn_types.specs.declared.family.AddressFamily.{AddressFamily}
use Rattle.turn_types.specs.declared.family.AddressFamily.TheVariants.{IPV4, IPV6}
use Rattle.turn_auth.specs.declared.integrity.IntegrityAlgorithm.{IntegrityAlgorithm}
use Rattle.turn_auth.specs.declared.integrity.IntegrityAlgorithm.TheVariants.{Sha1, Sha256}
use Rattle.turn_client_api.specs.Config.{is_algorithm_list, is_family_list}

pub few_families : (families : List AddressFamily) → is_family_list families ≡ true → length families ≤ 2
few_families [] h = cc
few_families (a ∷ []) h = omega arith
few_families (a ∷ b ∷ []) h = omega arith
few_families (IPV4 ∷ IPV4 ∷ c ∷ cs) h = cc
few_families (IPV4 ∷ IPV6 ∷ c ∷ cs) h = cc
few_families (IPV6 ∷ IPV4 ∷ c ∷ cs) h = cc
few_families (IPV6 ∷ IPV6 ∷ c ∷ cs) h = cc

pub few_algorithms : (algorithms : List IntegrityAlgorithm) → is_algorithm_list algorithms ≡ true → length algorithms ≤ 2
few_algorithms [] h = cc
few_algorithms (a ∷ []) h = omega arith
few_algorithms (a ∷ b ∷ []) h = omega arith
few_algorithms (Sha1 ∷ Sha1 ∷ c ∷ cs) h = cc
few_algorithms (Sha1 ∷ Sha256 ∷ c ∷ cs) h = cc
few_algorithms (Sha256 ∷ Sha1 ∷ c ∷ cs) h = cc
few_algorithms (Sha256 ∷ Sha256 ∷ c ∷ cs) h = cc
