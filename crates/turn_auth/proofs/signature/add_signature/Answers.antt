use Rattle.turn_auth.proofs.SignLemmas.{Extends-then}
use Rattle.turn_auth.proofs.signature.add_signature.Goals as goal

pub returns-clause-kept : goal.returns-clause-kept
returns-clause-kept c = Extends-then _ _ _ c.add_attributes.ensures.kept c.add_integrity.ensures.kept
