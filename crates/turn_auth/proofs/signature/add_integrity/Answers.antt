use Rattle.turn_auth.proofs.signature.add_integrity.Goals as goal

pub returns-in-Sha1-clause-text : goal.returns-in-Sha1-clause-text
returns-in-Sha1-clause-text c = λ k holds.
    rw c.in-Sha1.is (c.add_sha1.ensures.text k (rw c.in-Sha1.is at holds))

pub returns-in-Sha256-clause-text : goal.returns-in-Sha256-clause-text
returns-in-Sha256-clause-text c = λ k holds.
    rw c.in-Sha256.is (c.add_sha256.ensures.text k (rw c.in-Sha256.is at holds))
