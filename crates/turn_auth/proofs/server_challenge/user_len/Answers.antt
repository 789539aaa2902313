use Rattle.turn_auth.proofs.DigestLemmas.{length-sha256}
use Rattle.turn_auth.proofs.server_challenge.user_len.Goals as goal

pub returns-in-Required-clause-value : goal.returns-in-Required-clause-value
returns-in-Required-clause-value c = λ realm. rw c.in-Required.is (length-sha256 _)
