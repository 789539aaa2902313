use Rattle.turn_client_api.proofs.EarlyExpiryLemmas.{expired_at-none}
use Rattle.turn_client_laws.proofs.bodies.nothing_expires_early.Goals as goal

pub returns : goal.returns
returns c = expired_at-none
