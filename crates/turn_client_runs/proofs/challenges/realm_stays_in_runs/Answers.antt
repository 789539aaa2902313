use Rattle.turn_client_runs.proofs.ChallengeLemmas.{realm-stays}
use Rattle.turn_client_runs.proofs.challenges.realm_stays_in_runs.Goals as goal

pub returns : goal.returns
returns c = realm-stays
