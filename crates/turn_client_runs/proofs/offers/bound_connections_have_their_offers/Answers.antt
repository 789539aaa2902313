use Rattle.turn_client_runs.proofs.OfferRuns.{bound-are-offered}
use Rattle.turn_client_runs.proofs.offers.bound_connections_have_their_offers.Goals as goal

pub returns : goal.returns
returns c transport local remote config seed calls earlier later split = bound-are-offered transport local remote config seed earlier
