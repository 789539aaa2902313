use Rattle.turn_client_runs.proofs.BoundLemmas.{connections-have-success}
use Rattle.turn_client_runs.proofs.bound.bound_connections_have_their_success.Goals as goal

pub returns : goal.returns
returns c = connections-have-success
