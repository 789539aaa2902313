use Rattle.turn_client_runs.proofs.TriedLemmas.{run-tried}
use Rattle.turn_client_runs.proofs.tried.requests_are_tried.Goals as goal

pub returns : goal.returns
returns c = record { tried = run-tried }
