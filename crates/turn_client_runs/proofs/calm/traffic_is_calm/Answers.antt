use Rattle.turn_client_runs.proofs.CalmRuns.{run-calm}
use Rattle.turn_client_runs.proofs.calm.traffic_is_calm.Goals as goal

pub returns : goal.returns
returns c = run-calm
