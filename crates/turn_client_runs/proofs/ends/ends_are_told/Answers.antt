use Rattle.turn_client_runs.proofs.EndRuns.{run-tells-end}
use Rattle.turn_client_runs.proofs.ends.ends_are_told.Goals as goal

pub returns : goal.returns
returns c = record { ends = run-tells-end }
