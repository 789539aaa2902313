use Rattle.turn_client_runs.proofs.LeavingRuns.{run-owns}
use Rattle.turn_client_runs.proofs.leaving.only_own_messages_leave.Goals as goal

pub returns : goal.returns
returns c = record { own = run-owns }
