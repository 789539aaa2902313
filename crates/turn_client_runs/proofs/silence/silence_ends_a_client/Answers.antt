use Rattle.turn_client_runs.proofs.SilenceLemmas.{run-silent}
use Rattle.turn_client_runs.proofs.silence.silence_ends_a_client.Goals as goal

pub returns : goal.returns
returns c = record { ends = run-silent }
