use Rattle.turn_client_runs.proofs.PacedLemmas.{run-paced}
use Rattle.turn_client_runs.proofs.paced.first_copies_are_paced.Goals as goal

pub returns : goal.returns
returns c = record { paced = run-paced }
