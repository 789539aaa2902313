use Rattle.turn_client_runs.proofs.ServerLemmas.{requests-can-be-granted}
use Rattle.turn_client_runs.proofs.server.requests_can_be_granted.Goals as goal

pub returns : goal.returns
returns c = record { granted = requests-can-be-granted }
