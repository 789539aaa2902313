use Rattle.turn_client_runs.proofs.SendsRuns.{run-reaches, run-tells}
use Rattle.turn_client_runs.proofs.sends.reachable_peers_are_sent_to.Goals as goal

pub returns : goal.returns
returns c = record { sends = run-reaches; tells = run-tells }
