use Rattle.turn_client_runs.proofs.HandshakeLemmas.{run-handshake, run-steadily}
use Rattle.turn_client_runs.proofs.handshake.handshakes_succeed.Goals as goal

pub returns : goal.returns
returns c = record { succeeds = run-handshake; steady = run-steadily }
