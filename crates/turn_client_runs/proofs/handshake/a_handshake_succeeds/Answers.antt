use Rattle.turn_client_runs.proofs.HandshakePauseLemmas.{paused-handshake-is-worked}
use Rattle.turn_client_runs.proofs.HandshakeRowLemmas.{handshake-is-worked}
use Rattle.turn_client_runs.proofs.handshake.a_handshake_succeeds.Goals as goal

pub returns : goal.returns
returns c = record { worked = handshake-is-worked; paused = paused-handshake-is-worked }
