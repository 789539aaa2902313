use Rattle.turn_client_runs.proofs.SentRuns.{run-gives, run-sends}
use Rattle.turn_client_runs.proofs.sent.packets_go_out.Goals as goal

pub returns : goal.returns
returns c = record { server = run-sends; peers = run-gives }
