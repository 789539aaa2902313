use Rattle.turn_client_runs.proofs.QuietLemmas.{initial-quiet, poll-quiet, run-quiet}
use Rattle.turn_client_runs.proofs.PiecesLemmas.{pieces-quiet}
use Rattle.turn_client_runs.proofs.cut.polled_clients_are_quiet.Goals as goal

pub returns : goal.returns
returns c = record {
  initial = initial-quiet;
  run = run-quiet;
  polled = poll-quiet;
  fed = pieces-quiet;
}
