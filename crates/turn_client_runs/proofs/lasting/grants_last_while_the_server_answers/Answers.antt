use Rattle.turn_client_runs.proofs.LastingParts.{grants-last, on-time-behind, requests-succeed}
use Rattle.turn_client_runs.proofs.LastingGranted.{granted-answered}
use Rattle.turn_client_runs.proofs.LastingPieces.{packets-enough}
use Rattle.turn_client_runs.proofs.LastingSeen.{grants-last-behind}
use Rattle.turn_client_runs.proofs.LastingRuns.{datagram-message, success-ended}
use Rattle.turn_client_runs.proofs.lasting.grants_last_while_the_server_answers.Goals as goal

pub returns : goal.returns
returns c = record {
  last = grants-last;
  asked = requests-succeed;
  behind = grants-last-behind;
  on_time = on-time-behind;
  by_packets = packets-enough;
  granted = granted-answered;
  ended = success-ended;
  datagrams = datagram-message;
}
