use Rattle.turn_client_runs.proofs.PeerLemmas.{all-answered, received, reports-permitted}
use Rattle.turn_client_runs.proofs.peers.only_permitted_is_received.Goals as goal

pub returns : goal.returns
returns c = record {
  let_in = λ s calls payload. received payload s calls;
  answered = all-answered;
  icmp = λ s calls one there. reports-permitted one;
}
