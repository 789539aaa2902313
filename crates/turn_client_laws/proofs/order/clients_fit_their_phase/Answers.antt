use Rattle.turn_client_laws.proofs.SendOrderLemmas.{initial-steady, leaves-steadies, steady-FitsPhaseForPoll}
use Rattle.turn_client_laws.proofs.order.clients_fit_their_phase.Goals as goal

pub returns : goal.returns
returns c = record {
  initial = initial-steady;
  kept = leaves-steadies;
  orderly = steady-FitsPhaseForPoll;
}
