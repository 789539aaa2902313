use Rattle.turn_client_runs.proofs.DeliveryRuns.{datagrams, drained, inputs}
use Rattle.turn_client_runs.proofs.deliveries.data_of_peers_is_returned.Goals as goal

pub returns : goal.returns
returns c = record { datagrams = datagrams; inputs = inputs; drained = drained }
