use Rattle.turn_client_runs.proofs.DrainLemmas.{queues-drain}
use Rattle.turn_client_runs.proofs.paced.queues_drain.Goals as goal

pub returns : goal.returns
returns c = record { drains = queues-drain }
