use Rattle.turn_client_runs.proofs.BusyLemmas.{busy-for-ever}
use Rattle.turn_client_runs.proofs.busy.without_waits_a_client_is_busy_for_ever.Goals as goal

pub returns : goal.returns
returns c = record { busy = busy-for-ever }
