use Rattle.turn_client_runs.proofs.InOrderRuns.{inputs-follow}
use Rattle.turn_client_runs.proofs.order.inputs_follow_each_other.Goals as goal

pub returns : goal.returns
returns c = inputs-follow
