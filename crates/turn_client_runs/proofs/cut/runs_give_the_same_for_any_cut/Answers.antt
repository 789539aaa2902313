use Rattle.turn_client_runs.proofs.RunCutLemmas.{run-cut}
use Rattle.turn_client_runs.proofs.cut.runs_give_the_same_for_any_cut.Goals as goal

pub returns : goal.returns
returns c = run-cut
