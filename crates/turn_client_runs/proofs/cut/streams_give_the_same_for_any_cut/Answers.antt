use Rattle.turn_client_runs.proofs.PiecesLemmas.{any-cut}
use Rattle.turn_client_runs.proofs.cut.streams_give_the_same_for_any_cut.Goals as goal

pub returns : goal.returns
returns c = λ a pieces now s quiet some. any-cut a now pieces s quiet some
