use Rattle.turn_client_laws.proofs.NewIdCallLemmas.{leaves-draws}
use Rattle.turn_client_laws.proofs.replies.ids_are_drawn.Goals as goal

pub returns : goal.returns
returns c = λ call s t left id. leaves-draws id call s t left
