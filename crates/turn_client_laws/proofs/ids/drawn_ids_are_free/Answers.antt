use Rattle.turn_client_laws.proofs.NewIdLemmas.{fresh-free}
use Rattle.turn_client_laws.proofs.ids.drawn_ids_are_free.Goals as goal

pub returns : goal.returns
returns c = fresh-free
