use Rattle.turn_client_laws.proofs.BoundStreamLemmas.{leaves-bound, leaves-connection}
use Rattle.turn_client_laws.proofs.bound.only_a_signed_success_binds.Goals as goal

pub returns-clause-stream : goal.returns-clause-stream
returns-clause-stream c = λ call s t local peer. leaves-bound local peer call s t

pub returns-clause-connection : goal.returns-clause-connection
returns-clause-connection c = leaves-connection
