use Rattle.turn_client_laws.proofs.MoveInputLemmas.{grants-taken}
use Rattle.turn_client_laws.proofs.OverLemmas.{poll-over}
use Rattle.turn_client_laws.proofs.gone.grants_go_by_kind.Goals as goal

pub returns-clause-call : goal.returns-clause-call
returns-clause-call c = grants-taken

pub returns-clause-poll : goal.returns-clause-poll
returns-clause-poll c = poll-over
