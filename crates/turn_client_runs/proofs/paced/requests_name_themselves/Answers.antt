use Rattle.turn_client_runs.proofs.HeaderLemmas.{delete-named, first-named, request-named}
use Rattle.turn_client_runs.proofs.paced.requests_name_themselves.Goals as goal

pub returns : goal.returns
returns c = record { named = λ s id i. (request-named s id i, first-named s id i, λ e. delete-named s id i e) }
