use Rattle.turn_client_laws.proofs.Laws.{HasDistinctNumbers, initial-numbers, leaves-apart}
use Rattle.turn_client_runs.proofs.HoldLemmas.{holds-any, holds-found}
use Rattle.turn_client_runs.proofs.numbers.numbers_stay_distinct.Goals as goal

pub returns-clause-found : goal.returns-clause-found
returns-clause-found c = holds-found HasDistinctNumbers leaves-apart initial-numbers

pub returns-clause-any : goal.returns-clause-any
returns-clause-any c = holds-any HasDistinctNumbers leaves-apart initial-numbers
