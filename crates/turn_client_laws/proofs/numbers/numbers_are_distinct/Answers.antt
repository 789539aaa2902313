use Rattle.turn_client_laws.proofs.DistinctNumbers.{initial-numbers, leaves-apart}
use Rattle.turn_client_laws.proofs.numbers.numbers_are_distinct.Goals as goal

pub returns-clause-initial : goal.returns-clause-initial
returns-clause-initial c = initial-numbers

pub returns-clause-kept : goal.returns-clause-kept
returns-clause-kept c = leaves-apart
