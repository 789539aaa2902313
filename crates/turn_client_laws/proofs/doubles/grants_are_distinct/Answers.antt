use Rattle.turn_client_laws.proofs.DistinctGrants.{initial-single, leaves-single}
use Rattle.turn_client_laws.proofs.doubles.grants_are_distinct.Goals as goal

pub returns-clause-initial : goal.returns-clause-initial
returns-clause-initial c = initial-single

pub returns-clause-kept : goal.returns-clause-kept
returns-clause-kept c = leaves-single
