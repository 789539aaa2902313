use Rattle.turn_client_laws.proofs.FreeNumberLemmas.{free-all, free-found, free-none, free-only}
use Rattle.turn_client_laws.proofs.bodies.least_free_number_is_bound.Goals as goal

pub returns-clause-found : goal.returns-clause-found
returns-clause-found c number s = free-found s number

pub returns-clause-only : goal.returns-clause-only
returns-clause-only c number s = free-only s number

pub returns-clause-none : goal.returns-clause-none
returns-clause-none c = free-none

pub returns-clause-all : goal.returns-clause-all
returns-clause-all c = free-all
