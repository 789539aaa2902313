use Rattle.turn_client_laws.proofs.IndicatedOffers.{initial-HasFewIndicated, leaves-HasFewIndicated}
use Rattle.turn_client_laws.proofs.states.indicated_offers_are_few.Goals as goal

pub returns-clause-initial : goal.returns-clause-initial
returns-clause-initial c = initial-HasFewIndicated

pub returns-clause-kept : goal.returns-clause-kept
returns-clause-kept c = leaves-HasFewIndicated
