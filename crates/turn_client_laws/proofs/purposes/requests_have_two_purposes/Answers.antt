use Rattle.turn_client_laws.proofs.TwoPurposes.{initial-HasTwoPurposes, leaves-two}
use Rattle.turn_client_laws.proofs.purposes.requests_have_two_purposes.Goals as goal

pub returns-clause-initial : goal.returns-clause-initial
returns-clause-initial c = initial-HasTwoPurposes

pub returns-clause-kept : goal.returns-clause-kept
returns-clause-kept c = leaves-two
