use Rattle.turn_client_laws.proofs.HeldChallenge.{initial-HoldsChallenge, leaves-HoldsChallenge}
use Rattle.turn_client_laws.proofs.states.challenges_are_held.Goals as goal

pub returns-clause-initial : goal.returns-clause-initial
returns-clause-initial c = initial-HoldsChallenge

pub returns-clause-kept : goal.returns-clause-kept
returns-clause-kept c = leaves-HoldsChallenge
