use Rattle.turn_client_laws.proofs.ListedGrants.{initial-HasGrantsAsked, leaves-HasGrantsAsked}
use Rattle.turn_client_laws.proofs.states.listings_have_grants.Goals as goal

pub returns-clause-initial : goal.returns-clause-initial
returns-clause-initial c = initial-HasGrantsAsked

pub returns-clause-kept : goal.returns-clause-kept
returns-clause-kept c = leaves-HasGrantsAsked
