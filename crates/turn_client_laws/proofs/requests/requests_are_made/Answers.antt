use Rattle.turn_client_laws.proofs.MoveInputLemmas.{listings-made, requests-made}
use Rattle.turn_client_laws.proofs.requests.requests_are_made.Goals as goal

pub returns-clause-request : goal.returns-clause-request
returns-clause-request c = requests-made

pub returns-clause-listing : goal.returns-clause-listing
returns-clause-listing c = listings-made
