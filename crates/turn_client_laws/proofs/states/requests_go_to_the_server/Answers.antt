use Rattle.turn_client_laws.proofs.SentToServer.{initial-AsksServer, leaves-AsksServer}
use Rattle.turn_client_laws.proofs.states.requests_go_to_the_server.Goals as goal

pub returns-clause-initial : goal.returns-clause-initial
returns-clause-initial c = initial-AsksServer

pub returns-clause-kept : goal.returns-clause-kept
returns-clause-kept c = leaves-AsksServer
