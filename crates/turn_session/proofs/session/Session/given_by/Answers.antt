use Rattle.turn_client_api.specs.Answers.{given_payload}
use Rattle.turn_session.proofs.FramingLemmas.{on-err}
use Rattle.turn_session.proofs.session.Session.given_by.Goals as goal

pub returns-in-PeerData-clause-err : goal.returns-in-PeerData-clause-err
returns-in-PeerData-clause-err g c = on-err c.copied.result c.copied.ensures.err (λ same. (given_payload c.in-PeerData.data, cc, same))
