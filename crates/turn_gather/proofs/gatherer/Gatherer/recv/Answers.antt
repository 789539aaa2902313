use Rattle.turn_gather.proofs.ReceivedLemmas.{passed-HandsOn}
use Rattle.turn_gather.proofs.gatherer.Gatherer.recv.Goals as goal

pub returns-in-PeerData-clause-hands_on : goal.returns-in-PeerData-clause-hands_on
returns-in-PeerData-clause-hands_on g c =
    passed-HandsOn c.args.transmit c.in_ok-recv.field-0 c.in-PeerData.given c.pass_up.result c.in_ok-recv.ensures.hands_back c.in-PeerData.is c.pass_up.ensures.hands_on
