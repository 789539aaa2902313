use Rattle.turn_client_grants.proofs.PlacedLemmas.{alone-by}
use Rattle.turn_client_grants.proofs.index.Index.lead.Goals as goal

pub find-requires-clause-alone : goal.find-requires-clause-alone
find-requires-clause-alone c = alone-by c.args.grants.now c.args.key.now c.requires.alone

pub find-requires-in-Number-clause-alone : goal.find-requires-in-Number-clause-alone
find-requires-in-Number-clause-alone c = alone-by c.args.grants.now c.args.key.now c.requires.alone

pub find-requires-in-Ip-clause-alone : goal.find-requires-in-Ip-clause-alone
find-requires-in-Ip-clause-alone c = alone-by c.args.grants.now c.args.key.now c.requires.alone
