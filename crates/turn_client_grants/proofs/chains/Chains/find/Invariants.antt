use Rattle.turn_client_grants.proofs.ChainLemmas.{Seek}
use Rattle.turn_client_grants.proofs.chains.Chains.find.Given as goal

abbrev pub decreases-rows : goal.decreases-rows
decreases-rows l = l.at

abbrev pub invariant-rows : goal.invariant-rows
invariant-rows l = Seek l.self.heads.items l.grants l.key l.at
