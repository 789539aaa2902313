use Rattle.std.proofs.Common.{arith, length}
use Rattle.turn_client_grants.proofs.PlacedLemmas.{chained-none}
use Rattle.turn_client_grants.proofs.index.Index.remake.Goals as goal

pub extend-requires-clause-led : goal.extend-requires-clause-led
extend-requires-clause-led c = λ made.
    let some = c.requires.some made in
    record {
      names = chained-none _ _ (length c.args.self.now.names.heads.items) c.clear.ensures.heads c.clear.ensures.links some.0;
      peers = chained-none _ _ (length c.args.self.now.peers.heads.items) c.clear-2.ensures.heads c.clear-2.ensures.links some.1;
      fits = omega arith;
    }
