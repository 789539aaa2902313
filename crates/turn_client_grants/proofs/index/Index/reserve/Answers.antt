use Rattle.std.proofs.Common.{arith}
use Rattle.turn_client_grants.proofs.PlacedLemmas.{led-reserved}
use Rattle.turn_client_grants.proofs.index.Index.reserve.Goals as goal

pub returns-clause-led : goal.returns-clause-led
returns-clause-led c =
    led-reserved c.make.result _ c.make.new.self c.args.grants.now c.make.ensures.ok c.make.ensures.err
    (λ made. record {
      names = rw (c.reserve.ensures.heads, c.reserve.ensures.links) (c.requires made).names;
      peers = rw (c.reserve-2.ensures.heads, c.reserve-2.ensures.links) (c.requires made).peers;
      fits = omega (arith, (c.requires made).fits, c.reserve.ensures.left, c.reserve-2.ensures.left);
    })
