use Rattle.std.proofs.Common.{rules, ◌≤◌, min, arith, subst, sym}
use Rattle.turn_relay_tries.specs.Backoff.{IsLeast, lot_of}
use Rattle.turn_relay_tries.proofs.WaitLemmas.{waits-least}
use Rattle.turn_relay_tries.proofs.backoff.Backoff.drawn.Goals as goal

pub returns-clause-value : goal.returns-clause-value
returns-clause-value c = search rules

pub returns-clause-least : goal.returns-clause-least
returns-clause-least c =
    let few : lot_of c.args.number ≤ 4_294_967_296 = omega (arith) in
    subst (IsLeast c.args.self c.args.wait) (sym (returns-clause-value c))
    (waits-least c.args.wait (min c.args.self.jitter 1_000) (lot_of c.args.number) few)
