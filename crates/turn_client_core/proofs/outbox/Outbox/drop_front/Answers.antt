use Rattle.turn_client_laws.proofs.Common.{◌≡◌, ◌∙◌, ◌+◌, ◌-◌, suc, ap, arith}
use Rattle.turn_client_core.specs.Outgoing.{with_room, without_front}
use Rattle.turn_client_core.proofs.outbox.FrontLemmas.{front-last, front-next}
use Rattle.turn_client_core.proofs.outbox.Outbox.drop_front.Goals as goal

pub loop-round-preserved : goal.loop-round-preserved
loop-round-preserved c =
    let round = c.loop-round._round in
    let more : suc (c.args.count - (round + 1)) ≡ c.args.count - round = omega (arith, c.loop-round-test.true) in
    front-next (c.args.count - (round + 1)) c.loop-round.self c.drop_first.new.self c.drop_first.ensures
    ∙ (ap (λ n. without_front n (with_room 0 c.loop-round.self)) more ∙ c.loop-round.invariant)

pub returns : goal.returns
returns c =
    front-last (c.args.count - c.loop-round._round) c.args.count c.args.self.now c.loop-round.self (omega (arith, c.loop-round-test.false)) c.loop-round.invariant
