use Rattle.std.proofs.Common.{arith, ◌<◌, ◌^◌}
use Rattle.turn_agent.proofs.ScheduleLemmas.{IsDoubling-more, IsDoubling-none, IsDoubling-greatest, IsDoubling-far}
use Rattle.turn_agent.proofs.schedule.sum_of_doubled.Goals as goal
use Rattle.turn_agent.proofs.schedule.sum_of_doubled.Goals.{else-loop-round-test, then-loop-round-test+then-left-eq0}
use Rattle.turn_agent.proofs.schedule.sum_of_doubled.Goals.{then-left-eq0-via-then-left-eq0, then-left-eq0-via-else-left-eq0+then-wait-greatest}

pub loop-round-preserved : goal.loop-round-preserved
loop-round-preserved c =
    IsDoubling-more _ _ _ _ _ _ _ c.loop-round.invariant c.if-left-eq0.false c.if-wait-greatest.false (omega (arith, c.from-greatest.ensures, c.ranges.greatest.fits))

pub returns-clause-sum : goal.returns-clause-sum
returns-clause-sum c =
    let small : c.from-greatest.result < 2 ^ 64 = omega (arith, c.from-greatest.ensures, c.ranges.greatest.fits) in
    rw (c.from.ensures, ← c.from-greatest.ensures)
    (elim c.loop-round-test.branch [
      | else-loop-round-test w ↦ IsDoubling-far _ _ _ _ _ _ _ c.loop-round.invariant w.loop-round-test.false small c.requires
      | then-loop-round-test+then-left-eq0 w ↦ elim w.then-left-eq0.branch [
        | then-left-eq0-via-then-left-eq0 w' ↦ IsDoubling-none _ _ _ _ _ _ _ c.loop-round.invariant w'.if-left-eq0.true
        | then-left-eq0-via-else-left-eq0+then-wait-greatest w' ↦ IsDoubling-greatest _ _ _ _ _ _ _ c.loop-round.invariant w'.if-wait-greatest.true
      ]
    ])
