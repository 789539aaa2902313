use Rattle.std.proofs.Common.{arith}
use Rattle.std.proofs.lemmas.Grind.{common_steps}
use Rattle.std.proofs.lemmas.List.Edits.{map_over_more}
use Rattle.turn_relay_lives.proofs.MappedLemmas.{all-mapped}
use Rattle.turn_relay_lives.specs.LiveState.{chosen}
use Rattle.turn_relay_lives.proofs.lives.choose.Goals as goal

pub loop-live-preserved : goal.loop-live-preserved
loop-live-preserved g c = grind (arith, common_steps, map_over_more (chosen c.args.socket c.args.now))

pub returns : goal.returns
returns g c =
    all-mapped (chosen c.args.socket c.args.now) c.args.rows.now.items c.as_mut_slice-all.result.now c.loop-live.all c.loop-live.live-index c.args.rows.now.len
    c.as_mut_slice-all.ensures.value c.as_mut_slice-all.ensures.len c.loop-live-test.false c.loop-live.invariant
