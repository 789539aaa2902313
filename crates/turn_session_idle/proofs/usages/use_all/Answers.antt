use Rattle.std.proofs.Common.{arith}
use Rattle.std.proofs.lemmas.Grind.{common_steps}
use Rattle.std.proofs.lemmas.List.Edits.{map_over_more}
use Rattle.turn_session_idle.specs.Usage.{used_with}
use Rattle.turn_session_idle.proofs.usages.use_all.Goals as goal

pub loop-usage-preserved : goal.loop-usage-preserved
loop-usage-preserved c = grind (arith, common_steps, map_over_more (used_with c.args.key c.args.now))
