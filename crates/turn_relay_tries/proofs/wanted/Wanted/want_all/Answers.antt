use Rattle.std.proofs.Common.{arith}
use Rattle.std.proofs.lemmas.Grind.{common_steps}
use Rattle.std.proofs.lemmas.List.Sums.{fold_more}
use Rattle.turn_relay_tries.specs.Wanted.{wanted_if_kept}
use Rattle.turn_relay_tries.proofs.wanted.Wanted.want_all.Goals as goal

pub loop-grant-preserved : goal.loop-grant-preserved
loop-grant-preserved c = grind (arith, common_steps, fold_more wanted_if_kept)
