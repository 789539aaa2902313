use Rattle.std.proofs.Common.{arith}
use Rattle.std.proofs.lemmas.Grind.{common_steps}
use Rattle.std.proofs.lemmas.List.Edits.{map_over_more}
use Rattle.turn_client_grants.specs.Table.{changed}
use Rattle.turn_client_grants.proofs.changes.apply.Goals as goal

pub loop-grant-preserved : goal.loop-grant-preserved
loop-grant-preserved c = grind (arith, common_steps, map_over_more (changed c.args.change.now))
