use Rattle.std.proofs.Common.{arith}
use Rattle.std.proofs.lemmas.Grind.{common_steps}
use Rattle.std.proofs.lemmas.List.Edits.{map_over_more}
use Rattle.turn_session_book.specs.OpenRequests.{denied_with}
use Rattle.turn_session_book.proofs.open_requests.advancing.deny_all.Goals as goal

pub loop-request-preserved : goal.loop-request-preserved
loop-request-preserved c = grind (arith, common_steps, map_over_more (denied_with c.args.permission c.args.error))
