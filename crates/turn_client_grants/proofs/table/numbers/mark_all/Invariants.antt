use Rattle.turn_client_grants.proofs.table.numbers.mark_all.Given as goal
use Rattle.std.proofs.Common.{take}
use Rattle.turn_client_grants.specs.Lists.{Marks}

abbrev pub invariant-loop-grant : goal.invariant-loop-grant
invariant-loop-grant l = Marks l.taken (take l.grant-index l.grants)
