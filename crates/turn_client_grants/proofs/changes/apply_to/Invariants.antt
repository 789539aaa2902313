use Rattle.std.proofs.Common.{◌≡◌, ◌++◌, map, take, drop}
use Rattle.turn_client_grants.specs.Table.{changed}
use Rattle.turn_client_grants.proofs.changes.apply_to.Given as goal

abbrev pub invariant-loop-grant : goal.invariant-loop-grant
invariant-loop-grant l = l.all ≡ map (changed l.change) (take l.grant-index l.initial.all) ++ drop l.grant-index l.initial.all
