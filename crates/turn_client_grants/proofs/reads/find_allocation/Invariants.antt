use Rattle.std.proofs.Common.{◌≡◌, drop}
use Rattle.turn_client_grants.specs.Lists.{find_allocation_in}
use Rattle.turn_client_grants.proofs.reads.find_allocation.Given as goal

abbrev pub invariant-loop-grant : goal.invariant-loop-grant
invariant-loop-grant l = find_allocation_in l.family (drop l.grant-index l.grants) ≡ find_allocation_in l.family l.grants
