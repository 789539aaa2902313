use Rattle.std.proofs.Common.{◌≡◌, ◌-◌, length}
use Rattle.turn_client_grants.specs.NextPermission.{next_permitted}
use Rattle.turn_client_grants.proofs.reads.next_permitted.Given as goal

abbrev pub invariant-loop-grant : goal.invariant-loop-grant
invariant-loop-grant l = next_permitted l.family l.next l.grants ≡ next_permitted l.family l.position l.grants

abbrev pub decreases-loop-grant : goal.decreases-loop-grant
decreases-loop-grant l = length l.grants - l.next
