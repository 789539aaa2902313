use Rattle.std.proofs.Common.{◌≡◌, length}
use Rattle.turn_client_api.specs.Addresses.{permitted_left}
use Rattle.turn_client_api.proofs.addresses.PermissionAddressesIterIterator.next.Given as goal

abbrev pub invariant-loop-grant : goal.invariant-loop-grant
invariant-loop-grant l = permitted_left l.self ≡ permitted_left l.fn.self

abbrev pub decreases-loop-grant : goal.decreases-loop-grant
decreases-loop-grant l = length l.self.grants.now
