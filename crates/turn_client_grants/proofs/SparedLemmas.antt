-- No channel that is reserved fails: it was reported when it expired.
use Rattle.std.proofs.Common.{ℕ, arith}
use Rattle.std.specs.Prelude.{Option}
use Rattle.turn_types.specs.declared.family.AddressFamily.{AddressFamily}
use Rattle.turn_client_grants.specs.Failures.{SparesReserved}
use Rattle.turn_client_grants.specs.GrantFilter.{holds}
use Rattle.turn_client_grants.specs.declared.grant_filter.GrantFilter.TheVariants as W
use Rattle.turn_client_grants.specs.declared.purposes.Purposes.{Purposes}

pub spares-pending_permissions_of : (purposes : Purposes) → SparesReserved (W.PendingPermissionsOf purposes)
unfolding holds
spares-pending_permissions_of purposes number peer until = grind arith

pub spares-pending_permissions : (family : AddressFamily) (purposes : Purposes) → SparesReserved (W.PendingPermissionsIn family purposes)
unfolding holds
spares-pending_permissions family purposes number peer until = grind arith

pub spares-pending_channels : (family : AddressFamily) (purposes : Purposes) → SparesReserved (W.PendingChannelsIn family purposes)
unfolding holds
spares-pending_channels family purposes number peer until = grind arith

pub spares-expired_permissions : (family : AddressFamily) (now : ℕ) → SparesReserved (W.ExpiredPermissions family now)
unfolding holds
spares-expired_permissions family now number peer until = grind arith

pub spares-connects : (family : AddressFamily) (purposes : Purposes) → SparesReserved (W.ConnectsIn family purposes)
unfolding holds
spares-connects family purposes number peer until = grind arith

pub spares-unbound : (family : AddressFamily) (now : ℕ) (purposes : Purposes) → SparesReserved (W.UnboundIn family now purposes)
unfolding holds
spares-unbound family now purposes number peer until = grind arith

pub spares-offers : (family : AddressFamily) (given : Option ℕ) → SparesReserved (W.OffersIn family given)
unfolding holds
spares-offers family given number peer until = grind arith
