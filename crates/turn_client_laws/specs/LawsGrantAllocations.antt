-- The allocation that each grant belongs to, over all calls.
use Rattle.std.specs.Prelude.{◌≡◌, ◌&&◌, true, Option, Some, None, All, IfSome}
use Rattle.std.specs.List.{list_any}
use Rattle.turn_types.specs.declared.family.AddressFamily.{AddressFamily}
use Rattle.turn_client_api.specs.State.{State}
use Rattle.turn_client_api.specs.declared.grant.Purpose.{Purpose}
use Rattle.turn_client_api.specs.declared.grant.Purpose.TheVariants.{ForChannel, ForConnect}
use Rattle.turn_client_api.specs.declared.grant.Listing.{Listing}
use Rattle.turn_client_api.specs.Grants.{family_of, is_for, is_of}
use Rattle.turn_client_api.specs.Alarm.{AllHaveAllocation}

-- the family of the peer that a channel or a connection is requested for
abbrev pub asked_family : Purpose → Option AddressFamily
asked_family (ForChannel number peer) = Some (family_of peer)
asked_family (ForConnect peer) = Some (family_of peer)
asked_family _ = None

-- a grant of this family exists that the request is for
abbrev pub IsAskedIn : State → Purpose → AddressFamily → Type 0
IsAskedIn s purpose family = list_any (λ g. is_for purpose g && is_of family g) s.grants ≡ true

-- The reply to a request for a channel or a connection may add a grant: one of its peer's family exists
-- already.
abbrev pub ReplyHasAllocation : State → Listing → Type 0
ReplyHasAllocation s l = IfSome (asked_family l.purpose) (IsAskedIn s l.purpose)

-- Each grant has an allocation, and so does what a reply may add.
abbrev pub GrantsHaveAllocations : State → Type 0
GrantsHaveAllocations s = AllHaveAllocation s × All (ReplyHasAllocation s) s.listed
