-- The allocations among the grants.
use Rattle.std.proofs.Common.{◌≡◌, List, filter_map, Some, subst}
use Rattle.turn_client_api.specs.declared.grant.Grant.{Grant}
use Rattle.turn_client_api.specs.declared.grant.Grant.TheVariants.{Allocation}
use Rattle.turn_client_api.specs.declared.grant.Relay.{Relay}
use Rattle.turn_client_api.specs.Grants.{as_allocation}
use Rattle.turn_client_api.proofs.HasLemmas.{Has, has-filter_map}

-- an allocation that is read from the grants
pub allocation-there : (a : Relay) (gs : List Grant) → Has a (filter_map as_allocation gs) → Has (Allocation a) gs
allocation-there a gs h = let (g, there, is) = has-filter_map as_allocation a gs h in subst (λ (x : Grant). Has x gs) (the g is) there
  where
    the : (g : Grant) → as_allocation g ≡ Some a → g ≡ Allocation a
    the (Allocation b) e = cc
    the g e = cc
