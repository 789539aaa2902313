use Rattle.std.proofs.Common.{◌≡◌, drop}
use Rattle.std.specs.Prelude.{filter_map, slice_get}
use Rattle.turn_client_api.specs.Grants.{as_allocation}
use Rattle.turn_client_grants.proofs.reads.nth_allocation.Given as goal

abbrev pub invariant-loop-grant : goal.invariant-loop-grant
invariant-loop-grant l =
    slice_get (filter_map as_allocation (drop l.grant-index l.grants)) l.left ≡ slice_get (filter_map as_allocation l.grants) l.place
