use Rattle.std.proofs.Common.{◌≡◌, drop, filter}
use Rattle.std.specs.Prelude.{filter_map, option_map, slice_get}
use Rattle.turn_client_api.specs.Calls.{is_offer_of}
use Rattle.turn_client_api.specs.Grants.{as_offer}
use Rattle.turn_client_grants.proofs.table.GrantTable.offer_origin.Given as goal

abbrev pub invariant-loop-grant : goal.invariant-loop-grant
invariant-loop-grant l =
    option_map (λ offer. offer.origin) (slice_get (filter_map as_offer (filter (is_offer_of l.id l.peer) (drop l.grant-index l.grants))) 0)
    ≡ option_map (λ offer. offer.origin) (slice_get (filter_map as_offer (filter (is_offer_of l.id l.peer) l.grants)) 0)
