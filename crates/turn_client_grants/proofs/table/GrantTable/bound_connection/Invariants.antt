use Rattle.std.proofs.Common.{◌≡◌, drop}
use Rattle.std.specs.Prelude.{filter_map, find}
use Rattle.turn_client_api.specs.Calls.{bound_to}
use Rattle.turn_client_api.specs.Grants.{as_connection}
use Rattle.turn_client_grants.proofs.table.GrantTable.bound_connection.Given as goal

abbrev pub invariant-loop-grant : goal.invariant-loop-grant
invariant-loop-grant l =
    find (bound_to l.peer) (filter_map as_connection (drop l.grant-index l.grants)) ≡ find (bound_to l.peer) (filter_map as_connection l.grants)
