use Rattle.std.proofs.Common.{◌≡◌, drop}
use Rattle.std.specs.Prelude.{filter_map, find}
use Rattle.turn_agent.specs.Agent.{same_address}
use Rattle.turn_client_api.specs.Grants.{as_connection}
use Rattle.turn_client_grants.proofs.table.GrantTable.connection_at.Given as goal

abbrev pub invariant-loop-grant : goal.invariant-loop-grant
invariant-loop-grant l =
    find (λ c. same_address c.local l.local) (filter_map as_connection (drop l.grant-index l.grants)) ≡ find (λ c. same_address c.local l.local) (filter_map as_connection l.grants)
