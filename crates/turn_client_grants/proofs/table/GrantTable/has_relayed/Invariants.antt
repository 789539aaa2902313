use Rattle.std.proofs.Common.{◌≡◌, drop, not, filter}
use Rattle.std.specs.Prelude.{filter_map}
use Rattle.std.specs.List.{list_any}
use Rattle.turn_agent.specs.Agent.{same_address}
use Rattle.turn_client_api.specs.Grants.{as_allocation}
use Rattle.turn_client_grants.proofs.table.GrantTable.has_relayed.Given as goal

abbrev pub invariant-loop-grant : goal.invariant-loop-grant
invariant-loop-grant l =
    list_any (λ a. same_address a.relayed l.relayed) (filter (λ a. not a.is_expired) (filter_map as_allocation (drop l.grant-index l.grants)))
    ≡ list_any (λ a. same_address a.relayed l.relayed) (filter (λ a. not a.is_expired) (filter_map as_allocation l.grants))
