use Rattle.std.proofs.Common.{◌∙◌, sym}
use Rattle.std.specs.Prelude.{filter_map}
use Rattle.turn_client_api.specs.Grants.{as_connection}
use Rattle.turn_client_grants.proofs.ThereLemmas.{own-end}
use Rattle.tests_tables.proofs.grants.random.connections.not_bound.Goals as goal

pub not_bound-requires : goal.not_bound-requires
not_bound-requires c = record {
  there = rw c.table.ensures.grants at (own-end c.address.result (filter_map as_connection c.table.result.now.grants) c.in-Some.connection (sym c.connection_at.ensures ∙ c.in-Some.is));
}
