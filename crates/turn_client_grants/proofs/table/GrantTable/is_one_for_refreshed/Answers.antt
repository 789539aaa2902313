use Rattle.std.proofs.Common.{◌∙◌}
use Rattle.turn_client_grants.proofs.KeptLemmas.{one-purpose, no-purpose}
use Rattle.turn_client_grants.proofs.table.GrantTable.is_one_for_refreshed.Goals as goal

pub returns-in-Some : goal.returns-in-Some
returns-in-Some c = rw c.in-Some.is (c.is_for_refreshed.ensures ∙ one-purpose _ c.args.self.now.grants)

pub returns-in-None : goal.returns-in-None
returns-in-None c = rw c.in-None.is (no-purpose c.args.self.now.grants)
