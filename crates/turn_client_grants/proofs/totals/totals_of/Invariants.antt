use Rattle.std.proofs.Common.{drop}
use Rattle.turn_client_grants.specs.Summary.{ReadsAlike}
use Rattle.turn_client_grants.proofs.totals.totals_of.Given as goal

abbrev pub invariant-loop-grant : goal.invariant-loop-grant
invariant-loop-grant l = ReadsAlike l.totals (drop l.grant-index l.these) l.start l.these l.grants l.listed
