use Rattle.std.proofs.Common.{◌≡◌, drop}
use Rattle.std.specs.Prelude.{find}
use Rattle.turn_client_grants.specs.Keys.{is_found_by}
use Rattle.turn_client_grants.proofs.reads.first_found.Given as goal

abbrev pub invariant-loop-grant : goal.invariant-loop-grant
invariant-loop-grant l = find (is_found_by l.key) (drop l.grant-index l.grants) ≡ find (is_found_by l.key) l.grants
