use Rattle.std.proofs.Common.{◌≡◌, ◌++◌, drop, take}
use Rattle.turn_client_api.specs.Poll.{first_reported}
use Rattle.turn_client_grants.proofs.offers.report_first.Given as goal

abbrev pub invariant-loop-grant : goal.invariant-loop-grant
invariant-loop-grant l = record {
  same : l.all ≡ l.initial.all;
  rest : take l.grant-index l.initial.all ++ first_reported l.family (drop l.grant-index l.initial.all) ≡ first_reported l.family l.initial.all;
}
