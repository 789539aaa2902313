use Rattle.std.proofs.Common.{◌≡◌, drop}
use Rattle.turn_client_api.specs.Poll.{unreported_in}
use Rattle.turn_client_grants.specs.Lists.{first_among}
use Rattle.turn_client_grants.proofs.offers.first_unreported.Given as goal

abbrev pub invariant-loop-grant : goal.invariant-loop-grant
invariant-loop-grant l = first_among (unreported_in l.family) (drop l.grant-index l.grants) ≡ first_among (unreported_in l.family) l.grants
