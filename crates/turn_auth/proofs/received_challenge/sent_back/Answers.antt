use Rattle.std.proofs.Common.{length, ap}
use Rattle.turn_stun.proofs.WalkLemmas.{is_some-none}
use Rattle.turn_auth.proofs.received_challenge.sent_back.Goals as goal

-- if nothing is sent back, there is nothing to walk
pub returns-in_default-clause-whole : goal.returns-in_default-clause-whole
returns-in_default-clause-whole c = is_some-none 0 _ (ap length c.new.ensures.items)
