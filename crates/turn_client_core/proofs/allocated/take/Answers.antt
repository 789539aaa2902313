use Rattle.turn_client_laws.proofs.Common.{rules}
use Rattle.turn_client_core.proofs.incoming.AllocatedLemmas.{taken-more, taken-same}
use Rattle.turn_client_core.proofs.allocated.take.Goals as goal

pub returns-in_ok-push : goal.returns-in_ok-push
returns-in_ok-push c = rw c.in_ok-push.ensures.items
    (taken-more c.args.address c.args.taken.now.items c.args.families.now (search rules))

pub returns-else-is_wanted : goal.returns-else-is_wanted
returns-else-is_wanted c = taken-same c.args.address c.args.taken.now.items c.args.families.now (search rules)
