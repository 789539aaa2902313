use Rattle.turn_client_laws.proofs.Common.{rules}
use Rattle.turn_client_core.proofs.incoming.AllocatedLemmas.{missing-none}
use Rattle.turn_client_core.proofs.allocated.taken_addresses.Goals as goal

pub loop-raw-init : goal.loop-raw-init
loop-raw-init c = rw (c.new-taken.ensures.items, missing-none c.args.families.now) (search rules)
