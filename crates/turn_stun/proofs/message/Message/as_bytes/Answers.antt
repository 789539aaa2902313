use Rattle.turn_stun.proofs.FaultLemmas.{fault_of-none}
use Rattle.turn_stun.proofs.message.Message.as_bytes.Goals as goal

pub returns-clause-message : goal.returns-clause-message
returns-clause-message c = fault_of-none c.args.self.now (rw (← c.self.view_is) c.self.invariant.none)
