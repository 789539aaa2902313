use Rattle.turn_stun.proofs.WriteLemmas.{IsWritten-IsMessage}
use Rattle.turn_stun.proofs.message.write.MessageWriteVec.finish.Goals as goal

pub returns-clause-message : goal.returns-clause-message
returns-clause-message c = rw (← c.self.view_is) (IsWritten-IsMessage c.self.inside.bytes.items c.self.invariant)
