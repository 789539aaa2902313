use Rattle.turn_client_laws.proofs.Common.{sym}
use Rattle.turn_client_core.proofs.outbox.QueueLemmas.{reply-counted}
use Rattle.turn_client_core.proofs.outbox.queue.Queue.has_reply.Goals as goal

pub returns : goal.returns
returns c = rw (← c.self.view_is, c.self.invariant) (sym (reply-counted c.self.inside.packets.items))
