use Rattle.turn_client_laws.proofs.Common.{sym}
use Rattle.turn_client_core.proofs.outbox.QueueLemmas.{request-counted}
use Rattle.turn_client_core.proofs.outbox.queue.Queue.has_request.Goals as goal

pub returns : goal.returns
returns c = rw (← c.self.view_is, c.self.invariant, c.len.ensures, c.self.inside.packets.ok.0) (sym (request-counted c.self.inside.packets.items))
