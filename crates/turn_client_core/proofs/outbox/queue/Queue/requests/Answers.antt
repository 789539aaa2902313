use Rattle.turn_client_laws.proofs.Common.{arith, sym}
use Rattle.turn_client_core.proofs.outbox.QueueLemmas.{reply_count-le, requests-counted}
use Rattle.turn_client_core.proofs.outbox.queue.Queue.requests.Goals as goal

pub overflow_sub-result : goal.overflow_sub-result
overflow_sub-result c =
    let packets = c.self.inside.packets in
    omega (arith, c.self.invariant, c.len.ensures, reply_count-le packets.items, packets.ok.0)

pub returns : goal.returns
returns c = rw (← c.self.view_is, c.self.invariant, c.len.ensures, c.self.inside.packets.ok.0) (sym (requests-counted c.self.inside.packets.items))
