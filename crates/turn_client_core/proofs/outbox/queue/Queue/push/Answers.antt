use Rattle.turn_client_laws.proofs.Common.{arith}
use Rattle.turn_client_core.proofs.outbox.QueueLemmas.{reply_count-le}
use Rattle.turn_client_core.proofs.outbox.queue.Queue.push.Goals as goal

pub overflow_add-self : goal.overflow_add-self
overflow_add-self c =
    let packets = c.self.inside.packets in
    omega (arith, c.self.invariant, reply_count-le packets.items, packets.ok.0, packets.small)
