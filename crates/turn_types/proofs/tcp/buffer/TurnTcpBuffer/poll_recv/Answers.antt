use Rattle.turn_types.proofs.BufferLemmas.{stays-IsCounted}
use Rattle.turn_types.proofs.tcp.buffer.TurnTcpBuffer.poll_recv.Goals as goal

pub returns-in-Partial-clause-counted : goal.returns-in-Partial-clause-counted
returns-in-Partial-clause-counted c = stays-IsCounted c.args.self.now c.rest.ensures.kept
