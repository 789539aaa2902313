use Rattle.std.proofs.Common.{◌≤◌, length, rules}
use Rattle.turn_types.proofs.BufferLemmas.{cut_off-IsCounted}
use Rattle.turn_types.proofs.tcp.buffer.TurnTcpBuffer.pass.Goals as goal

pub returns-in-Message-clause-counted : goal.returns-in-Message-clause-counted
returns-in-Message-clause-counted c =
    let inside : c.in-Message.len ≤ length c.args.self.now.stream.bytes = search rules in
    rw c.pass_front.ensures.after (cut_off-IsCounted c.args.self.now c.in-Message.len inside c.rest.ensures.kept)
