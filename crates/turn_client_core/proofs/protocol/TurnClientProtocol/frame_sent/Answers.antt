use Rattle.turn_client_laws.proofs.Common.{drop, length, ◌+◌}
use Rattle.turn_types.proofs.ChannelLemmas.{IsChannel-ReadsChannel, PassesTests-no_fault}
use Rattle.turn_client_core.proofs.protocol.TurnClientProtocol.frame_sent.Goals as goal

pub returns-in-Ok-clause-outcome : goal.returns-in-Ok-clause-outcome
returns-in-Ok-clause-outcome c =
    let bytes = c.args.bytes.now in
    let frame = c.in-Ok.frame in
    let front = IsChannel-ReadsChannel bytes frame.id frame.payload (drop (4 + length frame.payload) bytes) c.in-Ok.ensures.found in
    rw (PassesTests-no_fault bytes front.tests) c.channel_sent.ensures.outcome
