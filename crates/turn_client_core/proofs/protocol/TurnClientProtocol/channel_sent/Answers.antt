use Rattle.turn_client_laws.proofs.Common.{sym}
use Rattle.turn_client_core.specs.contracts.protocol.TurnClientProtocol.{the_view}
use Rattle.turn_client_core.proofs.incoming.DataLemmas.{channel-is, no_channel-is}
use Rattle.turn_client_core.proofs.protocol.TurnClientProtocol.channel_sent.Goals as goal

pub returns-in-Some-clause-outcome : goal.returns-in-Some-clause-outcome
returns-in-Some-clause-outcome c =
    let s = the_view c.self.inside in
    let peer = rw (c.in-Some.is, c.table.ensures.grants) at (c.channel_peer.ensures s) in
    rw (← c.self.view_is, c.transport.ensures, c.data.ensures.payload)
    (channel-is s c.args.bytes.now c.args.frame.now c.requires.frame c.in-Some.peer.now (rw (← c.id.ensures.id) (sym peer)))

pub returns-in-None-clause-outcome : goal.returns-in-None-clause-outcome
returns-in-None-clause-outcome c =
    let s = the_view c.self.inside in
    let none = rw (c.in-None.is, c.table.ensures.grants) at (c.channel_peer.ensures s) in
    rw (← c.self.view_is) (no_channel-is s c.args.bytes.now c.args.frame.now c.requires.frame (rw (← c.id.ensures.id) (sym none)))
