use Rattle.turn_client_tcp.proofs.FrameLemmas.{ok-and, whole-IsChannel}
use Rattle.turn_client_tcp.proofs.protocol.TurnClientTcpProtocol.channel_in.Goals as goal

pub unwrap-channel-requires : goal.unwrap-channel-requires
unwrap-channel-requires c = ok-and c.parse.result _ (c.parse.ensures.only _ _ _ (whole-IsChannel c.args.frame.now c.requires.whole c.requires.channel))
