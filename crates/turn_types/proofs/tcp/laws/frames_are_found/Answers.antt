use Rattle.turn_types.proofs.SplitLemmas.{IsFrame-frame_len, IsFrame-alone, IsMessage-IsMessageFrame, channel_frame-IsChannelFrame}
use Rattle.turn_types.proofs.tcp.laws.frames_are_found.Goals as goal

pub returns-clause-found : goal.returns-clause-found
returns-clause-found c = IsFrame-frame_len

pub returns-clause-alone : goal.returns-clause-alone
returns-clause-alone c = IsFrame-alone

pub returns-clause-message : goal.returns-clause-message
returns-clause-message c = IsMessage-IsMessageFrame

pub returns-clause-channel : goal.returns-clause-channel
returns-clause-channel c = channel_frame-IsChannelFrame
