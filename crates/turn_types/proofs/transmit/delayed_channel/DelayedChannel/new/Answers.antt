use Rattle.turn_types.proofs.ChannelLemmas.{channel_frame-IsChannel}
use Rattle.turn_types.proofs.transmit.delayed_channel.DelayedChannel.new.Goals as goal

pub returns-clause-frame : goal.returns-clause-frame
returns-clause-frame g c = channel_frame-IsChannel c.args.id _ c.requires.least c.requires.most c.requires.short
