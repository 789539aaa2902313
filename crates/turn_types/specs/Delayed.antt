-- The contents of packets that are built late.
use Rattle.std.specs.Prelude.{ℕ, List, length}
use Rattle.std.specs.declared.convert.AsSlice.{Ghosts}
use Rattle.turn_types.specs.declared.transmit.delayed_channel.DelayedChannel.{DelayedChannel}
use Rattle.turn_types.specs.declared.transmit.delayed_message.DelayedMessage.{DelayedMessage}
use Rattle.turn_types.specs.Channel.{channel_frame, channel_head}
use Rattle.turn_types.specs.Send.{send_head, send_indication}

-- the ChannelData message that a `DelayedChannel` makes
abbrev pub delayed_channel_bytes : {T : Type 0} {g : Ghosts T ℕ} → DelayedChannel T g → List ℕ
delayed_channel_bytes {g = g} frame = channel_frame frame.id (g.items frame.payload)

-- the Send indication that a `DelayedMessage` makes
abbrev pub delayed_message_bytes : {T : Type 0} {g : Ghosts T ℕ} → DelayedMessage T g → List ℕ
delayed_message_bytes {g = g} message = send_indication message.peer (g.items message.payload) message.id

-- ---- what a caller writes who sends the payload from where it lies: the head, then the payload, then the padding

abbrev pub delayed_channel_payload : {T : Type 0} {g : Ghosts T ℕ} → DelayedChannel T g → List ℕ
delayed_channel_payload {g = g} frame = g.items frame.payload

abbrev pub delayed_channel_head : {T : Type 0} {g : Ghosts T ℕ} → DelayedChannel T g → List ℕ
delayed_channel_head frame = channel_head frame.id (length (delayed_channel_payload frame))

abbrev pub delayed_message_payload : {T : Type 0} {g : Ghosts T ℕ} → DelayedMessage T g → List ℕ
delayed_message_payload {g = g} message = g.items message.payload

abbrev pub delayed_message_head : {T : Type 0} {g : Ghosts T ℕ} → DelayedMessage T g → List ℕ
delayed_message_head message = send_head message.peer (length (delayed_message_payload message)) message.id
