-- The contents of packets that are built when they are sent.
use Rattle.std.specs.Prelude.{ℕ, List, []}
use Rattle.std.specs.declared.convert.AsSlice.{Ghosts}
use Rattle.turn_types.specs.Delayed.{delayed_channel_bytes, delayed_channel_head, delayed_channel_payload}
use Rattle.turn_types.specs.Delayed.{delayed_message_bytes, delayed_message_head, delayed_message_payload}
use Rattle.turn_client_api.specs.declared.send.DelayedTransmit.{DelayedTransmit}
use Rattle.turn_client_api.specs.declared.send.DelayedMessageOrChannelSend.{DelayedMessageOrChannelSend}
use Rattle.turn_client_api.specs.declared.send.DelayedMessageOrChannelSend.TheVariants.{Channel, Message, Data, OwnedData}
use Rattle.turn_client_api.specs.Range.{part_of}

-- the range that a `DelayedTransmit` sends
abbrev pub delayed_part : {T : Type 0} {g : Ghosts T ℕ} → DelayedTransmit T g → List ℕ
delayed_part d = part_of d.part

-- what is sent to the server for a peer
abbrev pub delayed_send_bytes : {T : Type 0} {g : Ghosts T ℕ} → DelayedMessageOrChannelSend T g → List ℕ
delayed_send_bytes (Channel channel) = delayed_channel_bytes channel
delayed_send_bytes (Message message) = delayed_message_bytes message
delayed_send_bytes {g = g} (Data payload) = g.items payload
delayed_send_bytes (OwnedData bytes) = bytes.items

-- ---- what a caller writes who sends the data from where it lies: the head, then the data, then the padding

-- what precedes the data
abbrev pub delayed_send_head : {T : Type 0} {g : Ghosts T ℕ} → DelayedMessageOrChannelSend T g → List ℕ
delayed_send_head (Channel channel) = delayed_channel_head channel
delayed_send_head (Message message) = delayed_message_head message
delayed_send_head (Data payload) = []
delayed_send_head (OwnedData bytes) = []

-- the data; bytes that are already built count as such
abbrev pub delayed_send_payload : {T : Type 0} {g : Ghosts T ℕ} → DelayedMessageOrChannelSend T g → List ℕ
delayed_send_payload (Channel channel) = delayed_channel_payload channel
delayed_send_payload (Message message) = delayed_message_payload message
delayed_send_payload {g = g} (Data payload) = g.items payload
delayed_send_payload (OwnedData bytes) = bytes.items
