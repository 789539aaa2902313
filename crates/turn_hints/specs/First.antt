-- What bytes begin with (RFC 8489, section 5, and RFC 8656, sections 12.4 and 12.5).
use Rattle.std.specs.Prelude.{◌≡◌, ℕ, true, false, ◌+◌, List, length, take, drop, Some, None, ◌⊎◌}
use Rattle.turn_stun.specs.Message.{Attribute, IsMessage, type_of, id_of, attributes_of}
use Rattle.turn_stun.specs.declared.transport.TransportType.{TransportType}
use Rattle.turn_stun.specs.declared.transport.TransportType.TheVariants.{Udp, Tcp}
use Rattle.turn_types.specs.Channel.{IsChannel}
use Rattle.turn_types.specs.Frames.{begins_message, begins_no_frame, frame_len}
use Rattle.turn_hints.specs.declared.frame.FirstFrame.{FirstFrame}
use Rattle.turn_hints.specs.declared.frame.FirstFrame.TheVariants.{Message, ChannelData, Part, NoFrame}

-- they are a message, by its type, its transaction ID and its attributes
abbrev pub AreMessage : List ℕ → Type 0
AreMessage bytes = IsMessage bytes (type_of bytes) (id_of bytes) (attributes_of bytes)

abbrev pub AreNoMessage : List ℕ → Type 0
AreNoMessage bytes = (type id : ℕ) (attributes : List Attribute) → ¬ IsMessage bytes type id attributes

-- a ChannelData message of this channel and this payload begins them
abbrev pub BeginsChannel : List ℕ → ℕ → List ℕ → Type 0
BeginsChannel bytes id payload = IsChannel bytes id payload (drop (4 + length payload) bytes)

abbrev pub BeginsNoChannel : List ℕ → Type 0
BeginsNoChannel bytes = (id : ℕ) (payload rest : List ℕ) → ¬ IsChannel bytes id payload rest

-- a datagram is a message, or begins with ChannelData, or is neither
abbrev pub IsDatagram : List ℕ → FirstFrame → Type 0
IsDatagram bytes (Message message) = (message ≡ bytes) × AreMessage bytes
IsDatagram bytes (ChannelData channel len) = BeginsChannel bytes channel.id channel.payload × (len ≡ 4 + length channel.payload)
IsDatagram bytes Part = ⊥
IsDatagram bytes NoFrame = AreNoMessage bytes × BeginsNoChannel bytes

-- a whole frame that is no message although it begins as one
abbrev pub IsMalformed : List ℕ → ℕ → Type 0
IsMalformed bytes len = (frame_len bytes ≡ Some len) × (begins_message bytes ≡ true) × AreNoMessage (take len bytes)

-- the first frame of a stream, if the whole of it is there
abbrev pub IsFirstOfStream : List ℕ → FirstFrame → Type 0
IsFirstOfStream bytes (Message message) =
    (frame_len bytes ≡ Some (length message)) × (message ≡ take (length message) bytes) × AreMessage message
IsFirstOfStream bytes (ChannelData channel len) = (frame_len bytes ≡ Some len) × BeginsChannel bytes channel.id channel.payload
IsFirstOfStream bytes Part = (begins_no_frame bytes ≡ false) × (frame_len bytes ≡ None)
IsFirstOfStream bytes NoFrame = (begins_no_frame bytes ≡ true) ⊎ ((len : ℕ) × IsMalformed bytes len)

abbrev pub IsFirst : TransportType → List ℕ → FirstFrame → Type 0
IsFirst Udp bytes first = IsDatagram bytes first
IsFirst Tcp bytes first = IsFirstOfStream bytes first
