-- What a stream begins with.
use Rattle.std.specs.Prelude.{◌≡◌, ℕ, true, false, ◌<◌, List, length, take, Some, None}
use Rattle.turn_types.specs.Frames.{IsMessageFrame, IsChannelFrame, begins_no_frame, frame_len}
use Rattle.turn_types.specs.declared.tcp.head.Head.{Head}
use Rattle.turn_types.specs.declared.tcp.head.Head.TheVariants.{Partial, NoFrame, Message, Channel}

-- What the bytes begin with. A frame that is not whole yet has fewer than 65,556 bytes, since its length
-- field has 16 bits.
abbrev pub IsHead : List ℕ → Head → Type 0
IsHead bytes Partial = (begins_no_frame bytes ≡ false) × (frame_len bytes ≡ None) × (length bytes < 65556)
IsHead bytes NoFrame = begins_no_frame bytes ≡ true
IsHead bytes (Message len) = (begins_no_frame bytes ≡ false) × (frame_len bytes ≡ Some len) × IsMessageFrame (take len bytes)
IsHead bytes (Channel len) = (begins_no_frame bytes ≡ false) × (frame_len bytes ≡ Some len) × IsChannelFrame (take len bytes)
