-- What a stream begins with.
use Rattle.std.specs.Prelude.{◌≡◌, ◌<◌, ℕ, Bool, true, false, List, length, Some, None}
use Rattle.turn_types.specs.Frames.{begins_message, begins_no_frame, frame_len}
use Rattle.turn_client_api.specs.declared.state.Stream.{Stream}
use Rattle.turn_client_streams.specs.Buffered.{front_frame}
use Rattle.turn_client_streams.specs.declared.front.FrameKind.{FrameKind}
use Rattle.turn_client_streams.specs.declared.front.FrameKind.TheVariants.{Message, Channel}
use Rattle.turn_client_streams.specs.declared.front.Front.{Front}
use Rattle.turn_client_streams.specs.declared.front.Front.TheVariants.{Frame, Partial, Stuck}

-- a STUN message, as the first two bits say
abbrev pub is_message_kind : FrameKind → Bool
is_message_kind Message = true
is_message_kind Channel = false

-- its first two bits are those of this kind
abbrev pub IsOfKind : FrameKind → List ℕ → Type 0
IsOfKind kind frame = begins_message frame ≡ is_message_kind kind

-- What the stream begins with. A frame that is not whole yet has fewer than 65,556 bytes, since its length
-- field has 16 bits.
abbrev pub HasFront : Stream → Front → Type 0
HasFront stream (Frame kind frame) = (Some frame.now ≡ front_frame stream) × (frame_len stream.bytes ≡ Some (length frame.now)) × IsOfKind kind frame.now
HasFront stream Partial = (None ≡ front_frame stream) × (begins_no_frame stream.bytes ≡ false) × (length stream.bytes < 65556)
HasFront stream Stuck = begins_no_frame stream.bytes ≡ true
