-- One stream, and what changes it.
use Rattle.std.specs.Prelude.{ℕ, Bool, true, false, List, [], take, drop, if◌then◌else◌, Option, option_map}
use Rattle.std.specs.Option.{option_map_or}
use Rattle.turn_types.specs.Frames.{begins_no_frame, frame_len}
use Rattle.turn_client_api.specs.declared.state.Mode.{Mode}
use Rattle.turn_client_api.specs.declared.state.Mode.TheVariants.{Broken, Control}
use Rattle.turn_client_api.specs.declared.state.Stream.{Stream}

-- the stream with these bytes
abbrev pub with_content : List ℕ → Stream → Stream
with_content bytes stream = record stream { bytes = bytes }

-- its bytes have this mode
abbrev pub meant : Mode → Stream → Stream
meant mode stream = record stream { mode = mode }

-- its bytes are frames of the control connection
abbrev pub is_control_mode : Mode → Bool
is_control_mode Control = true
is_control_mode _ = false

-- nothing more is read from it
abbrev pub is_broken_mode : Mode → Bool
is_broken_mode Broken = true
is_broken_mode _ = false

-- nothing more is read from it, and the buffered bytes are dropped
abbrev pub broken : Stream → Stream
broken stream = record stream { mode = Broken; bytes = [] }

-- the first frame, if the whole of it is present (RFC 8656, section 12.5)
abbrev pub front_frame : Stream → Option (List ℕ)
front_frame stream = option_map (λ len. take len stream.bytes) (frame_len stream.bytes)

-- that frame is dropped
abbrev pub passed : Stream → Stream
passed stream = option_map_or (λ len. with_content (drop len stream.bytes) stream) (frame_len stream.bytes) stream

-- that frame is dropped, and bytes that no frame begins with break the stream
abbrev pub without_front : Stream → Stream
without_front stream = if begins_no_frame stream.bytes then broken stream else passed stream
