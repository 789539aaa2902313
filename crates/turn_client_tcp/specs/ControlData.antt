-- ChannelData messages at the front of the control stream, which are processed where they are buffered.
use Rattle.std.specs.Prelude.{◌≡◌, ℕ, List, if◌then◌else◌, Option, Some, None}
use Rattle.std.specs.Option.{option_map, option_map_or}
use Rattle.std.specs.declared.net.socket_addr.SocketAddr.{SocketAddr}
use Rattle.turn_types.specs.Frames.{begins_message, frame_len}
use Rattle.turn_client_api.specs.Effect.{closed}
use Rattle.turn_client_api.specs.Payloads.{Payload, channel_sent}
use Rattle.turn_client_api.specs.State.{State}
use Rattle.turn_client_api.specs.Streams.{broken_at}
use Rattle.turn_client_api.specs.declared.state.Stream.{Stream}
use Rattle.turn_client_streams.specs.Buffered.{front_frame}
use Rattle.turn_client_streams.specs.Held.{control_passed, control_stream}
use Rattle.turn_client_tcp.specs.StreamSteps.{owned_payload}

-- the data in this frame, if it is a ChannelData message of an active channel
abbrev pub channel_data : State → List ℕ → Option Payload
channel_data s frame = if begins_message frame then None else owned_payload (channel_sent s frame)

-- the same for the first frame of the stream, if it is whole
abbrev pub stream_data : State → Stream → Option Payload
stream_data s stream = option_map_or (channel_data s) (front_frame stream) None

-- the same for the control stream
abbrev pub control_data : State → Option Payload
control_data s = option_map_or (stream_data s) (control_stream s.streams) None

-- once that data was returned, its frame is dropped
abbrev pub data_passed : State → State
data_passed s = option_map_or (λ payload. control_passed s) (control_data s) s

-- the control stream is broken, and the client has ended
abbrev pub control_ended : State → State
control_ended s = option_map_or (λ stream. closed (broken_at stream.local s)) (control_stream s.streams) s

-- these bytes of the peer, owned
abbrev pub data_from : State → SocketAddr → List ℕ → Payload
data_from s peer bytes = record { transport = s.config.allocation_transport; peer = peer; bytes = bytes; place = None }

-- the first frame of the control stream is whole, and has so many bytes
abbrev pub IsControlFront : ℕ → State → Type 0
IsControlFront len s = option_map (λ stream. frame_len stream.bytes) (control_stream s.streams) ≡ Some (Some len)
