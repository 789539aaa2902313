-- The streams of a client, and the state of a client that has them.
use Rattle.std.specs.Prelude.{ℕ, List, [], ◌∷◌, map, if◌then◌else◌, Option, Some, None}
use Rattle.std.specs.Option.{option_map_or}
use Rattle.std.specs.List.{IsDistinct}
use Rattle.turn_agent.specs.Agent.{same_address}
use Rattle.turn_client_api.specs.State.{State}
use Rattle.turn_client_api.specs.Streams.{with_bytes}
use Rattle.turn_client_api.specs.declared.state.Stream.{Stream}
use Rattle.turn_client_streams.specs.Buffered.{is_control_mode, passed}

-- the streams, and for how many more there is room
pub record Held : Type 0 where
  pub list : List Stream
  pub room : ℕ

-- the client with these streams
abbrev pub with_streams : List Stream → State → State
with_streams streams s = record s { streams = streams }

-- a stream that is taken out holds nothing in the list
abbrev pub taken_out : Option Stream → State → State
taken_out None s = s
taken_out (Some stream) s = with_bytes stream.local [] s

-- the stream of the control connection, if it is the first one and not broken
abbrev pub control_stream : List Stream → Option Stream
control_stream [] = None
control_stream (stream ∷ later) = if is_control_mode stream.mode then Some stream else None

-- its first frame is dropped
abbrev pub control_passed : State → State
control_passed s = option_map_or (λ stream. with_bytes stream.local (passed stream).bytes s) (control_stream s.streams) s

-- no two streams have one local address: each connection is a TCP connection of its own (RFC 6062,
-- section 4.3)
abbrev pub HasOwnEnds : List Stream → Type 0
HasOwnEnds streams = IsDistinct same_address (map (λ stream. stream.local) streams)
