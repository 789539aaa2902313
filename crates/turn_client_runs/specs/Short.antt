-- What the streams of a client hold that was polled to the end (RFC 8656, section 12.5).
use Rattle.std.specs.Prelude.{◌≡◌, ◌<◌, ℕ, List, ◌∷◌, ◌++◌, None, All, length}
use Rattle.std.specs.List.{Contains}
use Rattle.turn_client_api.specs.State.{State}
use Rattle.turn_client_api.specs.Streams.{poll_recv_step}
use Rattle.turn_client_api.specs.declared.call.Call.{Call}
use Rattle.turn_client_api.specs.declared.call.Call.TheVariants.{PollRecv}
use Rattle.turn_client_api.specs.declared.state.Stream.{Stream}
use Rattle.turn_client_runs.specs.Received.{pieces_for}
use Rattle.turn_client_api.specs.Steps.{state_after_all}

-- each stream holds less than the longest frame, a message of 65,555 bytes, if all that was received for it
-- by these calls are bytes
abbrev pub AreShort : State → List Call → State → Type 0
AreShort first calls s =
    (stream : Stream) → Contains s.streams stream → All (λ b. b < 256) (pieces_for stream.local calls first) → length stream.bytes < 65555

-- this holds after each `poll_recv` of these calls that returns nothing
abbrev pub StreamsAreShort : State → List Call → Type 0
StreamsAreShort first calls =
    (earlier : List Call) (now : ℕ) (later : List Call) → calls ≡ earlier ++ PollRecv now ∷ later
    → (poll_recv_step now (state_after_all first earlier)).0 ≡ None → AreShort first earlier (poll_recv_step now (state_after_all first earlier)).1
