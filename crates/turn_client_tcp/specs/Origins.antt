-- What a whole frame does by the connection that it came over.
use Rattle.std.specs.Prelude.{◌≡◌, ℕ, List, Bool}
use Rattle.turn_client_api.specs.Memory.{packet_takes_memory, waiting_takes_memory}
use Rattle.turn_client_api.specs.Payloads.{Outcome}
use Rattle.turn_client_api.specs.State.{State}
use Rattle.turn_client_api.specs.Streams.{control_frame_step, waiting_frame_step}
use Rattle.turn_client_api.specs.declared.state.Mode.TheVariants as M
use Rattle.turn_client_api.specs.declared.state.Stream.{Stream}
use Rattle.turn_client_tcp.specs.declared.protocol.frame.FrameOrigin.{FrameOrigin}
use Rattle.turn_client_tcp.specs.declared.protocol.frame.FrameOrigin.TheVariants.{Control, Waiting}

-- the stream is that of this connection
abbrev pub IsCarriedBy : FrameOrigin → Stream → Type 0
IsCarriedBy Control stream = stream.mode ≡ M.Control
IsCarriedBy (Waiting local) stream = (stream.mode ≡ M.Waiting) × (stream.local ≡ local)

-- the effect of the frame
abbrev pub carried_step : FrameOrigin → List ℕ → ℕ → State → Outcome × State
carried_step Control frame now s = control_frame_step frame now s
carried_step (Waiting local) frame now s = waiting_frame_step local frame now s

-- whether it allocates memory
abbrev pub carried_takes_memory : FrameOrigin → List ℕ → State → Bool
carried_takes_memory Control frame s = packet_takes_memory frame s
carried_takes_memory (Waiting local) frame s = waiting_takes_memory local frame s
