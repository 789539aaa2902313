-- What a frame does by its stream, it does by its connection.
use Rattle.std.proofs.Common.{◌≡◌, ℕ, List, refl}
use Rattle.turn_client_api.specs.Memory.{frame_takes_memory}
use Rattle.turn_client_api.specs.State.{State}
use Rattle.turn_client_api.specs.Streams.{frame_step, stream_with_piece}
use Rattle.turn_client_api.specs.declared.state.Stream.{Stream}
use Rattle.turn_client_tcp.specs.Origins.{IsCarriedBy, carried_step, carried_takes_memory}
use Rattle.turn_client_tcp.specs.declared.protocol.frame.FrameOrigin.{FrameOrigin}
use Rattle.turn_client_tcp.specs.declared.protocol.frame.FrameOrigin.TheVariants.{Control, Waiting}

pub carried-step : (origin : FrameOrigin) (stream : Stream) (frame : List ℕ) (now : ℕ) (t : State) → IsCarriedBy origin stream → frame_step stream frame now t ≡ carried_step origin frame now t
carried-step Control stream frame now t is = rw is refl
carried-step (Waiting local) stream frame now t is = rw (is.0, is.1) refl

pub carried-memory : (origin : FrameOrigin) (stream : Stream) (frame : List ℕ) (t : State) → IsCarriedBy origin stream → frame_takes_memory stream frame t ≡ carried_takes_memory origin frame t
carried-memory Control stream frame t is = rw is refl
carried-memory (Waiting local) stream frame t is = rw (is.0, is.1) refl

-- whatever bytes the stream holds
pub carried-piece : (origin : FrameOrigin) (stream : Stream) (piece : List ℕ) → IsCarriedBy origin stream → IsCarriedBy origin (stream_with_piece stream piece)
carried-piece Control stream piece is = is
carried-piece (Waiting local) stream piece is = is
