-- When a step of a stream needs memory: for what a message requires of the client, or for a copy of data.
use Rattle.std.specs.Prelude.{◌≡◌, ◌⊎◌, ◌<◌, ℕ, List, [], find, length, Option, IsSomeAnd, true, false}
use Rattle.turn_types.specs.Frames.{begins_no_frame}
use Rattle.turn_client_api.specs.Answers.{LeadsTo}
use Rattle.turn_client_api.specs.Effect.{closed}
use Rattle.turn_client_api.specs.Memory.{frame_takes_memory}
use Rattle.turn_client_api.specs.Payloads.{Payload}
use Rattle.turn_client_api.specs.State.{State}
use Rattle.turn_client_api.specs.Streams.{broken_at, frame_step, is_ready, with_bytes}
use Rattle.turn_client_api.specs.declared.state.Mode.{Mode}
use Rattle.turn_client_api.specs.declared.state.Mode.TheVariants.{Control, Waiting, Bound, Broken}
use Rattle.turn_client_api.specs.declared.state.Stream.{Stream}
use Rattle.turn_client_streams.specs.Buffered.{front_frame}
use Rattle.turn_client_tcp.specs.StreamSteps.{owned_payload}

-- ---- a step of a stream

-- there are data to copy, which are not empty
abbrev pub HasBytes : Option Payload → Type 0
HasBytes given = IsSomeAnd given (λ payload. 0 < length payload.bytes)

-- a whole frame requires something of the client, or its data is copied
abbrev pub FrameWantsMemory : Stream → List ℕ → ℕ → State → Type 0
FrameWantsMemory stream frame now s = (frame_takes_memory stream frame s ≡ true) ⊎ HasBytes (owned_payload (frame_step stream frame now s).0)

-- its first frame does: to break it for bytes that begin no frame, or to wait for the rest of one, allocates none
abbrev pub FrontWantsMemory : Stream → ℕ → State → Type 0
FrontWantsMemory stream now s = (begins_no_frame stream.bytes ≡ false) × IsSomeAnd (front_frame stream) (λ frame. FrameWantsMemory stream frame now s)

-- a stream that is taken out: the bytes of a bound one are moved
abbrev pub StepWantsMemory : Stream → ℕ → State → Type 0
StepWantsMemory stream now s = by stream.mode
  where
    by : Mode → Type 0
    by Control = FrontWantsMemory stream now s
    by Waiting = FrontWantsMemory stream now s
    by (Bound peer) = ⊥
    by Broken = ⊥

-- as `EndsAfterSteps`, and the step for which a memory allocation failed needs it
abbrev pub EndsInNeed : ℕ → State → State → Type 0
EndsInNeed now before s =
    (t : State) × LeadsTo now before t × IsSomeAnd (find is_ready t.streams) (λ stream.
    StepWantsMemory stream now (with_bytes stream.local [] t) × (s ≡ closed (broken_at stream.local t)))
