-- `recv` and `poll_recv` do what the inputs do that they process (RFC 8656, section 12.5; RFC 6062, section
-- 4.3).
use Rattle.std.specs.Prelude.{◌≡◌, ◌⊎◌, ℕ, List, [], ◌∷◌, ◌++◌, Option, Some, None, ⊤}
use Rattle.std.specs.List.{Contains}
use Rattle.std.specs.declared.net.socket_addr.SocketAddr.{SocketAddr}
use Rattle.turn_client_api.specs.State.{State}
use Rattle.turn_client_api.specs.declared.state.Mode.TheVariants.{Control, Waiting, Bound, Broken}
use Rattle.turn_client_api.specs.declared.state.Stream.{Stream}
use Rattle.turn_client_api.specs.Effect.{closed}
use Rattle.turn_client_api.specs.Payloads.{Outcome, Handled, message_step}
use Rattle.turn_client_api.specs.Receive.{connection_gone}
use Rattle.turn_client_api.specs.Streams.{broken_at, frame_step, owned, with_bytes, without_stream}
use Rattle.turn_client_laws.specs.Handled.{Input, handled, processed}
use Rattle.turn_client_api.specs.Steps.{state_after}
use Rattle.turn_client_api.specs.declared.call.Call.{Call}
use Rattle.turn_client_api.specs.declared.call.Call.TheVariants.{Recv, PollRecv}

-- ---- messages are independent of the streams

-- with these streams in place of its own the message has the same effect, and leaves them
abbrev pub IgnoresStreams : List Stream → List ℕ → ℕ → State → Type 0
IgnoresStreams streams message now s =
    message_step message now (record s { streams = streams })
    ≡ ((message_step message now s).0, record (message_step message now s).1 { streams = streams })

-- with these bytes in the stream at this local address the frame has the same effect, and leaves them
abbrev pub IgnoresBytes : SocketAddr → List ℕ → Stream → List ℕ → ℕ → State → Type 0
IgnoresBytes local bytes stream frame now s =
    frame_step stream frame now (with_bytes local bytes s)
    ≡ ((frame_step stream frame now s).0, with_bytes local bytes (frame_step stream frame now s).1)

-- ---- one step of a stream

-- The stream had a first frame. It was processed in the state in which the stream holds nothing, and the
-- bytes after it were put back. The place of a payload does not count.
pub record IsFrameOf (stream : Stream) (now : ℕ) (s : State) (one : Input) (p : Outcome × State) : Type 0 where
  pub taken_of : one.stream ≡ Some stream
  pub at : one.time ≡ now
  pub alone : one.before ≡ with_bytes stream.local [] s
  pub rest : List ℕ
  pub cut : stream.bytes ≡ one.bytes ++ rest
  pub outcome : owned p.0 ≡ owned (processed one).0
  pub after : p.1 ≡ with_bytes stream.local rest (processed one).1

-- There was no first frame: no frame begins so, and the stream is broken, it waits for more, or it was
-- broken.
abbrev pub IsFrameless : Stream → State → Outcome × State → Type 0
IsFrameless stream s p =
    (p ≡ (Handled, broken_at stream.local s))
    ⊎ (p ≡ (Handled, with_bytes stream.local stream.bytes s))
    ⊎ ((stream.mode ≡ Broken) × (p ≡ (Handled, with_bytes stream.local [] s)))

-- the step of the stream took these frames, and did what they do
abbrev pub IsInputOf : Stream → ℕ → State → List Input → Outcome × State → Type 0
IsInputOf stream now s [] p = IsFrameless stream s p
IsInputOf stream now s (one ∷ []) p = IsFrameOf stream now s one p
IsInputOf stream now s (one ∷ other ∷ later) p = ⊥

-- ---- all inputs of a call

-- the stream at this local end is bound to this peer
abbrev pub IsBoundAt : SocketAddr → SocketAddr → State → Type 0
IsBoundAt local peer s = (x : Stream) × Contains s.streams x × (x.local ≡ local) × (x.mode ≡ Bound peer)

-- the second state differs in its streams alone, and none of them is bound that was not
pub record DiffersInStreams (s t : State) : Type 0 where
  pub others : t ≡ record s { streams = t.streams }
  pub bound : (local peer : SocketAddr) → IsBoundAt local peer t → IsBoundAt local peer s

-- these inputs, each in the state that the one before left apart from the streams, of which none becomes
-- bound, lead from the first state to the second, apart from these again
abbrev pub InputsLead : List Input → State → State → Type 0
InputsLead [] s t = DiffersInStreams s t
InputsLead (one ∷ later) s t = DiffersInStreams s one.before × InputsLead later (processed one).1 t

-- the call processes inputs
abbrev pub TakesInput : Call → Type 0
TakesInput (Recv packet now) = ⊤
TakesInput (PollRecv now) = ⊤
TakesInput _ = ⊥

-- an empty piece was passed in: the server closed the stream, and no input is processed
pub record IsStreamEnd (call : Call) (s t : State) : Type 0 where
  pub local : SocketAddr
  pub nothing : handled call s ≡ []
  pub gone : t ≡ without_stream local (connection_gone local s)

-- what the call does, if no memory allocation fails
abbrev pub ProcessesInputs : Call → State → Type 0
ProcessesInputs call s = InputsLead (handled call s) s (state_after call s) ⊎ IsStreamEnd call s (state_after call s)

-- a memory allocation for the next input failed: the call processed some of these inputs from the first on,
-- or none, and then ended the client
pub record EndsAmidInputs (call : Call) (s t : State) : Type 0 where
  pub front : List Input
  pub later : List Input
  pub all : handled call s ≡ front ++ later
  pub last : State
  pub lead : InputsLead front s last
  pub ended : t ≡ closed last

-- one of the inputs that the call processes did it
abbrev pub IsDoneBy : (Input → Type 0) → Call → State → Type 0
IsDoneBy Did call s = (one : Input) × Contains (handled call s) one × Did one

-- ---- where it was received

-- it is a datagram, or a frame of the control connection
abbrev pub IsOverControl : Input → Type 0
IsOverControl one = by one.stream
  where
    by : Option Stream → Type 0
    by None = ⊤
    by (Some stream) = stream.mode ≡ Control

-- it is a frame of the connection from this local address, which waits to be bound
abbrev pub IsOverWaiting : SocketAddr → Input → Type 0
IsOverWaiting local one = by one.stream
  where
    by : Option Stream → Type 0
    by None = ⊥
    by (Some stream) = (stream.mode ≡ Waiting) × (stream.local ≡ local)
