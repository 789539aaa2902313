-- The inputs out of a stream are all that arrives for it, in order (RFC 8489, section 6.2.2; RFC 8656, section
-- 12.5; RFC 6062, section 4.3).
use Rattle.std.specs.Prelude.{◌≡◌, ◌≢◌, ◌⊎◌, if◌then◌else◌, Bool, true, false, ℕ, List, [], ◌∷◌, ◌++◌, Some, ⊤, Ok}
use Rattle.std.specs.Option.{option_map_or}
use Rattle.std.specs.declared.net.socket_addr.SocketAddr.{SocketAddr}
use Rattle.turn_types.specs.Frames.{begins_no_frame}
use Rattle.turn_agent.specs.Agent.{same_address}
use Rattle.turn_client_api.specs.State.{State}
use Rattle.turn_client_api.specs.declared.call.Call.{Call}
use Rattle.turn_client_api.specs.declared.call.Call.TheVariants.{AllocatedTcpSocket}
use Rattle.turn_client_api.specs.declared.state.Mode.TheVariants.{Broken}
use Rattle.turn_client_api.specs.declared.state.Stream.{Stream}
use Rattle.turn_client_api.specs.Calls.{allocated_tcp_socket_step}
use Rattle.turn_client_api.specs.Steps.{state_after, state_after_all}
use Rattle.turn_client_api.specs.Streams.{stream_at}
use Rattle.turn_client_laws.specs.Handled.{Input}
use Rattle.turn_client_runs.specs.Inputs.{handled_in}
use Rattle.turn_client_runs.specs.Promises.{InEachPart}
use Rattle.turn_client_runs.specs.Received.{pieces_for}

-- the input is out of the stream at this local address
abbrev pub is_out_of : SocketAddr → Input → Bool
is_out_of local one = option_map_or (λ stream. same_address stream.local local) one.stream false

-- the bytes of those of these inputs that are out of this stream, joined
abbrev pub bytes_out_of : SocketAddr → List Input → List ℕ
bytes_out_of local [] = []
bytes_out_of local (one ∷ later) = (if is_out_of local one then one.bytes else []) ++ bytes_out_of local later

-- what the stream at this local address holds, if there is one
abbrev pub held_at : SocketAddr → State → List ℕ
held_at local s = option_map_or (λ stream. stream.bytes) (stream_at local s) []

-- the caller opens a data connection from this local address
abbrev pub Opens : SocketAddr → Call → State → Type 0
Opens local (AllocatedTcpSocket id tuple peer (Some at) now) s =
    (at ≡ local) × ((allocated_tcp_socket_step id tuple peer (Some at) now s).0 ≡ Ok tt)
Opens local call s = ⊥

-- none of these calls opens one
abbrev pub OpensNone : SocketAddr → State → List Call → Type 0
OpensNone local s [] = ⊤
OpensNone local s (call ∷ calls) = (Opens local call s → ⊥) × OpensNone local (state_after call s) calls

-- the stream at this local address is broken
abbrev pub IsBrokenAt : SocketAddr → State → Type 0
IsBrokenAt local s = (x : Stream) × (stream_at local s ≡ Some x) × (x.mode ≡ Broken)

-- What the stream held before these calls, and then what arrived for it in them, is what the inputs out of it
-- took, in order, and then the rest. The stream holds the rest, unless it is broken, and dropped it: then it was broken
-- before these calls, or no frame begins as the rest does.
pub record TakesAll (local : SocketAddr) (s : State) (calls : List Call) (stream : Stream) : Type 0 where
  pub rest : List ℕ
  pub all : held_at local s ++ pieces_for local calls s ≡ bytes_out_of local (handled_in s calls) ++ rest
  pub held : stream.mode ≢ Broken → rest ≡ stream.bytes
  pub broken : stream.mode ≡ Broken → IsBrokenAt local s ⊎ (begins_no_frame rest ≡ true)

-- this holds of each stream and of any calls of the run that follow each other, if none of them opens it
abbrev pub InputsFollow : State → List Call → Type 0
InputsFollow = InEachPart (λ s middle.
    (local : SocketAddr) (stream : Stream) → OpensNone local s middle → stream_at local (state_after_all s middle) ≡ Some stream
    → TakesAll local s middle stream)
