-- What a run bound.
use Rattle.std.specs.Prelude.{◌≡◌, ◌⊎◌, List, ◌∷◌, ◌++◌}
use Rattle.std.specs.declared.net.socket_addr.SocketAddr.{SocketAddr}
use Rattle.turn_client_api.specs.State.{State}
use Rattle.turn_client_laws.specs.Handled.{Input, handled, processed}
use Rattle.turn_client_laws.specs.LawsBound.{IsBindInput, IsBoundConnection}
use Rattle.turn_client_laws.specs.LawsHandled.{IsBoundAt}
use Rattle.turn_client_laws.specs.LawsReplies.{IsNotAwaited}
use Rattle.turn_client_api.specs.declared.call.Call.{Call}
use Rattle.turn_client_api.specs.declared.grant.DataConnection.{DataConnection}
use Rattle.turn_client_api.specs.Steps.{state_after, state_after_all}
use Rattle.turn_client_runs.specs.Granted.{HoldsThrough}
use Rattle.turn_client_runs.specs.Inputs.{IsAmong, handled_in}

-- its request is no longer outstanding
abbrev pub HasTransactionEnded : Input → Type 0
HasTransactionEnded one = IsNotAwaited one.bytes (processed one).1

-- the input bound it, by the success to a request that was made for this peer
abbrev pub BindsToPeer : SocketAddr → SocketAddr → Input → Type 0
BindsToPeer local peer one = (bind : IsBindInput local peer one) × (bind.asked ≡ peer) × HasTransactionEnded one

-- One of these inputs bound the stream at this local address to this peer: by a signed success to the
-- outstanding CONNECTION_BIND that was made for it, for the peer for which the caller opened the connection.
-- It is no longer outstanding after the input (RFC 6062, section 4.3).
abbrev pub HasSuccess : SocketAddr → SocketAddr → List Input → Type 0
HasSuccess local peer inputs = IsAmong (BindsToPeer local peer) inputs

-- so did one of these inputs for the data connection, to its peer
abbrev pub HasConnectionSuccess : DataConnection → List Input → Type 0
HasConnectionSuccess c inputs = HasSuccess c.local c.peer inputs

-- one of these calls bound the stream at this local address to this peer by such an input, and it is bound
-- since
pub record IsBoundSince (local peer : SocketAddr) (calls : List Call) (first : State) : Type 0 where
  pub earlier : List Call
  pub call : Call
  pub later : List Call
  pub split : calls ≡ earlier ++ call ∷ later
  pub success : HasSuccess local peer (handled call (state_after_all first earlier))
  pub since : HoldsThrough (IsBoundAt local peer) later (state_after call (state_after_all first earlier))

-- each stream that is bound after the calls was bound by one of them, and is bound since
abbrev pub BoundStreamsHaveSuccess : State → List Call → Type 0
BoundStreamsHaveSuccess s calls =
    (local peer : SocketAddr) → IsBoundAt local peer (state_after_all s calls) → IsBoundSince local peer calls s

-- each stream that is bound when an input is processed is so since an earlier call, or an earlier input of
-- the same call bound it
abbrev pub StreamsAreBoundBefore : State → List Call → Type 0
StreamsAreBoundBefore s calls =
    (earlier : List Call) (call : Call) (later : List Call) (front back : List Input) (one : Input) (local peer : SocketAddr)
    → calls ≡ earlier ++ call ∷ later → handled call (state_after_all s earlier) ≡ front ++ one ∷ back → IsBoundAt local peer one.before
    → IsBoundSince local peer earlier s ⊎ HasSuccess local peer front

-- each data connection that is bound after the calls has its success among the inputs that they processed
abbrev pub BoundConnectionsHaveSuccess : State → List Call → Type 0
BoundConnectionsHaveSuccess s calls =
    (c : DataConnection) → IsBoundConnection c (state_after_all s calls) → HasConnectionSuccess c (handled_in s calls)
