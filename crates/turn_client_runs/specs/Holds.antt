-- What holds after every run of a new client.
use Rattle.std.specs.Prelude.{◌≡◌, List, [], ◌∷◌, ℕ}
use Rattle.std.specs.declared.net.socket_addr.SocketAddr.{SocketAddr}
use Rattle.turn_stun.specs.declared.transport.TransportType.{TransportType}
use Rattle.turn_client_api.specs.Config.{Config}
use Rattle.turn_client_api.specs.State.{State, initial}
use Rattle.turn_client_api.specs.Steps.{Leaves, state_after_all}
use Rattle.turn_client_api.specs.declared.call.Call.{Call}

-- the client may be in the second state after these calls, even if some memory allocations failed
abbrev pub Reaches : State → List Call → State → Type 0
Reaches s [] t = t ≡ s
Reaches s (call ∷ calls) t = (u : State) × Leaves call s u × Reaches u calls t

-- after any calls without an allocation failure
abbrev pub HoldsInRuns : (State → Type 0) → Type 0
HoldsInRuns P =
    (transport : TransportType) (local remote : SocketAddr) (config : Config) (seed : List ℕ) (calls : List Call)
    → P (state_after_all (initial transport local remote config seed) calls)

-- after any calls, even if some memory allocations failed
abbrev pub HoldsInAnyRun : (State → Type 0) → Type 0
HoldsInAnyRun P =
    (transport : TransportType) (local remote : SocketAddr) (config : Config) (seed : List ℕ) (calls : List Call) (t : State)
    → Reaches (initial transport local remote config seed) calls t → P t

-- whatever calls a new client gets, without an allocation failure
abbrev pub HoldsOfRuns : (State → List Call → Type 0) → Type 0
HoldsOfRuns Q =
    (transport : TransportType) (local remote : SocketAddr) (config : Config) (seed : List ℕ) (calls : List Call)
    → Q (initial transport local remote config seed) calls
