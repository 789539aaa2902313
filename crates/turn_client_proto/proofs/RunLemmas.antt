-- What holds for the calls of a run.
use Rattle.std.proofs.Common.{◌≡◌, ℕ, List, inl, refl}
use Rattle.std.proofs.Math.ListN.{get_or}
use Rattle.std.specs.Prelude.{All}
use Rattle.std.specs.declared.net.socket_addr.SocketAddr.{SocketAddr}
use Rattle.turn_stun.specs.declared.transport.TransportType.{TransportType}
use Rattle.turn_client_api.specs.Config.{Config}
use Rattle.turn_client_api.specs.State.{State, initial}
use Rattle.turn_client_api.specs.Steps.{state_after}
use Rattle.turn_client_api.specs.declared.call.Call.{Call}
use Rattle.turn_client_api.specs.declared.call.Call.TheVariants.{Poll}
use Rattle.turn_client_runs.specs.Sleeps.{IsPolledInTime, SleepsThroughNothing}
use Rattle.turn_client_runs.proofs.SleepLemmas.{run-sleeps}
use Rattle.turn_client_calls.specs.Run.{IsCallable}
use Rattle.turn_client_proto.proofs.CarrierLemmas.{leaves-SameCarriers}

-- no call changes the transport over which the allocations relay
pub relays_stay : (call : Call) (s : State) → (state_after call s).config.allocation_transport ≡ s.config.allocation_transport
relays_stay call s = (leaves-SameCarriers call s (state_after call s) (inl refl)).1

-- a call that can be made polls at a time in range
callable-polled : (relays : TransportType) (call : Call) → IsCallable relays call → IsPolledInTime call
callable-polled relays (Poll now) c = c
callable-polled relays _ c = tt

-- a caller of a new client that makes such calls misses no deadline
pub timely : (transport : TransportType) (local remote : SocketAddr) (config : Config) (seed : List ℕ) (calls : List Call) → All (IsCallable config.allocation_transport) calls
    → SleepsThroughNothing (initial transport local remote config seed) calls
timely transport local remote config seed calls all =
    run-sleeps transport local remote config seed calls (λ k d less. callable-polled config.allocation_transport (get_or calls k d) (all k d less))
