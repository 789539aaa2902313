-- A worked run from the first packet on: a handshake, a channel and its permission, and 700 s with a refresh of each grant.
use Rattle.std.specs.Prelude.{◌≡◌, ℕ, List, ◌∷◌, ◌++◌}
use Rattle.std.specs.declared.net.socket_addr.SocketAddr.{SocketAddr}
use Rattle.turn_client_api.specs.Config.{Config}
use Rattle.turn_client_api.specs.State.{State}
use Rattle.turn_client_api.specs.Steps.{state_after, state_after_all}
use Rattle.turn_client_api.specs.declared.call.Call.{Call}
use Rattle.turn_client_api.specs.declared.call.Call.TheVariants.{PollEvent, Recv}
use Rattle.turn_client_runs.specs.Handshake.{IsAllocating, RunsHandshake}
use Rattle.turn_client_runs.specs.HandshakeRows.{allocation_packet, handshake_calls, new_client}
use Rattle.turn_client_runs.specs.History.{no_history}
use Rattle.turn_client_runs.specs.Lasting.{IsSteady, RunsSteadily}
use Rattle.turn_client_runs.specs.LastingRows.{calls_of_700_s, refreshed_grants}

-- the success to the second request is received at 200 ms
abbrev pub allocation_call : State → Call
allocation_call last = Recv (allocation_packet last) 200_000_000

-- the client just after it, from a new one
abbrev pub just_allocated : State → State
just_allocated first = let last = state_after_all first (handshake_calls first) in state_after (allocation_call last) last

-- then the event is taken, a channel is bound at 1 s, and all is refreshed until 700 s
abbrev pub calls_after : State → List Call
calls_after allocated = PollEvent ∷ calls_of_700_s (state_after PollEvent allocated)

abbrev pub calls_from_first : State → List Call
calls_from_first first =
    handshake_calls first ++ (allocation_call (state_after_all first (handshake_calls first)) ∷ calls_after (just_allocated first))

-- The handshake keeps its premises, and ends in a state from which no grant is lost. From there on the run keeps the
-- premises under which that is so, until 700 s, and each of the three grants was refreshed by then.
pub record LastsFromFirst (first : State) : Type 0 where
  pub handshake : RunsHandshake 100_000_000 0 first (handshake_calls first)
  pub allocates : let last = state_after_all first (handshake_calls first) in IsAllocating (allocation_packet last) last
  pub begins : IsSteady 3 1 0 100_000_000 200_000_000 (just_allocated first)
  pub runs : RunsSteadily 3 1 0 100_000_000 200_000_000 (no_history (just_allocated first)) (just_allocated first) (calls_after (just_allocated first))
  pub refreshes : (state_after_all first (calls_from_first first)).grants ≡ refreshed_grants

-- whatever the client's addresses, credentials and IDs are
abbrev pub RelayStaysUpFromFirst : Type 0
RelayStaysUpFromFirst = (local remote : SocketAddr) (config : Config) (seed : List ℕ) → LastsFromFirst (new_client local remote config seed)
