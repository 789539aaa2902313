-- A worked run: a caller that is late by 5 ms.
use Rattle.std.specs.Prelude.{◌≡◌, ℕ, List, [], ◌∷◌, IsSome, false, true}
use Rattle.turn_client_api.specs.Effect.{granted_until}
use Rattle.turn_client_api.specs.State.{State, seconds}
use Rattle.turn_client_api.specs.Steps.{state_after, state_after_all}
use Rattle.turn_client_api.specs.Transmit.{next_transmit}
use Rattle.turn_client_api.specs.declared.call.Call.{Call}
use Rattle.turn_client_api.specs.declared.call.Call.TheVariants.{PollTransmit}
use Rattle.turn_client_api.specs.declared.grant.Grant.{Grant}
use Rattle.turn_client_api.specs.declared.grant.Grant.TheVariants.{Allocation, Channel, Permission}
use Rattle.turn_client_laws.specs.LawsRows.{granted_at, ip_of_peer, peer, relayed_v4}
use Rattle.turn_client_runs.specs.History.{no_history}
use Rattle.turn_client_runs.specs.LastingRows.{granted_call}
use Rattle.turn_client_runs.specs.Late.{IsSteadyBehind, RunsBehind}

-- an allocation, a permission that expires then, and a channel
abbrev pub grants_with : ℕ → List Grant
grants_with permission =
    Allocation (record { relayed = relayed_v4; first_lifetime = seconds 600; expiry = 600_200_000_000; is_expired = false })
    ∷ Permission ip_of_peer (granted_until permission true)
    ∷ Channel 0x4000 peer (granted_until 601_100_000_000 true)
    ∷ []

-- a client over UDP that has these, its last packet sent at 1 s
abbrev pub with_channel : State → State
with_channel s = granted_at 1_000_000_000 (grants_with 301_100_000_000) (record s { challenges = 0 })

-- The refresh of the permission is due at 241.1 s. The caller sends it 5 ms later, and the server grants it 100 ms after that.
abbrev pub late_calls : State → List Call
late_calls s = PollTransmit 241_105_000_000 ∷ granted_call 241_205_000_000 (state_after (PollTransmit 241_105_000_000) s) ∷ []

-- It begins and runs as no grant is lost, with at most three grants, a queued packet, a delay of 100 ms and a caller that is late
-- by 5 ms. The packet was due before the caller took it. The permission is refreshed.
pub record LastsThoughLate (s : State) : Type 0 where
  pub begins : IsSteadyBehind 3 1 0 5_000_000 100_000_000 1_100_000_000 s
  pub runs : RunsBehind 3 1 0 5_000_000 100_000_000 1_100_000_000 1_100_000_000 (no_history s) s (late_calls s)
  pub was_due : IsSome (next_transmit 241_100_000_000 s)
  pub refreshes : (state_after_all s (late_calls s)).grants ≡ grants_with 541_205_000_000

-- whatever the client's addresses, credentials and IDs are
abbrev pub LateRelayStaysUp : Type 0
LateRelayStaysUp = (s : State) → IsSome s.held → LastsThoughLate (with_channel s)
