-- Thousands of peers, with a request every 5 ms.
use Rattle.std.specs.Prelude.{◌≡◌, ℕ, ◌+◌, ◌≤◌, List, [], ◌∷◌, length, true, All, ⊤}
use Rattle.std.specs.List.{Contains, IsDistinct}
use Rattle.std.specs.Net.Socket.{socket_ip}
use Rattle.std.specs.declared.net.socket_addr.SocketAddr.{SocketAddr}
use Rattle.turn_types.specs.declared.family.AddressFamily.TheVariants.{IPV4}
use Rattle.turn_client_api.specs.Effect.{granted_until, new_allocation}
use Rattle.turn_client_api.specs.Grants.{family_of, same_ip}
use Rattle.turn_client_api.specs.State.{State, seconds}
use Rattle.turn_client_api.specs.Steps.{state_after_all}
use Rattle.turn_client_api.specs.declared.call.Call.{Call}
use Rattle.turn_client_api.specs.declared.grant.Grant.{Grant}
use Rattle.turn_client_api.specs.declared.grant.Grant.TheVariants.{Allocation, Channel, Permission}
use Rattle.turn_client_laws.specs.LawsRows.{granted_at, pausing, refreshing_ahead, relayed_v4}
use Rattle.turn_client_runs.specs.History.{IsKeptBy, no_history}
use Rattle.turn_client_runs.specs.Lasting.{HasRoom, HasStill, IsSteady, RunsSteadily, ahead_of}
use Rattle.turn_client_runs.specs.InPieces.{RunsAnswered}
use Rattle.turn_client_runs.specs.Late.{HasRoomBehind, IsSteadyBehind}
use Rattle.turn_client_runs.specs.OnTime.{time_of_all}

-- ---- the client

-- a channel for each of these peers, and the permission that it brings, granted at time 0; numbers follow each other
abbrev pub grants_for : ℕ → List SocketAddr → List Grant
grants_for number [] = []
grants_for number (peer ∷ others) =
    Channel number peer (granted_until (seconds 600) true) ∷ Permission (socket_ip peer) (granted_until (seconds 300) true)
    ∷ grants_for (number + 1) others

-- a client over UDP with these, an allocation of 600 s from time 0 on, 5 ms between two requests, and the default time ahead
abbrev pub with_peers : List SocketAddr → State → State
with_peers peers s = pausing 5_000_000 (granted_at 0 (new_allocation 600 0 relayed_v4 ∷ grants_for 0x4000 peers) s)

-- no two have one IP address
abbrev pub HaveOwnIps : List SocketAddr → Type 0
HaveOwnIps peers = IsDistinct (λ one other. same_ip (socket_ip one) (socket_ip other)) peers

-- ---- what holds

-- an allocation had a first lifetime of two minutes or more
abbrev pub IsLong : Grant → Type 0
IsLong (Allocation a) = seconds 120 ≤ a.first_lifetime
IsLong _ = ⊤

-- Whoever sends a request every 5 ms and refreshes a minute ahead or more has room for 8,193 grants, a hundred requests that
-- are queued before them, 1,000 extra packets, and a delay of 5 s: all of them may be due at one time.
abbrev pub HasRoomAt5Ms : Type 0
HasRoomAt5Ms =
    (ahead : ℕ) (g : Grant) → seconds 60 ≤ ahead → IsLong g → HasRoom 8193 100 1000 5_000_000 5_000_000_000 (ahead_of ahead g)

-- so does a caller that is late by 900 µs
abbrev pub HasRoomLateAt5Ms : Type 0
HasRoomLateAt5Ms =
    (ahead : ℕ) (g : Grant) → seconds 60 ≤ ahead → IsLong g → HasRoomBehind 8193 100 1000 900_000 5_000_000 5_000_000_000 (ahead_of ahead g)

-- The client has that many grants, and begins as no grant is lost. So each that is not let go is in force after any run that keeps the premises.
pub record LastsWithPeers (s : State) : Type 0 where
  pub count : length s.grants ≡ 8193
  pub begins : IsSteady 8193 100 1000 5_000_000_000 0 s
  pub lasts : (calls : List Call) → RunsSteadily 8193 100 1000 5_000_000_000 0 (no_history s) s calls
      → (g : Grant) → Contains s.grants g → IsKeptBy calls 0 s g → HasStill g (time_of_all 0 calls) (state_after_all s calls)
  pub begins_late : IsSteadyBehind 8193 100 1000 900_000 5_000_000_000 0 s
  pub lasts_late : (calls : List Call) → RunsAnswered 8193 100 1000 900_000 5_000_000_000 0 s calls
      → (g : Grant) → Contains s.grants g → IsKeptBy calls 0 s g → HasStill g (time_of_all 0 calls) (state_after_all s calls)

-- whatever its 4,096 peers over IPv4 are, and its addresses, credentials and IDs
abbrev pub PeersLast : Type 0
PeersLast =
    (peers : List SocketAddr) (s : State) → length peers ≡ 4096 → All (λ peer. family_of peer ≡ IPV4) peers → HaveOwnIps peers
    → LastsWithPeers (with_peers peers s)

-- The same with refreshes 150 s ahead, with the defaults of the packages: so it is for a caller that is late by 2 ms, though as many
-- packets are extra as there are grants.
pub record LastsFarAhead (s : State) : Type 0 where
  pub begins : IsSteadyBehind 8193 100 8193 2_000_000 5_000_000_000 0 s
  pub lasts : (calls : List Call) → RunsAnswered 8193 100 8193 2_000_000 5_000_000_000 0 s calls
      → (g : Grant) → Contains s.grants g → IsKeptBy calls 0 s g → HasStill g (time_of_all 0 calls) (state_after_all s calls)

abbrev pub PeersLastFarAhead : Type 0
PeersLastFarAhead =
    (peers : List SocketAddr) (s : State) → length peers ≡ 4096 → All (λ peer. family_of peer ≡ IPV4) peers → HaveOwnIps peers
    → LastsFarAhead (refreshing_ahead (seconds 150) (with_peers peers s))
