-- The state of a gatherer: its client, and the checked pairs (RFC 8445, section 6.1.2).
use Rattle.std.specs.Prelude.{◌≡◌, ◌<◌, ℕ, Bool, false, ◌&&◌, List, [], ◌∷◌, ◌++◌, length, nat_lt, Result, Ok, Err, if◌then◌else◌}
use Rattle.std.specs.List.{list_any}
use Rattle.std.specs.declared.net.socket_addr.SocketAddr.{SocketAddr}
use Rattle.turn_stun.specs.declared.transport.TransportType.{TransportType}
use Rattle.turn_agent.specs.Agent.{same_address}
use Rattle.turn_client_api.specs.State.{State}
use Rattle.turn_client_api.specs.Grants.{same_transport}
use Rattle.turn_gather.specs.declared.error.GatherError.{GatherError}
use Rattle.turn_gather.specs.declared.error.GatherError.TheVariants.{Full, OutOfMemory}

-- the client, and the pairs of a transport and a peer, in the order in which they were checked
pub record Gathering : Type 0 where
  pub client : State
  pub checked : List (TransportType × SocketAddr)

abbrev pub most_checked : ℕ
most_checked = 1024

abbrev pub is_pair : TransportType → SocketAddr → TransportType × SocketAddr → Bool
is_pair transport peer pair = same_transport pair.0 transport && same_address pair.1 peer

-- the pair is in the list
abbrev pub is_checked_in : TransportType → SocketAddr → List (TransportType × SocketAddr) → Bool
is_checked_in transport peer pairs = list_any (is_pair transport peer) pairs

-- a new pair is appended; there are at most 1,024
abbrev pub check_step : TransportType → SocketAddr → List (TransportType × SocketAddr) → Result Unit GatherError × List (TransportType × SocketAddr)
check_step transport peer pairs =
    if is_checked_in transport peer pairs then (Ok tt, pairs)
    else (if nat_lt (length pairs) most_checked then (Ok tt, pairs ++ (transport, peer) ∷ [])
    else (Err Full, pairs))

-- the pair is not in the list, and the list has room for it
abbrev pub IsNewPair : TransportType → SocketAddr → List (TransportType × SocketAddr) → Type 0
IsNewPair transport peer pairs = (is_checked_in transport peer pairs ≡ false) × (length pairs < most_checked)

-- the answer and the gatherer after it; memory is allocated only for a new pair, and if that fails
-- nothing changes
abbrev pub Checks : TransportType → SocketAddr → Result Unit GatherError → Gathering → Gathering → Type 0
Checks transport peer (Err OutOfMemory) was is = IsNewPair transport peer was.checked × (is ≡ was)
Checks transport peer answer was is =
    let said = check_step transport peer was.checked in
    (answer ≡ said.0) × (is ≡ record was { checked = said.1 })
