-- When `send_to` gives a packet (RFC 8656, sections 9, 11.1 and 12.5; RFC 6062, section 4.3).
use Rattle.std.specs.Prelude.{◌≡◌, ℕ, true, false, List, ◌∷◌, ◌++◌, Ok, Err, None, ⊤}
use Rattle.std.specs.List.{Contains}
use Rattle.std.specs.Net.Socket.{socket_ip}
use Rattle.std.specs.declared.net.ip_addr.IpAddr.{IpAddr}
use Rattle.std.specs.declared.net.socket_addr.SocketAddr.{SocketAddr}
use Rattle.turn_stun.specs.declared.transport.TransportType.{TransportType}
use Rattle.turn_stun.specs.declared.transport.TransportType.TheVariants.{Udp, Tcp}
use Rattle.turn_stun.specs.declared.transport.Transmit.{Transmit}
use Rattle.turn_client_api.specs.State.{State}
use Rattle.turn_client_api.specs.Calls.{can_send_to, send_to_step}
use Rattle.turn_client_api.specs.Grants.{family_of, family_of_ip}
use Rattle.turn_client_api.specs.Steps.{state_after_all}
use Rattle.turn_client_api.specs.declared.call.Call.{Call}
use Rattle.turn_client_api.specs.declared.call.Call.TheVariants.{HavePermission, SendTo}
use Rattle.turn_client_api.specs.declared.error.SendError.{SendError}
use Rattle.turn_client_api.specs.declared.error.SendError.TheVariants.{NoPermission, NoTcpSocket}
use Rattle.turn_client_api.specs.declared.grant.DataConnection.{DataConnection}
use Rattle.turn_client_api.specs.declared.grant.Grant.TheVariants.{Allocation, Connection}
use Rattle.turn_client_api.specs.declared.grant.Relay.{Relay}
use Rattle.turn_client_laws.specs.LawsPeers.{HasPermission}
use Rattle.turn_client_runs.specs.Sent.{IsSentTo}

-- An allocation relays over this transport to the IP address, and is not marked as expired; and the IP address has
-- an active permission.
pub record IsReachable (transport : TransportType) (ip : IpAddr) (s : State) : Type 0 where
  pub over : transport ≡ s.config.allocation_transport
  pub relay : Relay
  pub allocation : Contains s.grants (Allocation relay)
  pub family : family_of relay.relayed ≡ family_of_ip ip
  pub in_use : relay.is_expired ≡ false
  pub permitted : HasPermission ip s

-- over TCP a data connection is bound to the peer
abbrev pub HasWay : TransportType → SocketAddr → State → Type 0
HasWay Tcp peer s = (c : DataConnection) × Contains s.grants (Connection c) × (c.peer ≡ peer) × (c.deadline ≡ None)
HasWay Udp peer s = ⊤

-- what the refusal says is so
abbrev pub IsTrueOf : SendError → TransportType → SocketAddr → State → Type 0
IsTrueOf NoPermission transport peer s = IsReachable transport (socket_ip peer) s → ⊥
IsTrueOf NoTcpSocket transport peer s = IsReachable transport (socket_ip peer) s × (HasWay transport peer s → ⊥)
IsTrueOf _ transport peer s = ⊥

-- The data for the peer is in the packet, as `IsSentTo` says, if the peer can be reached. A refusal is true. No
-- call changes more than which transaction ID is next.
pub record SendsData (transport : TransportType) (peer : SocketAddr) (bytes : List ℕ) (now : ℕ) (first s : State) : Type 0 where
  pub gives : IsReachable transport (socket_ip peer) s → HasWay transport peer s
      → (packet : Transmit (List ℕ)) × ((send_to_step transport peer bytes now s).0 ≡ Ok packet) × IsSentTo transport peer bytes now first s packet
  pub refuses : (why : SendError) → (send_to_step transport peer bytes now s).0 ≡ Err why → IsTrueOf why transport peer s
  pub leaves : (send_to_step transport peer bytes now s).1 ≡ record s { ids = (send_to_step transport peer bytes now s).1.ids }

-- so does each `send_to` of these calls
abbrev pub SendsToReachable : State → List Call → Type 0
SendsToReachable first calls =
    (earlier : List Call) (transport : TransportType) (peer : SocketAddr) (bytes : List ℕ) (now : ℕ) (later : List Call)
    → calls ≡ earlier ++ SendTo transport peer bytes now ∷ later → SendsData transport peer bytes now first (state_after_all first earlier)

-- `have_permission` is true exactly of those that can be reached
pub record TellsReachable (transport : TransportType) (ip : IpAddr) (s : State) : Type 0 where
  pub told : can_send_to transport ip s ≡ true → IsReachable transport ip s
  pub tells : IsReachable transport ip s → can_send_to transport ip s ≡ true

-- so does each `have_permission` of these calls
abbrev pub TellsWhoIsReachable : State → List Call → Type 0
TellsWhoIsReachable first calls =
    (earlier : List Call) (transport : TransportType) (ip : IpAddr) (later : List Call)
    → calls ≡ earlier ++ HavePermission transport ip ∷ later → TellsReachable transport ip (state_after_all first earlier)

-- data for a peer that can be reached is sent, and who that is is told
abbrev pub ReachablePeersAreSentTo : State → List Call → Type 0
ReachablePeersAreSentTo first calls = SendsToReachable first calls × TellsWhoIsReachable first calls
