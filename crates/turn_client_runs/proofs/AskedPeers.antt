-- A request for a channel, and one that binds a data connection, are for the peer that it has.
use Rattle.turn_client_laws.proofs.Common.{◌≡◌, ℕ, Contains, SocketAddr}
use Rattle.turn_client_laws.proofs.Machine.{id_of, State, Call, ForBind, ForChannel, DataConnection, Connection, purposes_of, Has, has-all}
use Rattle.turn_client_laws.proofs.Laws.{Input, handled, HasChannelTo, HasDistinctNumbers, HasGrantsAsked, HasItsGrant, HasNoDoubles, FitsPhase, before-single, AreApart-KeepsGrants, edits-IsKept}
use Rattle.turn_client_laws.proofs.Laws.{purposes-listed, StayFounded, StayFounded-KeepsAllEdits, contains-has, before-kept}
use Rattle.turn_client_laws.proofs.ConnectionPeers.{asked-connection}
use Rattle.turn_client_laws.proofs.ChannelPeers.{asked-peer}
use Rattle.turn_client_laws.proofs.GrantEdits.{grants-KeepsAllEdits}
use Rattle.turn_client_laws.proofs.NumberLemmas.{AreApart}

-- a channel has the peer with which it was requested
abbrev pub HasAskedPeers : Input → Type 0
HasAskedPeers one =
    (number : ℕ) (peer to : SocketAddr) → Contains (purposes_of (id_of one.bytes) one.before) (ForChannel number peer) → HasChannelTo number to one.before → to ≡ peer

-- so has a data connection
abbrev pub HasAskedConnections : Input → Type 0
HasAskedConnections one =
    (local peer : SocketAddr) (id : ℕ) (c : DataConnection) → Contains (purposes_of (id_of one.bytes) one.before) (ForBind local peer id)
    → Has (Connection c) one.before.grants → c.local ≡ local → c.peer ≡ peer

pub inputs-ask-connections : (call : Call) (s : State) → HasGrantsAsked s → FitsPhase s → HasNoDoubles s → (one : Input) → Contains (handled call s) one → HasAskedConnections one
inputs-ask-connections call s asked steady single one among local peer id c listed there at =
    let founded = before-kept StayFounded (edits-IsKept StayFounded StayFounded-KeepsAllEdits (λ s streams h. h)) call s one among (λ l here. has-all (HasItsGrant s) l s.listed asked here) in
    let alone = before-single call s one steady single among in
    let (l, here, asks) = purposes-listed (id_of one.bytes) one.before (ForBind local peer id) (contains-has (ForBind local peer id) (purposes_of (id_of one.bytes) one.before) listed) in
    asked-connection local peer id c one.before founded alone l here asks there at

pub inputs-ask-peers : (call : Call) (s : State) → HasGrantsAsked s → HasDistinctNumbers s → (one : Input) → Contains (handled call s) one → HasAskedPeers one
inputs-ask-peers call s asked distinct one among number peer to listed there =
    let founded = before-kept StayFounded (edits-IsKept StayFounded StayFounded-KeepsAllEdits (λ s streams h. h)) call s one among (λ l here. has-all (HasItsGrant s) l s.listed asked here) in
    let apart = before-kept _ (edits-IsKept _ (grants-KeepsAllEdits AreApart AreApart-KeepsGrants) (λ s streams h. h)) call s one among distinct in
    let (l, here, asks) = purposes-listed (id_of one.bytes) one.before (ForChannel number peer) (contains-has (ForChannel number peer) (purposes_of (id_of one.bytes) one.before) listed) in
    asked-peer number peer to one.before founded apart l here asks there
