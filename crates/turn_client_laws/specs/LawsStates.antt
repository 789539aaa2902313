-- Which states a client can be in, over all calls.
use Rattle.std.specs.Prelude.{◌≡◌, ◌⊎◌, ◌==◌, ◌&&◌, ◌≤◌, ℕ, Bool, true, List, filter, length, Option, IsSome, All, ⊤}
use Rattle.std.specs.List.{list_any}
use Rattle.std.specs.declared.net.socket_addr.SocketAddr.{SocketAddr}
use Rattle.turn_stun.specs.declared.transport.TransportType.{TransportType}
use Rattle.turn_auth.specs.LongTerm.{Challenge}
use Rattle.turn_agent.specs.Agent.{same_address}
use Rattle.turn_agent.specs.declared.transaction.Transaction.{Transaction}
use Rattle.turn_client_api.specs.Config.{Config}
use Rattle.turn_client_api.specs.State.{State, initial}
use Rattle.turn_client_api.specs.declared.state.Phase.{Phase}
use Rattle.turn_client_api.specs.declared.state.Phase.TheVariants.{Authenticating, Allocated}
use Rattle.turn_client_api.specs.declared.grant.Grant.{Grant}
use Rattle.turn_client_api.specs.declared.grant.Grant.TheVariants.{Channel, Connection}
use Rattle.turn_client_api.specs.declared.grant.Purpose.{Purpose}
use Rattle.turn_client_api.specs.declared.grant.Purpose.TheVariants.{ForAllocation, ForBind, ForChannel}
use Rattle.turn_client_api.specs.declared.grant.Listing.{Listing}
use Rattle.turn_client_api.specs.Grants.{is_for}
use Rattle.turn_client_api.specs.Connections.{is_indicated, max_indicated}
use Rattle.turn_client_api.specs.Steps.{Leaves}
use Rattle.turn_client_api.specs.declared.call.Call.{Call}
use Rattle.turn_client_laws.specs.LawsNumbers.{channel_numbers_of}

-- it holds for each new client
abbrev pub HoldsAtFirst : (State → Type 0) → Type 0
HoldsAtFirst P =
    (transport : TransportType) (local remote : SocketAddr) (config : Config) (seed : List ℕ) → P (initial transport local remote config seed)

-- and after every call, even if memory allocation fails
abbrev pub StaysInCalls : (State → Type 0) → Type 0
StaysInCalls P = (call : Call) (s t : State) → Leaves call s t → P s → P t

-- numbers of channels (RFC 8656, section 12)
abbrev pub IsInRange : ℕ → Type 0
IsInRange number = (0x4000 ≤ number) × (number ≤ 0x4FFF)

abbrev pub HasNumbersInRange : State → Type 0
HasNumbersInRange s = All IsInRange (channel_numbers_of s)

-- from the first challenge on, until the client ends
abbrev pub IsHeldIn : Phase → Option Challenge → Type 0
IsHeldIn Authenticating held = IsSome held
IsHeldIn Allocated held = IsSome held
IsHeldIn _ held = ⊤

abbrev pub HoldsChallenge : State → Type 0
HoldsChallenge s = IsHeldIn s.phase s.held

-- all requests that are outstanding were sent to the server
abbrev pub IsToServer : State → Transaction → Type 0
IsToServer s t = t.to ≡ s.remote

abbrev pub AsksServer : State → Type 0
AsksServer s = All (IsToServer s) s.transactions

-- the request is for this grant, a channel with its number and its peer, or a data connection with its local
-- address and its peer
abbrev pub is_asked_by : Purpose → Grant → Bool
is_asked_by (ForChannel number peer) (Channel other to progress) = (other == number) && same_address to peer
is_asked_by (ForBind local peer id) (Connection c) = same_address c.local local && same_address c.peer peer
is_asked_by purpose grant = is_for purpose grant

-- the request is an ALLOCATE, or a grant exists that it is for
abbrev pub HasItsGrant : State → Listing → Type 0
HasItsGrant s l = (l.purpose ≡ ForAllocation) ⊎ (list_any (is_asked_by l.purpose) s.grants ≡ true)

abbrev pub HasGrantsAsked : State → Type 0
HasGrantsAsked s = All (HasItsGrant s) s.listed

-- indications are not signed, so their offers are few
abbrev pub HasFewIndicated : State → Type 0
HasFewIndicated s = length (filter is_indicated s.grants) ≤ max_indicated
