-- What only a signed success of the server grants (RFC 8489, section 9.2.5; RFC 8656, sections 7.3 to 12.3;
-- RFC 6062, section 4.3).
use Rattle.std.specs.Prelude.{◌≡◌, ◌⊎◌, ◌≤◌, ℕ, true, List, Some, None, ⊤}
use Rattle.std.specs.List.{Contains, list_any}
use Rattle.std.specs.declared.net.socket_addr.SocketAddr.{SocketAddr}
use Rattle.turn_stun.specs.Message.{id_of}
use Rattle.turn_stun.specs.declared.message.header.MessageClass.TheVariants.{Success}
use Rattle.turn_auth.specs.Validation.{IsValidated, validation_of}
use Rattle.turn_agent.specs.Agent.{is_outstanding}
use Rattle.turn_client_api.specs.State.{State}
use Rattle.turn_client_api.specs.declared.grant.Grant.{Grant}
use Rattle.turn_client_api.specs.declared.grant.Grant.TheVariants.{Allocation, Permission, Channel, Connection}
use Rattle.turn_client_api.specs.declared.grant.Relay.{Relay}
use Rattle.turn_client_api.specs.declared.grant.Progress.{Progress}
use Rattle.turn_client_api.specs.declared.grant.Progress.TheVariants.{Active}
use Rattle.turn_client_api.specs.declared.grant.Purpose.{Purpose}
use Rattle.turn_client_api.specs.declared.grant.Purpose.TheVariants.{ForAllocation, ForRefresh}
use Rattle.turn_client_api.specs.State.{auth_of, later_by, seconds}
use Rattle.turn_client_api.specs.declared.grant.Purpose.TheVariants.{ForPermission, ForChannel}
use Rattle.turn_client_api.specs.Grants.{is_of_family, purposes_of, same_ip}
use Rattle.turn_client_api.specs.Judgement.{class_in, lifetime_in}
use Rattle.turn_client_api.specs.Payloads.{is_message}
use Rattle.turn_client_laws.specs.Handled.{Input}
use Rattle.turn_client_laws.specs.LawsBound.{IsConnecting}
use Rattle.turn_client_laws.specs.LawsHandled.{IsDoneBy, IsOverControl}
use Rattle.turn_client_api.specs.Effect.{channel_lifetime, min_lifetime, permission_lifetime, relayed_in}
use Rattle.turn_client_laws.specs.LawsInputs.{Deed}
use Rattle.turn_client_api.specs.declared.call.Call.{Call}
use Rattle.turn_client_api.specs.declared.call.Call.TheVariants.{Delete}
use Rattle.turn_client_api.specs.declared.grant.Lease.{Lease}

-- what the server granted: an allocation, an active permission or channel, and a connection that is bound
abbrev pub IsActiveGrant : Grant → Type 0
IsActiveGrant (Allocation a) = ⊤
IsActiveGrant (Permission ip (Active lease)) = ⊤
IsActiveGrant (Channel number peer (Active lease)) = ⊤
IsActiveGrant (Connection c) = c.deadline ≡ None
IsActiveGrant _ = ⊥

-- the second is the first, granted, with the same expiry, kept or not
abbrev pub IsSameGrant : Grant → Grant → Type 0
IsSameGrant (Allocation was) (Allocation is) = (was.relayed ≡ is.relayed) × (was.expiry ≡ is.expiry)
IsSameGrant (Permission ip (Active was)) (Permission other (Active is)) = (ip ≡ other) × (was.expiry ≡ is.expiry)
IsSameGrant (Channel number peer (Active was)) (Channel other to (Active is)) = (number ≡ other) × (peer ≡ to) × (was.expiry ≡ is.expiry)
IsSameGrant (Connection was) (Connection is) = (was ≡ is) × (was.deadline ≡ None)
IsSameGrant _ _ = ⊥

-- it was active already, with this expiry
abbrev pub WasActive : State → Grant → Type 0
WasActive s g = (was : Grant) × Contains s.grants was × IsSameGrant was g

-- there is a channel of this number, which is for this peer
abbrev pub HasChannelTo : ℕ → SocketAddr → State → Type 0
HasChannelTo number peer s = (progress : Progress) × Contains s.grants (Channel number peer progress)

-- what a success that is received now, in this state, grants for a purpose of its request: an allocation is
-- of a requested family, and a channel has its peer already, with which it was requested
abbrev pub IsGivenFor : Purpose → List ℕ → ℕ → State → Grant → Type 0
IsGivenFor ForAllocation message now s (Allocation a) =
    (n : ℕ) × (lifetime_in message ≡ Some n) × (a.expiry ≡ later_by (seconds n) now)
    × Contains (relayed_in message) a.relayed
    × (list_any (λ family. is_of_family family a.relayed) s.families ≡ true)
IsGivenFor (ForRefresh family lifetime) message now s (Allocation a) =
    (1 ≤ lifetime) × (is_of_family family a.relayed ≡ true)
    × ((n : ℕ) × (lifetime_in message ≡ Some n) × (min_lifetime ≤ n) × (a.expiry ≡ later_by (seconds n) now))
IsGivenFor (ForPermission ip) message now s (Permission other (Active lease)) =
    (same_ip other ip ≡ true) × (lease.expiry ≡ later_by permission_lifetime now)
IsGivenFor (ForChannel number peer) message now s (Channel other to (Active lease)) =
    (other ≡ number) × (lease.expiry ≡ later_by channel_lifetime now) × HasChannelTo other to s
IsGivenFor _ message now s _ = ⊥

-- The message is a success that is signed with the client's credentials under the realm that it holds, it
-- answers an outstanding request, and this request was made for a purpose that the grant is granted for.
pub record IsGrantedBy (message : List ℕ) (now : ℕ) (s : State) (g : Grant) : Type 0 where
  pub success : class_in message ≡ Success
  pub signed : IsValidated (validation_of (auth_of s) message)
  pub outstanding : is_outstanding (id_of message) s.transactions ≡ true
  pub purpose : Purpose
  pub listed : Contains (purposes_of (id_of message) s) purpose
  pub given : IsGivenFor purpose message now s g

-- the message granted it, with this expiry
abbrev pub IsGrant : Grant → Deed
IsGrant g message now s = (was : Grant) × IsGrantedBy message now s was × IsSameGrant was g

-- The input is a whole message, a datagram or a frame of the control connection, which granted it.
pub record IsGrantInput (g : Grant) (one : Input) : Type 0 where
  pub over : IsOverControl one
  pub whole : is_message one.bytes ≡ true
  pub grant : IsGrant g one.bytes one.time one.before

-- a connection is bound over itself, and all other grants are granted over the control connection
abbrev pub IsGrantedIn : Grant → Input → Type 0
IsGrantedIn (Connection c) one = IsConnecting c one
IsGrantedIn g one = IsGrantInput g one

-- the caller deletes the allocation, which expires now
abbrev pub IsEndedNow : Call → State → Grant → Type 0
IsEndedNow (Delete now) s (Allocation a) =
    (a.expiry ≡ now) × ((was : Relay) × Contains s.grants (Allocation was) × (was.relayed ≡ a.relayed))
IsEndedNow _ s _ = ⊥

-- why the grant is active after the call: it was before, it is deleted now, or an input granted it
abbrev pub HasCause : Call → State → Grant → Type 0
HasCause call s g = WasActive s g ⊎ IsEndedNow call s g ⊎ IsDoneBy (IsGrantedIn g) call s

-- ---- a channel's peer

-- the input granted the channel, in answer to the request for its number and its peer
abbrev pub IsChannelInput : ℕ → SocketAddr → Lease → Input → Type 0
IsChannelInput number peer lease one =
    (input : IsGrantInput (Channel number peer (Active lease)) one) × (input.grant.1.purpose ≡ ForChannel number peer)

-- why the channel is active after the call: it was before, with this expiry, or an input granted it
abbrev pub HasChannelCause : ℕ → SocketAddr → Lease → Call → State → Type 0
HasChannelCause number peer lease call s =
    WasActive s (Channel number peer (Active lease)) ⊎ IsDoneBy (IsChannelInput number peer lease) call s

-- each channel that the call leaves active has the peer of its request
abbrev pub GrantsToPeers : Call → State → State → Type 0
GrantsToPeers call s t =
    (number : ℕ) (peer : SocketAddr) (lease : Lease) → Contains t.grants (Channel number peer (Active lease)) → HasChannelCause number peer lease call s
