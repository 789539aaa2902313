-- Why a client returns an event (RFC 8656, sections 7 to 12; RFC 6062, section 4).
use Rattle.std.specs.Prelude.{◌≡◌, ◌⊎◌, ◌≤◌, ℕ, true, false, List, ◌∷◌, ◌++◌, Some, None, IsSome, ⊤}
use Rattle.std.specs.List.{Contains, list_any}
use Rattle.std.specs.declared.net.socket_addr.SocketAddr.{SocketAddr}
use Rattle.turn_stun.specs.Message.{id_of}
use Rattle.turn_stun.specs.declared.message.header.MessageClass.TheVariants.{Error}
use Rattle.turn_stun.specs.declared.transport.TransportType.{TransportType}
use Rattle.turn_types.specs.declared.family.AddressFamily.{AddressFamily}
use Rattle.turn_types.specs.declared.family.AddressFamily.TheVariants.{IPV4}
use Rattle.turn_auth.specs.LongTerm.{Challenge}
use Rattle.turn_auth.specs.Validation.{IsValidated, validation_of}
use Rattle.turn_agent.specs.Agent.{timed_out_transaction}
use Rattle.turn_client_api.specs.State.{State, agent_of, auth_of}
use Rattle.turn_client_api.specs.declared.call.Call.{Call}
use Rattle.turn_client_api.specs.declared.call.Call.TheVariants.{Poll, PollEvent, ProtocolError}
use Rattle.turn_client_api.specs.declared.event.TurnEvent.{TurnEvent}
use Rattle.turn_client_api.specs.declared.event.TurnEvent.TheVariants.{AllocationCreated, AllocationCreateFailed, PermissionCreated}
use Rattle.turn_client_api.specs.declared.event.TurnEvent.TheVariants.{PermissionCreateFailed, ChannelCreated, ChannelCreateFailed}
use Rattle.turn_client_api.specs.declared.event.TurnEvent.TheVariants.{TcpConnected, TcpConnectFailed}
use Rattle.turn_client_api.specs.declared.grant.DataConnection.{DataConnection}
use Rattle.turn_client_api.specs.declared.grant.Grant.{Grant}
use Rattle.turn_client_api.specs.declared.grant.Grant.TheVariants.{Allocation, Permission, Channel, Connection}
use Rattle.turn_client_api.specs.declared.grant.Progress.TheVariants.{Active, Reserved}
use Rattle.turn_client_api.specs.declared.grant.Purpose.{Purpose}
use Rattle.turn_client_api.specs.declared.grant.Purpose.TheVariants.{ForAllocation, ForRefresh, ForPermission, ForChannel, ForConnect}
use Rattle.turn_client_api.specs.declared.state.Phase.TheVariants.{Requesting, Closed}
use Rattle.turn_client_api.specs.Answers.{event_step}
use Rattle.turn_client_api.specs.Connections.{connection_at}
use Rattle.turn_client_api.specs.Effect.{family_not_supported, has_code, relayed_in, taken_addresses}
use Rattle.turn_client_api.specs.Grants.{failure_of, is_of_family, purposes_of, same_ip}
use Rattle.turn_client_api.specs.Judgement.{Challenged, Fatal, SignedSuccess, bind_judgement, class_in, connection_id_in, judgement_of}
use Rattle.turn_client_api.specs.Judgement.{lifetime_in, method_in}
use Rattle.turn_client_api.specs.Payloads.{is_message}
use Rattle.turn_client_api.specs.Requests.{connection_bind_method}
use Rattle.turn_client_api.specs.Steps.{state_after, state_after_all}
use Rattle.turn_client_laws.specs.Handled.{Input, processed}
use Rattle.turn_client_laws.specs.LawsGone.{HasExpiredOrFailed}
use Rattle.turn_client_laws.specs.LawsHandled.{IsDoneBy, IsOverControl, IsOverWaiting}
use Rattle.turn_client_laws.specs.LawsReplies.{IsAwaited, IsNotAwaited}
use Rattle.turn_client_runs.specs.Granted.{HoldsThrough, IsAnsweredIn, IsGranting}

-- the transport over which the server relays
abbrev pub relayed_over : Input → TransportType
relayed_over one = one.before.config.allocation_transport

-- ---- what a signed success created

-- the event reports that this was created
abbrev pub Reports : TurnEvent → TransportType → Grant → Type 0
Reports (AllocationCreated transport relayed) over (Allocation a) = (transport ≡ over) × (relayed ≡ a.relayed)
Reports (PermissionCreated transport ip) over (Permission other (Active lease)) = (transport ≡ over) × (ip ≡ other)
Reports (ChannelCreated transport peer) over (Channel number other (Active lease)) = (transport ≡ over) × (peer ≡ other)
Reports (TcpConnected peer) over (Connection c) = peer ≡ c.peer
Reports _ over _ = ⊥

-- a REFRESH creates no allocation
abbrev pub IsNoRefresh : Purpose → Type 0
IsNoRefresh (ForRefresh family lifetime) = ⊥
IsNoRefresh _ = ⊤

-- the input is a signed success, which granted just what the event reports, in answer to a request for it
abbrev pub Creates : TurnEvent → Purpose → Input → Type 0
Creates event purpose one =
    (g : Grant) × Reports event (relayed_over one) g × IsGranting g purpose one × IsNoRefresh purpose

-- ---- what a signed reply refused

-- no address of this family is granted: by an error, by a success without a lifetime, or by one that has no
-- such address
abbrev pub LacksFamily : AddressFamily → Input → Type 0
LacksFamily family one =
    (class_in one.bytes ≡ Error) ⊎ (lifetime_in one.bytes ≡ None)
    ⊎ (list_any (is_of_family family) (taken_addresses one.before.families (relayed_in one.bytes)) ≡ false)

-- the family is still requested; or it is IPv4, and the server has no addresses of one of two families (RFC
-- 8656, section 7.4)
abbrev pub IsStillAsked : AddressFamily → Input → Type 0
IsStillAsked family one =
    Contains one.before.families family ⊎ ((family ≡ IPV4) × (has_code family_not_supported one.bytes ≡ true))

-- what the reply in the input refuses for a purpose of its request: it is an error, or lacks what it needs
abbrev pub IsRefusedIn : Input → Purpose → TurnEvent → Type 0
IsRefusedIn one ForAllocation (AllocationCreateFailed family) = IsStillAsked family one × LacksFamily family one
IsRefusedIn one (ForPermission ip) (PermissionCreateFailed transport other) =
    (class_in one.bytes ≡ Error) × (transport ≡ relayed_over one) × (same_ip other ip ≡ true)
IsRefusedIn one (ForChannel number peer) (ChannelCreateFailed transport to) =
    (class_in one.bytes ≡ Error) × (transport ≡ relayed_over one) × (to ≡ peer)
IsRefusedIn one (ForConnect peer) (TcpConnectFailed to) =
    (to ≡ peer) × ((class_in one.bytes ≡ Error) ⊎ (connection_id_in one.bytes ≡ None))
IsRefusedIn one _ _ = ⊥

-- The input is a signed reply over the control connection, which refused what the event reports. It answers
-- a request that was made for this purpose: outstanding just before the input, and not just after it.
pub record Refuses (event : TurnEvent) (purpose : Purpose) (one : Input) : Type 0 where
  pub over : IsOverControl one
  pub whole : is_message one.bytes ≡ true
  pub signed : IsValidated (validation_of (auth_of one.before) one.bytes)
  pub listed : Contains (purposes_of (id_of one.bytes) one.before) purpose
  pub outstanding : IsAwaited one.bytes one.before
  pub ended : IsNotAwaited one.bytes (processed one).1
  pub refused : IsRefusedIn one purpose event

-- ---- what failed otherwise

-- The input ends the client while it requests an address of this family: it is a challenge after as many as
-- the client answers, or a reply that the client cannot trust.
pub record EndsAsking (family : AddressFamily) (one : Input) : Type 0 where
  pub over : IsOverControl one
  pub whole : is_message one.bytes ≡ true
  pub asked : Contains one.before.families family
  pub ends : (judgement_of one.before one.bytes ≡ Fatal)
      ⊎ ((challenge : Challenge) × (judgement_of one.before one.bytes ≡ Challenged challenge)
      × (one.before.config.max_stale_nonces ≤ one.before.challenges))

-- The input is a message for the data connection to this peer, which waited to be bound. It neither binds
-- it nor challenges its CONNECTION_BIND.
pub record RefusesBind (peer : SocketAddr) (one : Input) : Type 0 where
  pub local : SocketAddr
  pub over : IsOverWaiting local one
  pub whole : is_message one.bytes ≡ true
  pub method : method_in one.bytes ≡ connection_bind_method
  pub connection : DataConnection
  pub found : connection_at local one.before ≡ Some connection
  pub to : connection.peer ≡ peer
  pub unbound : bind_judgement one.before connection.local one.bytes ≡ SignedSuccess → ⊥
  pub unchallenged : (challenge : Challenge) → bind_judgement one.before connection.local one.bytes ≡ Challenged challenge → ⊥

abbrev pub FailsIn : TurnEvent → Input → Type 0
FailsIn (AllocationCreateFailed family) one = EndsAsking family one
FailsIn (TcpConnectFailed peer) one = RefusesBind peer one
FailsIn _ one = ⊥

-- the grant has expired at this time, or the request for it times out now
abbrev pub HasFailed : ℕ → State → Grant → Type 0
HasFailed now s (Channel number peer (Active lease)) = lease.expiry ≤ now
HasFailed now s (Channel number peer (Reserved until)) = ⊥
HasFailed now s g = HasExpiredOrFailed now s g

-- the event reports that a family failed which the client requests
abbrev pub IsOfFamily : TurnEvent → State → Type 0
IsOfFamily event s = (family : AddressFamily) × (event ≡ AllocationCreateFailed family) × Contains s.families family

-- the first ALLOCATE timed out, or what failed is a grant
abbrev pub FailsInTime : TurnEvent → ℕ → State → Type 0
FailsInTime event now s =
    ((s.phase ≡ Requesting) × IsSome (timed_out_transaction (agent_of s) now) × IsOfFamily event s)
    ⊎ ((g : Grant) × Contains s.grants g × (failure_of s.config.allocation_transport g ≡ Some event) × HasFailed now s g)

-- the call itself: time has passed, or the caller ends a client that requests an allocation
abbrev pub FailsItself : TurnEvent → Call → State → Type 0
FailsItself event (Poll now) s = FailsInTime event now s
FailsItself event ProtocolError s = (s.phase ≡ Closed → ⊥) × IsOfFamily event s
FailsItself event call s = ⊥

abbrev pub FailsBy : TurnEvent → Call → State → Type 0
FailsBy event call s = FailsItself event call s ⊎ IsDoneBy (FailsIn event) call s

-- ---- a run

-- the event is not returned yet
abbrev pub Waits : TurnEvent → State → Type 0
Waits event s = Contains s.events event

-- One of these calls, or an input of it, made the event's grant fail, and the event waits since.
pub record HasFailedIn (event : TurnEvent) (calls : List Call) (first : State) : Type 0 where
  pub earlier : List Call
  pub call : Call
  pub later : List Call
  pub split : calls ≡ earlier ++ call ∷ later
  pub fails : FailsBy event call (state_after_all first earlier)
  pub waits : HoldsThrough (Waits event) later (state_after call (state_after_all first earlier))

-- why the event waits after these calls: a signed reply to an own request created or refused what it
-- reports, or that failed otherwise, and the event waits since
abbrev pub HasEventCause : TurnEvent → List Call → State → Type 0
HasEventCause event calls first =
    IsAnsweredIn (Creates event) (Waits event) calls first
    ⊎ IsAnsweredIn (Refuses event) (Waits event) calls first
    ⊎ HasFailedIn event calls first

-- each event that `poll_event` returns has its cause in the calls before
abbrev pub EventsHaveCauses : State → List Call → Type 0
EventsHaveCauses first calls =
    (earlier later : List Call) (event : TurnEvent) → calls ≡ earlier ++ PollEvent ∷ later
    → (event_step (state_after_all first earlier)).0 ≡ Some event → HasEventCause event earlier first
