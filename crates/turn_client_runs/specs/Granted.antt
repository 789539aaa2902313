-- What the replies of a run granted (RFC 8489, section 9.2.5; RFC 8656, sections 7.3 to 12.3; RFC 6062,
-- section 4.3).
use Rattle.std.specs.Prelude.{◌≡◌, ◌⊎◌, ◌≤◌, ℕ, true, List, [], ◌∷◌, ◌++◌, Option, Some, None, Ok, take, ⊤}
use Rattle.std.specs.declared.net.socket_addr.SocketAddr.{SocketAddr}
use Rattle.turn_types.specs.Frames.{frame_len}
use Rattle.turn_stun.specs.declared.transport.TransportType.{TransportType}
use Rattle.turn_client_api.specs.Config.{Config}
use Rattle.std.specs.List.{Contains, list_any}
use Rattle.turn_stun.specs.Message.{id_of}
use Rattle.turn_stun.specs.declared.message.header.MessageClass.TheVariants.{Success}
use Rattle.turn_auth.specs.LongTerm.{Challenge}
use Rattle.turn_auth.specs.Validation.{IsValidated, validation_of}
use Rattle.turn_agent.specs.declared.transaction.Transaction.{Transaction}
use Rattle.turn_client_api.specs.State.{State, auth_of, initial, later_by, seconds}
use Rattle.turn_client_api.specs.declared.call.Call.{Call}
use Rattle.turn_client_api.specs.declared.grant.Grant.{Grant}
use Rattle.turn_client_api.specs.declared.grant.Grant.TheVariants.{Allocation, Permission, Channel, Connection}
use Rattle.turn_client_api.specs.declared.grant.Relay.{Relay}
use Rattle.turn_client_api.specs.declared.grant.Progress.TheVariants.{Active}
use Rattle.turn_client_api.specs.declared.grant.Purpose.{Purpose}
use Rattle.turn_client_api.specs.declared.grant.Purpose.TheVariants.{ForAllocation, ForRefresh, ForPermission, ForChannel, ForBind}
use Rattle.turn_client_api.specs.declared.call.Call.TheVariants.{Delete, PollRecv, Recv}
use Rattle.turn_client_api.specs.declared.state.Mode.{Mode}
use Rattle.turn_client_api.specs.declared.state.Mode.TheVariants.{Bound, Broken}
use Rattle.turn_client_api.specs.declared.state.Stream.{Stream}
use Rattle.turn_client_api.specs.Calls.{delete_step}
use Rattle.turn_client_api.specs.Grants.{is_of_family, purposes_of, same_ip}
use Rattle.turn_client_api.specs.Judgement.{class_in, lifetime_in}
use Rattle.turn_client_api.specs.Effect.{channel_lifetime, min_lifetime, permission_lifetime, relayed_in}
use Rattle.turn_client_api.specs.Payloads.{is_message}
use Rattle.turn_client_laws.specs.Handled.{Input, handled, processed}
use Rattle.turn_client_api.specs.Steps.{state_after, state_after_all}
use Rattle.turn_client_laws.specs.LawsAllocates.{IsAskedForFamilies}
use Rattle.turn_client_laws.specs.LawsGranted.{WasActive}
use Rattle.turn_client_laws.specs.LawsHandled.{IsDoneBy, IsOverControl, IsOverWaiting}
use Rattle.turn_client_laws.specs.LawsReplies.{IsAwaited, IsNotAwaited}
use Rattle.turn_client_laws.specs.LawsRequests.{AsksFor, IsListedFor, IsMade}
use Rattle.turn_client_api.specs.Requests.{fresh_id, request_for, waits_from}
use Rattle.turn_client_runs.specs.Received.{HasArrived}

-- ---- what a reply grants

-- a data connection is bound over itself, and all other grants are granted over the control connection
abbrev pub IsOverIts : Grant → Input → Type 0
IsOverIts (Connection c) one = IsOverWaiting c.local one
IsOverIts g one = IsOverControl one

-- What the success in the input grants for a purpose: an allocation for the first LIFETIME that is seen, at
-- least 600 s in answer to a REFRESH for more than 0 s; a permission for 300 s; a channel for 600 s; a data
-- connection to the peer for which the caller opened it.
abbrev pub IsGivenIn : Input → Purpose → Grant → Type 0
IsGivenIn one ForAllocation (Allocation a) =
    (n : ℕ) × (lifetime_in one.bytes ≡ Some n) × (a.expiry ≡ later_by (seconds n) one.time)
    × Contains (relayed_in one.bytes) a.relayed
    × (list_any (λ family. is_of_family family a.relayed) one.before.families ≡ true)
IsGivenIn one (ForRefresh family lifetime) (Allocation a) =
    (1 ≤ lifetime) × (is_of_family family a.relayed ≡ true)
    × ((n : ℕ) × (lifetime_in one.bytes ≡ Some n) × (min_lifetime ≤ n) × (a.expiry ≡ later_by (seconds n) one.time))
IsGivenIn one (ForPermission ip) (Permission other (Active lease)) =
    (same_ip other ip ≡ true) × (lease.expiry ≡ later_by permission_lifetime one.time)
IsGivenIn one (ForChannel number peer) (Channel other to (Active lease)) =
    (other ≡ number) × (to ≡ peer) × (lease.expiry ≡ later_by channel_lifetime one.time)
IsGivenIn one (ForBind local peer id) (Connection c) = (c.local ≡ local) × (c.peer ≡ peer) × (c.deadline ≡ None)
IsGivenIn one _ _ = ⊥

-- both are held, with the same realm and the same algorithm
abbrev pub HaveOneRealm : Option Challenge → Option Challenge → Type 0
HaveOneRealm held other =
    (c d : Challenge) × (held ≡ Some c) × (other ≡ Some d) × (c.realm ≡ d.realm) × (c.algorithm ≡ d.algorithm)

-- The request is an ALLOCATE, signed as a client of this configuration signs under this realm and this
-- algorithm, whatever nonce it held then.
abbrev pub IsSignedAllocate : Config → Option Challenge → Transaction → Type 0
IsSignedAllocate config held x =
    (t : State) × (t.config ≡ config) × HaveOneRealm t.held held × (x.request ≡ request_for t ForAllocation x.id)

-- The reply in the input answers a signed ALLOCATE, and not the first one, which is not signed and whose
-- response is the challenge (RFC 8489, section 9.2.3): it is signed under the realm, the key and the
-- algorithm under which the reply is. By its bytes it requests the families of which the client still
-- requests an address (RFC 8656, sections 7.1 and 7.3).
pub record AsksToAllocate (one : Input) : Type 0 where
  pub families : IsAskedForFamilies (id_of one.bytes) one.before
  pub signed : (x : Transaction) → Contains one.before.transactions x → x.id ≡ id_of one.bytes → IsSignedAllocate one.before.config one.before.held x

-- a first allocation is granted in answer to such a request, and is of one of these families
abbrev pub AsksForItsFamily : Purpose → Input → Type 0
AsksForItsFamily ForAllocation one = AsksToAllocate one
AsksForItsFamily _ one = ⊤

-- The input granted it, with this expiry. It is a success, which is signed under the realm, the key and the
-- algorithm that are held then. It answers a request that was made for this purpose: outstanding just
-- before the input, and not just after it.
pub record IsGranting (g : Grant) (purpose : Purpose) (one : Input) : Type 0 where
  pub over : IsOverIts g one
  pub whole : is_message one.bytes ≡ true
  pub success : class_in one.bytes ≡ Success
  pub signed : IsValidated (validation_of (auth_of one.before) one.bytes)
  pub listed : Contains (purposes_of (id_of one.bytes) one.before) purpose
  pub outstanding : IsAwaited one.bytes one.before
  pub ended : IsNotAwaited one.bytes (processed one).1
  pub asks : AsksForItsFamily purpose one
  pub given : IsGivenIn one purpose g

-- ---- when an input is processed

-- These bytes come next in the stream: all that it holds if it is bound, and else its first whole frame (RFC
-- 8489, section 6.2.2; RFC 8656, section 12.5).
abbrev pub IsNextOf : Stream → List ℕ → Type 0
IsNextOf stream front = by stream.mode
  where
    by : Mode → Type 0
    by (Bound peer) = front ≡ stream.bytes
    by Broken = ⊥
    by mode = (len : ℕ) × (frame_len stream.bytes ≡ Some len) × (front ≡ take len stream.bytes)

-- what comes next in its stream, or a datagram of these bytes
abbrev pub IsWholeOrNext : List ℕ → Input → Type 0
IsWholeOrNext payload one = by one.stream
  where
    by : Option Stream → Type 0
    by None = one.bytes ≡ payload
    by (Some stream) = IsNextOf stream one.bytes

-- `poll_recv` processes only frames
abbrev pub IsNextFrame : Input → Type 0
IsNextFrame one = by one.stream
  where
    by : Option Stream → Type 0
    by None = ⊥
    by (Some stream) = IsNextOf stream one.bytes

-- the input is processed in this call, and at its time
abbrev pub ComesIn : Call → Input → Type 0
ComesIn (Recv packet now) one = (one.time ≡ now) × IsWholeOrNext packet.payload one
ComesIn (PollRecv now) one = (one.time ≡ now) × IsNextFrame one
ComesIn _ one = ⊥

-- ---- an own request

-- Between these two states a request for the purpose was made, or one for a channel that is requested with
-- the permission: under this ID, which was the next one, to the server, and with the bytes that request it.
abbrev pub IsAsked : ℕ → Purpose → ℕ → State → State → Type 0
IsAsked id p now s t = (request : Purpose) × IsListedFor request p × IsMade request (waits_from now s) s t × (id ≡ fresh_id s)

-- it was made by this input, between the states just before and just after it
abbrev pub IsRequestedByInput : ℕ → Purpose → Input → Type 0
IsRequestedByInput id p one = IsAsked id p one.time one.before (processed one).1

-- the call requests this itself, and made it
abbrev pub IsAskedItself : ℕ → Purpose → Call → State → Type 0
IsAskedItself id p call s =
    (request : Purpose) × (at : ℕ) × AsksFor call s request at × IsListedFor request p
    × (IsMade request at s (state_after call s) × (id ≡ fresh_id s))

-- the call made it, or an input that it processed
abbrev pub IsAskedInCall : ℕ → Purpose → Call → State → Type 0
IsAskedInCall id p call s = IsAskedItself id p call s ⊎ IsDoneBy (IsRequestedByInput id p) call s

-- one of these calls made it
pub record WasAsked (id : ℕ) (p : Purpose) (calls : List Call) (first : State) : Type 0 where
  pub earlier : List Call
  pub call : Call
  pub later : List Call
  pub split : calls ≡ earlier ++ call ∷ later
  pub asked : IsAskedInCall id p call (state_after_all first earlier)

-- an earlier call made it, or an earlier input of the same call
abbrev pub WasAskedBefore : ℕ → Purpose → List Call → State → List Input → Type 0
WasAskedBefore id p earlier first front = WasAsked id p earlier first ⊎ ((one : Input) × Contains front one × IsRequestedByInput id p one)

-- ---- a run

-- it holds in this state and after each of these calls
abbrev pub HoldsThrough : (State → Type 0) → List Call → State → Type 0
HoldsThrough P [] s = P s
HoldsThrough P (call ∷ calls) s = P s × HoldsThrough P calls (state_after call s)

-- An input of one of these calls answered a request for a purpose, and did this for it. Its request was
-- made before. The claim holds after that call and after each later one.
pub record IsAnsweredIn (Did : Purpose → Input → Type 0) (P : State → Type 0) (calls : List Call) (first : State) : Type 0 where
  pub earlier : List Call
  pub call : Call
  pub later : List Call
  pub split : calls ≡ earlier ++ call ∷ later
  pub front : List Input
  pub input : Input
  pub back : List Input
  pub cut : handled call (state_after_all first earlier) ≡ front ++ input ∷ back
  pub comes : ComesIn call input
  pub received : HasArrived (earlier ++ call ∷ []) first input
  pub purpose : Purpose
  pub did : Did purpose input
  pub asked : WasAskedBefore (id_of input.bytes) purpose earlier first front
  pub holds : HoldsThrough P later (state_after call (state_after_all first earlier))

-- An input of one of these calls granted it with the expiry that it has, and no later call removed it or
-- gave it another expiry.
abbrev pub IsGranted : Grant → List Call → State → Type 0
IsGranted g calls first = IsAnsweredIn (IsGranting g) (λ s. WasActive s g) calls first

-- ---- allocations

-- an allocation has this relayed address
abbrev pub IsRelayed : SocketAddr → State → Type 0
IsRelayed relayed s = (a : Relay) × Contains s.grants (Allocation a) × (a.relayed ≡ relayed)

-- the input granted an allocation with this address, in answer to an ALLOCATE, and no REFRESH
abbrev pub GrantsAddress : SocketAddr → Purpose → Input → Type 0
GrantsAddress relayed purpose one =
    (a : Relay) × IsGranting (Allocation a) purpose one × (a.relayed ≡ relayed) × (purpose ≡ ForAllocation)

-- An input of one of these calls, the success to an ALLOCATE, granted an allocation with this address, which
-- stands in it, and no later call removed it.
abbrev pub IsAllocated : SocketAddr → List Call → State → Type 0
IsAllocated relayed calls first = IsAnsweredIn (GrantsAddress relayed) (IsRelayed relayed) calls first

-- One of these calls, an accepted `delete`, ended it at the time of the call, after an input of an earlier
-- call had granted it. No later call removed it or gave it another expiry.
pub record IsDeletedBy (a : Relay) (calls : List Call) (first : State) : Type 0 where
  pub earlier : List Call
  pub now : ℕ
  pub later : List Call
  pub split : calls ≡ earlier ++ Delete now ∷ later
  pub accepted : (delete_step now (state_after_all first earlier)).0 ≡ Ok tt
  pub ends : a.expiry ≡ now
  pub allocated : IsAllocated a.relayed earlier first
  pub stands : HoldsThrough (λ s. WasActive s (Allocation a)) later (state_after (Delete now) (state_after_all first earlier))

-- ---- all grants

-- why it is active after these calls: an allocation has the address of the success to its ALLOCATE, and the
-- expiry of the last success to an ALLOCATE or a REFRESH, or of a `delete`
abbrev pub HasReply : Grant → List Call → State → Type 0
HasReply (Allocation a) calls first = (IsGranted (Allocation a) calls first ⊎ IsDeletedBy a calls first) × IsAllocated a.relayed calls first
HasReply g calls first = IsGranted g calls first

-- each grant of this kind that is active after any calls of a new client was granted in them
abbrev pub HaveReplies : (Grant → Type 0) → Type 0
HaveReplies Kind =
    (transport : TransportType) (local remote : SocketAddr) (config : Config) (seed : List ℕ) (calls : List Call) (g : Grant)
    → Kind g → Contains (state_after_all (initial transport local remote config seed) calls).grants g
    → HasReply g calls (initial transport local remote config seed)
