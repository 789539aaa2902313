-- The edits of which all calls and messages are made. A relation that holds for each of them holds for each
-- call: a new law of what calls keep is one record.
use Rattle.turn_client_laws.proofs.Common.{arith, ◌≡◌, ℕ, Bool, true, false, List, [], ◌∷◌, ◌++◌, map, filter, length, Some, None, ◌⊎◌, ◌<◌, ◌≤◌, ◌+◌, ◌∙◌, sym, ap, refl, IsSome, ⊤, list_any, IpAddr}
use Rattle.turn_client_laws.proofs.Common.{SocketAddr}
use Rattle.turn_client_laws.proofs.Machine.{AddressFamily, IPV6, Challenge, resent, waits_begun, State, New, Requesting, Authenticating, Allocated, Closed, Grant, Allocation, Permission, Channel, Connect, Offer}
use Rattle.turn_client_laws.proofs.Machine.{Connection, DataConnection, Relay, Progress, Pending, Active, Reserved, Origin, OwnConnect, ServerIndication, Purpose, ForAllocation, ForConnect, Listing}
use Rattle.turn_client_laws.proofs.Machine.{Queued, Stream, family_of, family_of_ip, is_channel_of, is_connect_to, is_connection_from, is_of, is_permission_of, permission_state, purposes_of}
use Rattle.turn_client_laws.proofs.Machine.{with_grant, without_grants, request_started, first_allocate, request_for, challenge_in, challenges_reset, transaction_ended, new_allocation, phase_with}
use Rattle.turn_client_laws.proofs.Machine.{relayed_in, taken_addresses, with_offer, phase_after, with_held, channel_numbers, offer_origin, offer_taken, is_connecting, is_indicated, max_indicated}
use Rattle.turn_client_laws.proofs.Machine.{sent, Has, Lease}
use Rattle.turn_client_laws.specs.LawsOrder.{IsBegun, IsUngranted}
use Rattle.turn_client_laws.specs.LawsStates.{is_asked_by}
use Rattle.turn_client_laws.proofs.InAllocationLemmas.{Room}

-- ---- what identifies an edit

-- the progress of a grant, without times and whether it is kept
abbrev pub stage : Progress → Progress
stage (Pending is_kept) = Pending true
stage (Active lease) = Active (record { expiry = 0; is_kept = true })
stage (Reserved until) = Reserved 0

-- what never changes of a grant, without times, whether it is kept and whether it was reported
abbrev pub outline : Grant → Grant
outline (Allocation a) = Allocation (record { relayed = a.relayed; first_lifetime = 0; expiry = 0; is_expired = false })
outline (Permission ip progress) = Permission ip (stage progress)
outline (Channel number peer progress) = Channel number peer (stage progress)
outline (Connect peer) = Connect peer
outline (Offer offer) = Offer (record offer { is_reported = false })
outline (Connection c) = Connection (record c { deadline = None })

-- a permission or a channel, as if it were kept
abbrev pub as_kept : Progress → Progress
as_kept (Pending is_kept) = Pending true
as_kept (Active lease) = Active (record lease { is_kept = true })
as_kept (Reserved until) = Reserved until

-- a grant without whether it was reported, and whether it is kept
abbrev pub aged : Grant → Grant
aged (Allocation a) = Allocation (record a { is_expired = false })
aged (Permission ip progress) = Permission ip (as_kept progress)
aged (Channel number peer progress) = Channel number peer (as_kept progress)
aged (Offer offer) = Offer (record offer { is_reported = false })
aged grant = grant

-- grants of this kind are no allocations
abbrev pub SparesAllocations : (Grant → Bool) → Type 0
SparesAllocations which = (a : Relay) → which (Allocation a) ≡ false

-- all allocations still exist
abbrev pub AllocationsStay : State → State → Type 0
AllocationsStay s t = (a : Relay) → Has (Allocation a) s.grants → Has (Allocation a) t.grants

-- A request may be listed for this: it is for an allocation, a grant that it is for exists, or one is
-- listed for it already.
abbrev pub IsAskable : State → Purpose → Type 0
IsAskable s p =
    (p ≡ ForAllocation) ⊎ ((list_any (is_asked_by p) s.grants ≡ true)
    ⊎ ((l : Listing) × Has l s.listed × (l.purpose ≡ p)))

abbrev pub listing : ℕ → Purpose → Listing
listing id p = record { id = id; purpose = p }

-- no ALLOCATE is listed
abbrev pub IsUnlisted : State → Type 0
IsUnlisted s = (id : ℕ) → Has (listing id ForAllocation) s.listed → ⊥

-- These families may be requested from now on: IPv6 alone in place of two, if no ALLOCATE is listed, and
-- any once the server allocated or the client ended.
abbrev pub MayAskFor : List AddressFamily → State → Type 0
MayAskFor families s = (IsUngranted s.phase → ⊥) ⊎ ((families ≡ IPV6 ∷ []) × (2 ≤ length s.families) × IsUnlisted s)

-- ---- the bytes of a request under this ID, which is listed for these purposes

-- once the server allocated, it is no ALLOCATE
abbrev pub AsksElse : List Purpose → State → Type 0
AsksElse purposes s = (s.phase ≡ Allocated) × ((p : Purpose) → Has p purposes → p ≡ ForAllocation → ⊥)

-- before, it is one for the requested families
abbrev pub AsksToAllocate : ℕ → List ℕ → List Purpose → State → Type 0
AsksToAllocate id text purposes s =
    IsUngranted s.phase × ((p : Purpose) → Has p purposes → p ≡ ForAllocation)
    × ((text ≡ first_allocate s id) ⊎ (text ≡ request_for s ForAllocation id))

-- it is made again, for one of the purposes, all of which are listed already
abbrev pub AsksAgain : ℕ → List ℕ → List Purpose → State → Type 0
AsksAgain id text purposes s =
    ((p : Purpose) → Has p purposes → (l : Listing) × Has l s.listed × (l.purpose ≡ p))
    × ((p : Purpose) × Has p purposes × (text ≡ request_for s p id))

abbrev pub IsSpelled : ℕ → List ℕ → List Purpose → State → Type 0
IsSpelled id text purposes s = AsksElse purposes s ⊎ (AsksToAllocate id text purposes s ⊎ AsksAgain id text purposes s)

-- ---- packets to send

-- the client is not new, or a packet or a request is queued
abbrev pub HasToSend : State → Type 0
HasToSend s = s.phase ≡ New → s.queue ≡ [] → s.transactions ≡ [] → ⊥

-- ---- what calls are made of

-- what leaves the grants as they are, and what is listed
pub record KeepsRest (R : State → State → Type 0) : Type 0 where
  pub same : (s : State) → R s s
  pub trans : (s t u : State) → R s t → R t u → R s u
  -- the queues for the caller, and the next IDs: all as in any other state
  pub aside : (s t : State) → R s (record s { ids = t.ids; events = t.events; closes = t.closes })
  -- a client that has begun has packets to send, and fewer packets stay queued
  pub queues : (queue : List Queued) (s : State) → IsBegun s.phase → R s (record s { queue = queue })
  pub dequeues : (queue : List Queued) (s : State) → ((q : Queued) → Has q queue → Has q s.queue) → R s (record s { queue = queue })
  pub families : (families : List AddressFamily) (s : State) → MayAskFor families s → R s (record s { families = families })
  -- a queued packet is sent, or retransmitted; so is a request of the client that is not new
  pub sends : (now : ℕ) (s : State) → HasToSend s → R s (sent now s)
  pub begins : (now : ℕ) (s : State) → s.phase ≡ New → R s (sent now (record s { phase = Requesting }))
  pub ends : (s : State) → IsUnlisted s → R s (record s { phase = Closed })
  -- requests end, and are retransmitted
  pub finishes : (id : ℕ) (s : State) → R s (transaction_ended id s)
  pub resends : (id now : ℕ) (s : State) → R s (record s { transactions = resent id now s.transactions })
  -- the waits of one begin once its first copy is given out
  pub starts : (id now : ℕ) (s : State) → R s (record s { transactions = waits_begun id now s.transactions })

pub record KeepsEdits (R : State → State → Type 0) : Type 0 where
  pub rest : KeepsRest R
  pub open rest use *
  -- requests
  pub asks : (id : ℕ) (text : List ℕ) (purposes : List Purpose) (now : ℕ) (s : State) → IsBegun s.phase → ((p : Purpose) → Has p purposes → IsAskable s p) → IsSpelled id text purposes s
      → R s (request_started id text purposes now s)
  pub unlists : (which : Listing → Bool) (s : State) → R s (record s { listed = filter which s.listed })
  -- grants are removed, with the requests that are listed for them
  pub removes : (which : Grant → Bool) (s : State) → SparesAllocations which → R s (without_grants which s)
  pub removes_family : (family : AddressFamily) (s : State) → R s (without_grants (is_of family) s)
  pub takes_offer : (id : ℕ) (peer : SocketAddr) (s : State) → R s (offer_taken id peer s)
  -- offers are reported, allocations expire, and the caller says what is kept
  pub ages : (grants : List Grant) (s : State) → map aged grants ≡ map aged s.grants → R s (record s { grants = grants })
  -- what a caller requests is added
  pub permission : (ip : IpAddr) (s : State) → s.phase ≡ Allocated → Room s.grants (family_of_ip ip) → list_any (is_permission_of ip) s.grants ≡ false
      → R s (with_grant (Permission ip (Pending true)) s)
  pub channel : (number : ℕ) (peer : SocketAddr) (s : State) → s.phase ≡ Allocated → Room s.grants (family_of peer) → list_any (is_channel_of number) s.grants ≡ false
      → Has number channel_numbers → R s (with_grant (Channel number peer (Pending true)) s)
  pub connect : (peer : SocketAddr) (s : State) → s.phase ≡ Allocated → Room s.grants (family_of peer) → is_connecting peer s ≡ false
      → R s (with_grant (Connect peer) s)
  pub connection : (id : ℕ) (c : DataConnection) (origin : Origin) (s : State) → s.phase ≡ Allocated → offer_origin id c.peer s ≡ Some origin
      → list_any (is_connection_from c.local) s.grants ≡ false → IsSome c.deadline → R s (with_grant (Connection c) (offer_taken id c.peer s))
  -- a channel that expires is reserved, in place of those of its number
  pub reserves : (number : ℕ) (peer : SocketAddr) (was : Progress) (until : ℕ) (s : State) → Has (Channel number peer was) s.grants
      → R s (with_grant (Channel number peer (Reserved until)) (without_grants (is_channel_of number) s))

-- ---- what messages are made of, too

-- where the count of challenges may begin anew, this holds of the message
pub record KeepsAccepted (HasAccepted : Type 0) (R : State → State → Type 0) : Type 0 where
  pub edits : KeepsEdits R
  -- grants are extended, and end
  pub reshapes : (grants : List Grant) (s : State) → map outline grants ≡ map outline s.grants → R s (record s { grants = grants })
  -- a channel takes the place of those of its number
  pub rebinds : (number : ℕ) (peer : SocketAddr) (was progress : Progress) (s : State) → Has (Channel number peer was) s.grants
      → R s (with_grant (Channel number peer progress) (without_grants (is_channel_of number) s))
  -- challenges
  pub holds : (message : List ℕ) (d : Challenge) (s : State) → challenge_in s message ≡ Some d → R s (with_held d s)
  pub counts : (s : State) → IsSome s.held → s.challenges < s.config.max_stale_nonces → R s (record s { phase = phase_after s.phase; challenges = s.challenges + 1 })
  pub resets : HasAccepted → (s : State) → R s (challenges_reset s)
  -- all grants are removed
  pub empties : (s : State) → R s (without_grants (λ g. true) s)
  -- the server allocates
  pub allocates : (message : List ℕ) (lifetime now : ℕ) (s : State) → s.phase ≡ Authenticating → IsUnlisted s
      → let addresses = taken_addresses s.families (relayed_in message) in
      R s (record s { phase = phase_with addresses; grants = s.grants ++ map (new_allocation lifetime now) addresses })
  -- what was requested is granted
  pub permits : (ip : IpAddr) (is_kept : Bool) (expiry : Lease) (s : State) → permission_state ip s ≡ Some (Pending is_kept)
      → R s (with_grant (Permission ip (Active expiry)) (without_grants (is_permission_of ip) s))
  -- this follows from a request that was listed when its reply was received, and no allocation was removed
  -- since
  pub connects : (id connection_id : ℕ) (peer : SocketAddr) (s t : State) → R s t → AllocationsStay s t → (IsUngranted s.phase → ⊥) → Has (ForConnect peer) (purposes_of id s)
      → R s (with_offer connection_id peer OwnConnect (without_grants (is_connect_to peer) t))
  -- the server requests a connection
  pub offers : (id : ℕ) (peer : SocketAddr) (origin : Origin) (s : State) → Room s.grants (family_of peer)
      → (origin ≡ ServerIndication → length (filter is_indicated s.grants) < max_indicated) → R s (with_offer id peer origin s)

-- where nothing else counts
pub rest-ignored : (R : State → State → Type 0) → ((s t : State) → R s (record t { grants = s.grants; listed = s.listed })) → ((s t u : State) → R s t → R t u → R s u) → KeepsRest R
rest-ignored R ignores trans = record {
  same = λ s. ignores s s;
  trans = trans;
  aside = λ s t. ignores s (record s { ids = t.ids; events = t.events; closes = t.closes });
  queues = λ queue s begun. ignores s (record s { queue = queue });
  dequeues = λ queue s fewer. ignores s (record s { queue = queue });
  families = λ families s may. ignores s (record s { families = families });
  sends = λ now s waits. ignores s (sent now s);
  begins = λ now s new. ignores s (sent now (record s { phase = Requesting }));
  ends = λ s none. ignores s (record s { phase = Closed });
  finishes = λ id s. ignores s (transaction_ended id s);
  resends = λ id now s. ignores s (record s { transactions = resent id now s.transactions });
  starts = λ id now s. ignores s (record s { transactions = waits_begun id now s.transactions });
}

-- streams do not count
abbrev pub IgnoresAll : (State → State → Type 0) → Type 0
IgnoresAll R = (s : State) (streams : List Stream) → R s (record s { streams = streams })

-- of each message
abbrev pub KeepsAllEdits : (State → State → Type 0) → Type 0
KeepsAllEdits R = KeepsAccepted ⊤ R

-- ---- outlines

outline-aged : (g : Grant) → outline (aged g) ≡ outline g
outline-aged g = grind arith

outlines-aged : (gs : List Grant) → map outline (map aged gs) ≡ map outline gs
outlines-aged [] = refl
outlines-aged (g ∷ gs) = rw (outline-aged g, outlines-aged gs) refl

-- what is the same apart from being reported has one outline
pub aged-outlines : (gs hs : List Grant) → map aged gs ≡ map aged hs → map outline gs ≡ map outline hs
aged-outlines gs hs e = sym (outlines-aged gs) ∙ (ap (map outline) e ∙ outlines-aged hs)
