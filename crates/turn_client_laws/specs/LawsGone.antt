-- Which call removes a grant, by its kind (RFC 8656, sections 7 to 12; RFC 6062, section 4).
use Rattle.std.specs.Prelude.{◌≡◌, ◌⊎◌, ◌<◌, ◌≤◌, ℕ, true, false, List, None, Some, Option, IsSome, option_map}
use Rattle.std.specs.List.{Contains}
use Rattle.turn_agent.specs.Agent.{timed_out_transaction}
use Rattle.turn_agent.specs.declared.transaction.Transaction.{Transaction}
use Rattle.turn_client_api.specs.State.{State}
use Rattle.turn_client_api.specs.declared.grant.Grant.{Grant}
use Rattle.turn_client_api.specs.declared.grant.Grant.TheVariants.{Allocation, Permission, Channel, Connect, Offer, Connection}
use Rattle.turn_client_api.specs.declared.grant.Progress.{Progress}
use Rattle.turn_client_api.specs.declared.grant.Progress.TheVariants.{Pending, Active, Reserved}
use Rattle.turn_client_api.specs.declared.grant.Relay.{Relay}
use Rattle.turn_client_api.specs.declared.grant.Purpose.{Purpose}
use Rattle.turn_client_api.specs.State.{agent_of, later_by}
use Rattle.turn_client_api.specs.declared.grant.Purpose.TheVariants.{ForRefresh}
use Rattle.turn_client_api.specs.declared.state.Stream.{Stream}
use Rattle.turn_client_api.specs.declared.state.Mode.TheVariants.{Waiting}
use Rattle.turn_client_api.specs.declared.state.Phase.TheVariants.{Allocated}
use Rattle.turn_client_api.specs.Grants.{family_of, family_of_grant, is_connection_from, is_for, is_for_any, is_of_request, purposes_of}
use Rattle.turn_client_api.specs.Effect.{reserved_time}
use Rattle.turn_client_api.specs.Judgement.{judgement_of}
use Rattle.turn_client_api.specs.Calls.{is_granted_in, is_offer_of}
use Rattle.turn_client_laws.specs.Handled.{Input}
use Rattle.turn_client_api.specs.Steps.{state_after}
use Rattle.turn_client_api.specs.declared.call.Call.{Call}
use Rattle.turn_client_api.specs.declared.call.Call.TheVariants.{Delete, AllocatedTcpSocket, TcpClosed, Recv, PollRecv, Poll}
use Rattle.turn_client_laws.specs.LawsHandled.{IsDoneBy, IsStreamEnd}
use Rattle.turn_client_api.specs.Due.{expiry_times}
use Rattle.turn_client_laws.specs.LawsReplies.{IsAccepted}
use Rattle.turn_client_laws.specs.LawsRequests.{IsAnswer}

-- whether it is pending, active or reserved
abbrev pub stage_of : Progress → Progress
stage_of (Pending is_kept) = Pending true
stage_of (Active lease) = Active (record { expiry = 0; is_kept = true })
stage_of (Reserved until) = Reserved 0

-- the grant without what may change of it: its times, whether it is kept, and whether it was reported
abbrev pub grant_identity : Grant → Grant
grant_identity (Allocation a) = Allocation (record { relayed = a.relayed; first_lifetime = 0; expiry = 0; is_expired = false })
grant_identity (Permission ip progress) = Permission ip (stage_of progress)
grant_identity (Channel number peer progress) = Channel number peer (stage_of progress)
grant_identity (Connect peer) = Connect peer
grant_identity (Offer offer) = Offer (record offer { is_reported = false })
grant_identity (Connection c) = Connection (record c { deadline = option_map (λ deadline. 0) c.deadline })

-- it exists, as far as it was: pending, active or reserved, a data connection bound or not
abbrev pub IsStillThere : State → Grant → Type 0
IsStillThere s g = (is : Grant) × Contains s.grants is × (grant_identity g ≡ grant_identity is)

-- ---- by a message

abbrev pub GivesBack : Purpose → Type 0
GivesBack (ForRefresh family lifetime) = lifetime ≡ 0
GivesBack _ = ⊥

-- The message is a signed reply to an outstanding request that was made for the grant, or to delete all
-- allocations.
abbrev pub IsTakenByReply : List ℕ → State → Grant → Type 0
IsTakenByReply message s g =
    IsAccepted (judgement_of s message)
    × ((purpose : Purpose) × IsAnswer message s purpose × ((is_for purpose g ≡ true) ⊎ GivesBack purpose))

-- the message came over the connection from this local address, which waited to be bound
abbrev pub IsOverItself : Option Stream → Grant → Type 0
IsOverItself (Some stream) g = (stream.mode ≡ Waiting) × (is_connection_from stream.local g ≡ true)
IsOverItself None g = ⊥

abbrev pub IsRemovedByInput : Grant → Input → Type 0
IsRemovedByInput g one = IsTakenByReply one.bytes one.before g ⊎ IsOverItself one.stream g

-- the server closed the stream of the connection
abbrev pub IsClosedWith : Call → State → Grant → Type 0
IsClosedWith call s g = (end : IsStreamEnd call s (state_after call s)) × (is_connection_from end.local g ≡ true)

-- ---- as time passes

-- a transaction times out, or the earliest time at which a grant expires has come
abbrev pub IsTimeUp : ℕ → State → Type 0
IsTimeUp now s =
    IsSome (timed_out_transaction (agent_of s) now)
    ⊎ ((s.phase ≡ Allocated) × ((time : ℕ) × Contains (expiry_times s) time × (time ≤ now)))

-- the request that times out now was made for the grant
abbrev pub IsGivenUp : ℕ → State → Grant → Type 0
IsGivenUp now s g =
    (x : Transaction) × (timed_out_transaction (agent_of s) now ≡ Some x) × (is_for_any (purposes_of x.id s) g ≡ true)

-- It has expired, or the request for it timed out. A channel that expires is reserved for a while and
-- exists so long, and an offer is removed with the server's request for it.
abbrev pub HasExpiredOrFailed : ℕ → State → Grant → Type 0
HasExpiredOrFailed now s (Permission ip (Active lease)) = lease.expiry ≤ now
HasExpiredOrFailed now s (Permission ip (Pending is_kept)) = IsGivenUp now s (Permission ip (Pending is_kept))
HasExpiredOrFailed now s (Channel number peer (Active lease)) = later_by reserved_time lease.expiry < now
HasExpiredOrFailed now s (Channel number peer (Reserved until)) = until < now
HasExpiredOrFailed now s (Channel number peer (Pending is_kept)) = IsGivenUp now s (Channel number peer (Pending is_kept))
HasExpiredOrFailed now s (Connect peer) = IsGivenUp now s (Connect peer)
HasExpiredOrFailed now s (Offer offer) =
    (x : Transaction) × (timed_out_transaction (agent_of s) now ≡ Some x) × (is_of_request x.id (Offer offer) ≡ true)
HasExpiredOrFailed now s (Connection c) =
    (deadline : ℕ) × (c.deadline ≡ Some deadline) × ((deadline ≤ now) ⊎ IsGivenUp now s (Connection c))
HasExpiredOrFailed now s _ = ⊥

-- an allocation whose expiry has passed is removed with all grants in it
abbrev pub IsPastWith : ℕ → State → Grant → Type 0
IsPastWith now s g =
    (a : Relay) × Contains s.grants (Allocation a) × (family_of_grant g ≡ family_of a.relayed) × (a.expiry ≤ now)

-- the grant has expired, or its allocation
abbrev pub IsOver : ℕ → State → Grant → Type 0
IsOver now s g = (s.phase ≡ Allocated) × (HasExpiredOrFailed now s g ⊎ IsPastWith now s g)

-- it was an active channel, whose expiry has passed, and which is reserved now
abbrev pub IsNowReserved : ℕ → State → Grant → Type 0
IsNowReserved now t (Channel number peer (Active lease)) =
    (lease.expiry ≤ now) × Contains t.grants (Channel number peer (Reserved (later_by reserved_time lease.expiry)))
IsNowReserved now t _ = ⊥

-- it exists after the `poll`, or has expired
abbrev pub IsThereOrOver : ℕ → State → State → Grant → Type 0
IsThereOrOver now s t g = IsStillThere t g ⊎ IsNowReserved now t g ⊎ IsOver now s g

-- ---- by a call

abbrev pub IsTakenBy : Call → State → Grant → Type 0
IsTakenBy (Delete now) s g = is_granted_in g ≡ true
IsTakenBy (AllocatedTcpSocket id tuple peer local now) s g = is_offer_of id peer g ≡ true
IsTakenBy (TcpClosed local remote now) s g = is_connection_from local g ≡ true
IsTakenBy (Recv packet now) s g = IsDoneBy (IsRemovedByInput g) (Recv packet now) s ⊎ IsClosedWith (Recv packet now) s g
IsTakenBy (PollRecv now) s g = IsDoneBy (IsRemovedByInput g) (PollRecv now) s
IsTakenBy (Poll now) s g = IsTimeUp now s
IsTakenBy _ s g = ⊥
