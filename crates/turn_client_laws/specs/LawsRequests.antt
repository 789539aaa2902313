-- Which requests a call makes, and for what they are listed (RFC 8656, sections 7 to 12; RFC 6062, section
-- 4).
use Rattle.std.specs.Prelude.{◌≡◌, ◌⊎◌, ℕ, ◌^◌, ◌≤◌, false, true, List, Some, flat_map, slice_get}
use Rattle.std.specs.List.{Contains}
use Rattle.std.specs.Net.Socket.{socket_ip}
use Rattle.turn_stun.specs.Message.{id_of}
use Rattle.turn_types.specs.declared.family.AddressFamily.{AddressFamily}
use Rattle.turn_agent.specs.Agent.{first_sent, is_due, is_timed_out, sent_again, waiting_from}
use Rattle.turn_agent.specs.declared.transaction.Transaction.{Transaction}
use Rattle.turn_client_api.specs.Config.{timers_of}
use Rattle.turn_client_api.specs.State.{State}
use Rattle.turn_client_api.specs.declared.state.Phase.TheVariants.{New, Requesting, Allocated}
use Rattle.turn_client_api.specs.declared.grant.Listing.{Listing}
use Rattle.turn_client_api.specs.declared.grant.Purpose.{Purpose}
use Rattle.turn_client_api.specs.declared.grant.Purpose.TheVariants.{ForAllocation, ForRefresh, ForPermission, ForChannel, ForConnect, ForBind}
use Rattle.turn_client_api.specs.Grants.{allocations, purposes_of}
use Rattle.turn_client_api.specs.Requests.{first_allocate, fresh_id, request_for, waits_from}
use Rattle.turn_client_api.specs.Calls.{free_number}
use Rattle.turn_client_api.specs.Transmit.{refreshes_in}
use Rattle.turn_client_laws.specs.Handled.{Input, processed}
use Rattle.turn_client_api.specs.Steps.{state_after}
use Rattle.turn_client_api.specs.declared.call.Call.{Call}
use Rattle.turn_client_api.specs.declared.call.Call.TheVariants.{Delete, CreatePermission, BindChannel, TcpConnect, AllocatedTcpSocket, Recv, PollRecv}
use Rattle.turn_client_api.specs.declared.call.Call.TheVariants.{PollTransmit}
use Rattle.turn_client_laws.specs.LawsHandled.{IsDoneBy}

-- These bytes request the purpose under this ID, with what the client holds. The first ALLOCATE is not
-- signed: the challenge comes in its response.
abbrev pub Spells : Purpose → ℕ → List ℕ → State → Type 0
Spells purpose id text t =
    (text ≡ request_for t purpose id) ⊎ ((purpose ≡ ForAllocation) × (t.phase ≡ Requesting) × (text ≡ first_allocate t id))

-- A request for the purpose was made between these two states, and waits from this time on: under the ID that was the
-- next one, to the server, and it is outstanding now.
pub record IsMade (purpose : Purpose) (now : ℕ) (s t : State) : Type 0 where
  pub text : List ℕ
  pub spelled : Spells purpose (fresh_id s) text t
  pub outstanding : Contains t.transactions (first_sent (fresh_id s) t.remote now text)

-- the transaction is that of this request
abbrev pub IsMadeAs : Purpose → ℕ → State → State → Transaction → Type 0
IsMadeAs purpose now s t x = (made : IsMade purpose now s t) × (x ≡ first_sent (fresh_id s) t.remote now made.text)

-- this request is listed so
abbrev pub IsListedAs : Purpose → ℕ → State → State → Listing → Type 0
IsListedAs purpose now s t l = IsMade purpose now s t × (l.id ≡ fresh_id s)

-- ---- what the caller requests, and what is to be refreshed

-- the call requests this, and waits from that time on
abbrev pub AsksFor : Call → State → Purpose → ℕ → Type 0
AsksFor (Delete now) s purpose at = (at ≡ waits_from now s) × ((family : AddressFamily) × (purpose ≡ ForRefresh family 0))
AsksFor (CreatePermission transport ip now) s purpose at = (at ≡ waits_from now s) × (purpose ≡ ForPermission ip)
AsksFor (BindChannel transport peer now) s purpose at =
    (at ≡ waits_from now s) × ((number : ℕ) × (free_number s ≡ Some number) × (purpose ≡ ForChannel number peer))
AsksFor (TcpConnect peer now) s purpose at = (at ≡ waits_from now s) × (purpose ≡ ForConnect peer)
AsksFor (AllocatedTcpSocket id tuple peer (Some local) now) s purpose at = (at ≡ waits_from now s) × (purpose ≡ ForBind local peer id)
AsksFor (PollTransmit now) s purpose at =
    (at ≡ now)
    × (((s.phase ≡ New) × (purpose ≡ ForAllocation))
    ⊎ ((s.phase ≡ Allocated) × (slice_get (flat_map (refreshes_in now s) (allocations s)) 0 ≡ Some purpose)))
AsksFor _ s purpose at = ⊥

-- a request for the first is listed for the second: a channel is requested with a permission
abbrev pub IsListedFor : Purpose → Purpose → Type 0
IsListedFor purpose other = (other ≡ purpose) ⊎ brings purpose other
  where
    brings : Purpose → Purpose → Type 0
    brings (ForChannel number peer) (ForPermission ip) = ip ≡ socket_ip peer
    brings _ _ = ⊥

-- a request that was outstanding was retransmitted, with the same bytes, or if the client is set so its waits began
abbrev pub IsSentAgain : Call → State → Transaction → Type 0
IsSentAgain (PollTransmit now) s x =
    (was : Transaction) × Contains s.transactions was
    × ((x ≡ sent_again now was) ⊎ ((s.config.timed_from_send ≡ true) × (x ≡ waiting_from now was)))
IsSentAgain _ s x = ⊥

-- A request of a client that is set so, which waits from no time that comes before its first copy is given out: it is neither
-- retransmitted now nor timed out.
abbrev pub WaitsForItsTurn : ℕ → ℕ → State → Transaction → Type 0
WaitsForItsTurn made now s x =
    s.config.timed_from_send ≡ true → x.last_send ≡ waits_from made s → now ≤ 2 ^ 62
    → (is_due (timers_of s.config) s.transport now x ≡ false) × (is_timed_out (timers_of s.config) s.transport now x ≡ false)

-- ---- what is made again in answer to a message

-- the message answers a request that was made for this
abbrev pub IsAnswer : List ℕ → State → Purpose → Type 0
IsAnswer message s purpose = Contains (purposes_of (id_of message) s) purpose

abbrev pub IsMadeAgain : List ℕ → ℕ → State → State → Transaction → Type 0
IsMadeAgain message now s t x = (purpose : Purpose) × IsAnswer message s purpose × IsMadeAs purpose (waits_from now s) s t x

-- the new request is listed so, for something that the old one was listed for
abbrev pub IsListedAgain : List ℕ → ℕ → State → State → Listing → Type 0
IsListedAgain message now s t l =
    (purpose : Purpose) × IsAnswer message s purpose × IsAnswer message s l.purpose × IsListedAs purpose (waits_from now s) s t l

abbrev pub IsMadeByInput : Transaction → Input → Type 0
IsMadeByInput x one = IsMadeAgain one.bytes one.time one.before (processed one).1 x

abbrev pub IsListedByInput : Listing → Input → Type 0
IsListedByInput l one = IsListedAgain one.bytes one.time one.before (processed one).1 l

-- ---- a call

-- the call made the request, or retransmitted it
abbrev pub IsRequestOf : Call → State → Transaction → Type 0
IsRequestOf (Recv packet now) s x = IsDoneBy (IsMadeByInput x) (Recv packet now) s
IsRequestOf (PollRecv now) s x = IsDoneBy (IsMadeByInput x) (PollRecv now) s
IsRequestOf call s x =
    IsSentAgain call s x ⊎ ((purpose : Purpose) × (at : ℕ) × AsksFor call s purpose at × IsMadeAs purpose at s (state_after call s) x)

-- the call made the request that is listed so
abbrev pub IsListingOf : Call → State → Listing → Type 0
IsListingOf (Recv packet now) s l = IsDoneBy (IsListedByInput l) (Recv packet now) s
IsListingOf (PollRecv now) s l = IsDoneBy (IsListedByInput l) (PollRecv now) s
IsListingOf call s l =
    (purpose : Purpose) × (at : ℕ) × AsksFor call s purpose at × IsListedFor purpose l.purpose
    × IsListedAs purpose at s (state_after call s) l

-- it was outstanding before, or the call made it
abbrev pub IsOldOrMade : Call → State → Transaction → Type 0
IsOldOrMade call s x = Contains s.transactions x ⊎ IsRequestOf call s x
