-- No grant is lost while the server answers and the caller sends what is due (RFC 8656, sections 8, 9 and 12).
use Rattle.std.specs.Prelude.{◌≡◌, ◌⊎◌, ℕ, ◌+◌, ◌*◌, ◌/◌, ◌^◌, ◌<◌, ◌≤◌, min, true, false, if◌then◌else◌, List, [], ◌∷◌, ◌++◌}
use Rattle.std.specs.Prelude.{length}
use Rattle.std.specs.Prelude.{IfSome, IsSome, IsSomeAnd, All, ⊤}
use Rattle.std.specs.List.{Contains}
use Rattle.turn_stun.specs.Message.{id_of}
use Rattle.turn_stun.specs.declared.message.header.MessageClass.TheVariants.{Error, Success}
use Rattle.turn_stun.specs.declared.transport.TransportType.TheVariants.{Udp}
use Rattle.turn_stun.specs.declared.transport.Transmit.{Transmit}
use Rattle.turn_auth.specs.Validation.{IsValidated, validation_of}
use Rattle.turn_agent.specs.Agent.{is_outstanding}
use Rattle.turn_client_api.specs.Config.{timers_of}
use Rattle.turn_client_api.specs.State.{State, auth_of, seconds}
use Rattle.turn_client_api.specs.declared.state.Phase.TheVariants.{Allocated}
use Rattle.turn_client_api.specs.declared.grant.Grant.{Grant}
use Rattle.turn_client_api.specs.declared.grant.Grant.TheVariants.{Allocation, Permission, Channel}
use Rattle.turn_client_api.specs.declared.grant.Progress.TheVariants.{Active, Pending}
use Rattle.turn_client_api.specs.declared.grant.Purpose.{Purpose}
use Rattle.turn_client_api.specs.declared.grant.Purpose.TheVariants.{ForRefresh}
use Rattle.turn_client_api.specs.Grants.{purposes_of}
use Rattle.turn_client_api.specs.Requests.{method_for}
use Rattle.turn_client_api.specs.Judgement.{challenge_in, class_in, lifetime_in, method_in}
use Rattle.turn_client_api.specs.Alarm.{AllHaveAllocation}
use Rattle.turn_client_api.specs.Steps.{state_after, state_after_all}
use Rattle.turn_client_api.specs.Payloads.{message_step}
use Rattle.turn_client_api.specs.declared.call.Call.{Call}
use Rattle.turn_client_api.specs.declared.call.Call.TheVariants.{CreatePermission, BindChannel, SendTo, Recv, Poll, PollTransmit, PollEvent}
use Rattle.turn_client_api.specs.declared.call.Call.TheVariants.{SetChannelKept, SetPermissionKept}
use Rattle.turn_client_laws.specs.LawsDoubles.{HasNoDoubles}
use Rattle.turn_client_runs.specs.History.{History, IsKeptBy, IsSeldom, all_waits, no_history, with_call}
use Rattle.turn_client_runs.specs.OnTime.{IsFromServer, IsOnTime, time_of, time_of_all}

-- ---- grants in force

-- the server granted it, it has not expired, and it is kept: the caller did not let it go
abbrev pub IsInForce : ℕ → Grant → Type 0
IsInForce now (Allocation a) = (a.is_expired ≡ false) × (now < a.expiry)
IsInForce now (Permission ip (Active lease)) = (lease.is_kept ≡ true) × (now < lease.expiry)
IsInForce now (Channel number peer (Active lease)) = (lease.is_kept ≡ true) × (now < lease.expiry)
IsInForce now _ = ⊥

-- when it expires
abbrev pub expiry_of : Grant → ℕ
expiry_of (Allocation a) = a.expiry
expiry_of (Permission ip (Active lease)) = lease.expiry
expiry_of (Channel number peer (Active lease)) = lease.expiry
expiry_of _ = 0

-- So long before its expiry it is to be refreshed, if this long ahead was configured. Other numbers of ours are
-- written out here, so that a machine with worse ones is refused.
abbrev pub ahead_of : ℕ → Grant → ℕ
ahead_of ahead (Allocation a) = min ahead (min a.first_lifetime (seconds 600) / 2)
ahead_of ahead (Channel number peer progress) = min ahead (seconds 300)
ahead_of ahead _ = min ahead (seconds 150)

-- the grant with another expiry
abbrev pub with_expiry : ℕ → Grant → Grant
with_expiry expiry (Allocation a) = Allocation (record a { expiry = expiry })
with_expiry expiry (Permission ip (Active was)) = Permission ip (Active (record was { expiry = expiry }))
with_expiry expiry (Channel number peer (Active was)) = Channel number peer (Active (record was { expiry = expiry }))
with_expiry expiry grant = grant

-- what a permission or channel that is requested becomes
abbrev pub as_granted : Grant → Grant
as_granted (Permission ip (Pending is_kept)) = Permission ip (Active (record { expiry = 0; is_kept = is_kept }))
as_granted (Channel number peer (Pending is_kept)) = Channel number peer (Active (record { expiry = 0; is_kept = is_kept }))
as_granted grant = with_expiry 0 grant

-- a permission or a channel was requested, is not granted yet, and is kept
abbrev pub IsRequested : Grant → Type 0
IsRequested (Permission ip (Pending is_kept)) = is_kept ≡ true
IsRequested (Channel number peer (Pending is_kept)) = is_kept ≡ true
IsRequested _ = ⊥

-- the client has the grant, or what was requested, maybe with another expiry, and it is in force at this time
abbrev pub HasStill : Grant → ℕ → State → Type 0
HasStill g now s = (h : Grant) × Contains s.grants h × (with_expiry 0 h ≡ as_granted g) × IsInForce now h

-- ---- where it begins

-- If so many grants are to be refreshed at one time, so many requests leave before them, and so many packets are
-- extra, one packet leaves in each pause. The last one leaves this long after that time, and its reply comes within the
-- delay: that is before the grant expires, which is refreshed so long ahead.
abbrev pub HasRoom : ℕ → ℕ → ℕ → ℕ → ℕ → ℕ → Type 0
HasRoom count slots extras cadence delay ahead = (count + slots + extras) * cadence + delay < ahead

-- How many packets leave before a refresh that is due: those that are queued, or none if requests wait from their first copies
-- on. So a burst needs no room then, however many requests are queued.
abbrev pub queue_ahead : State → ℕ
queue_ahead s = if s.config.timed_from_send then 0 else length s.queue

-- the client has no more grants, and no more packets that leave before a refresh
abbrev pub HoldsAtMost : ℕ → ℕ → State → Type 0
HoldsAtMost count slots s = (length s.grants ≤ count) × (queue_ahead s ≤ slots)

-- A client that has allocations, permissions and channels in force, awaits nothing and has nothing to send. No
-- refresh is late, there is room for all of them, and a reply that comes within the delay comes before its
-- request times out. Each grant has its allocation, and none is double, as in all runs
-- (`grants_have_allocations`, `grants_are_distinct`).
pub record IsSteady (count slots extras delay now : ℕ) (s : State) : Type 0 where
  pub allocated : s.phase ≡ Allocated
  pub none_queued : s.queue ≡ []
  pub none_outstanding : s.transactions ≡ []
  pub none_listed : s.listed ≡ []
  pub sent_before : IfSome s.last_send (λ time. time ≤ now)
  pub in_force : All (IsInForce now) s.grants
  pub none_late : All (λ g. now + ahead_of s.config.refresh_ahead g ≤ expiry_of g) s.grants
  pub room : All (λ g. HasRoom count slots extras s.config.request_cadence delay (ahead_of s.config.refresh_ahead g)) s.grants
  pub room_for_more : HasRoom count slots extras s.config.request_cadence delay (min s.config.refresh_ahead (seconds 150))
  pub within : HoldsAtMost count slots s
  pub distinct : HasNoDoubles s
  pub in_allocations : AllHaveAllocation s
  pub prompt : delay < all_waits (timers_of s.config) s.transport
  pub in_range : now ≤ 2 ^ 62

-- ---- the server

-- The message grants what is requested for this purpose: it is of the request's method, and in reply to a REFRESH
-- it prolongs the allocation by the default of 600 s or more (RFC 8656, section 7.2).
abbrev pub Grants : List ℕ → Purpose → Type 0
Grants message purpose = (method_in message ≡ method_for purpose) × lasts purpose
  where
    lasts : Purpose → Type 0
    lasts (ForRefresh family lifetime) = IsSomeAnd (lifetime_in message) (λ n. 600 ≤ n)
    lasts _ = ⊤

-- the message grants what was requested, which is the first of these; a channel brings the permission of its
-- peer, which is the other (RFC 8656, section 12)
abbrev pub Answers : List ℕ → List Purpose → Type 0
Answers message [] = ⊤
Answers message (purpose ∷ others) = Grants message purpose

-- the packet is processed as one message, and nothing that was received before it is
abbrev pub IsOneMessage : Transmit (List ℕ) → ℕ → State → Type 0
IsOneMessage packet now s = state_after (Recv packet now) s ≡ (message_step packet.payload now s).1

-- The packet is a signed success, which grants what an outstanding request requests (RFC 8489, section 9.2.5).
pub record IsSuccess (packet : Transmit (List ℕ)) (now : ℕ) (s : State) : Type 0 where
  pub message : IsOneMessage packet now s
  pub success : class_in packet.payload ≡ Success
  pub signed : IsValidated (validation_of (auth_of s) packet.payload)
  pub outstanding : is_outstanding (id_of packet.payload) s.transactions ≡ true
  pub answers : Answers packet.payload (purposes_of (id_of packet.payload) s)

-- The packet is a challenge, and the server sent fewer in a row than the client answers (RFC 8489, section 9.2.5).
pub record IsAnsweredChallenge (packet : Transmit (List ℕ)) (now : ℕ) (past : History) (s : State) : Type 0 where
  pub message : IsOneMessage packet now s
  pub error : class_in packet.payload ≡ Error
  pub challenge : IsSome (challenge_in s packet.payload)
  pub few : past.challenged < s.config.max_stale_nonces

-- ---- the run

-- The call takes what is due or sends data, or time passes, or the caller requests a permission or a channel, lets one go
-- or keeps it again, or a success or a challenge comes. Any other call changes nothing, as what strangers and peers send.
abbrev pub IsQuiet : Call → History → State → Type 0
IsQuiet (Poll now) past s = ⊤
IsQuiet (PollTransmit now) past s = ⊤
IsQuiet PollEvent past s = ⊤
IsQuiet (SendTo transport peer bytes now) past s = ⊤
IsQuiet (CreatePermission transport ip now) past s = ⊤
IsQuiet (BindChannel transport peer now) past s = ⊤
IsQuiet (SetPermissionKept transport ip is_kept) past s = ⊤
IsQuiet (SetChannelKept transport peer is_kept) past s = ⊤
IsQuiet (Recv packet now) past s = IsSuccess packet now s ⊎ (IsAnsweredChallenge packet now past s ⊎ (state_after (Recv packet now) s ≡ s))
IsQuiet call past s = state_after call s ≡ s

-- The caller is on time, and no request awaits its success for longer than the delay, however often it was retransmitted
-- or made again.
pub record AreInTime (delay before now : ℕ) (past : History) (s : State) : Type 0 where
  pub on_time : IsOnTime before now s
  pub answered : All (λ x. now ≤ past.made x.id + delay) s.transactions

-- The caller is on time, the server answers within the delay, and the client never has more grants than these and packets
-- that leave before refreshes, nor more extra packets in the time ahead.
abbrev pub RunsSteadily : ℕ → ℕ → ℕ → ℕ → ℕ → History → State → List Call → Type 0
RunsSteadily count slots extras delay before past s [] = ⊤
RunsSteadily count slots extras delay before past s (call ∷ calls) =
    let now = time_of before call in
    let next = state_after call s in
    let later = with_call call now s past in
    AreInTime delay before now past s × IsQuiet call past s × HoldsAtMost count slots next × IsSeldom extras s.config.refresh_ahead now later
    × RunsSteadily count slots extras delay now later next calls

-- ---- what holds

-- its refresh time is yet to come
abbrev pub IsFresh : ℕ → State → Grant → Type 0
IsFresh now s g = now + ahead_of s.config.refresh_ahead g < expiry_of g

-- What is in force after some calls is in force after all later ones, whatever the run, if none of those lets it go. It
-- counts if it was never let go before. One that was, and is kept again, counts as soon as its refresh time is yet to come:
-- from that call on, or else from its next success on.
abbrev pub GrantsLast : Type 0
GrantsLast =
    (count slots extras delay now : ℕ) (s : State) (earlier later : List Call) → IsSteady count slots extras delay now s
    → RunsSteadily count slots extras delay now (no_history s) s (earlier ++ later)
    → let between = time_of_all now earlier in
    let middle = state_after_all s earlier in
    (g : Grant) → Contains middle.grants g → IsInForce between g → IsKeptBy earlier now s g ⊎ IsFresh between middle g
    → IsKeptBy later between middle g
    → HasStill g (time_of_all between later) (state_after_all s (earlier ++ later))

-- what was requested is in force once the delay is over, if it is not let go meanwhile
abbrev pub RequestsSucceed : Type 0
RequestsSucceed =
    (count slots extras delay now : ℕ) (s : State) (earlier later : List Call) → IsSteady count slots extras delay now s
    → RunsSteadily count slots extras delay now (no_history s) s (earlier ++ later)
    → let between = time_of_all now earlier in
    let middle = state_after_all s earlier in
    (g : Grant) → Contains middle.grants g → IsRequested g → between + delay < time_of_all between later
    → IsKeptBy later between middle g
    → HasStill g (time_of_all between later) (state_after_all s (earlier ++ later))

-- a success ends its request, which awaits no other reply then
abbrev pub SuccessesEndRequests : Type 0
SuccessesEndRequests =
    (packet : Transmit (List ℕ)) (now : ℕ) (s : State) → s.phase ≡ Allocated → IsSuccess packet now s
    → is_outstanding (id_of packet.payload) (state_after (Recv packet now) s).transactions ≡ false

-- over UDP, a message from the server's address to the client's is processed so
abbrev pub DatagramsAreMessages : Type 0
DatagramsAreMessages =
    (packet : Transmit (List ℕ)) (now : ℕ) (s : State) → s.transport ≡ Udp → IsFromServer packet s → IsOneMessage packet now s
