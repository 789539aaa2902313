-- No grant is lost either if the caller takes packets late, as long as it is late by little.
use Rattle.std.specs.Prelude.{◌≡◌, ◌⊎◌, ℕ, ◌+◌, ◌*◌, ◌==◌, ◌^◌, ◌<◌, ◌≤◌, max, min, true, false, ⊤}
use Rattle.std.specs.Prelude.{List, [], ◌∷◌, None, All, is_some, if◌then◌else◌, IfSome, IsSome}
use Rattle.std.specs.List.{AllByRecursion, Contains}
use Rattle.turn_stun.specs.Message.{id_of}
use Rattle.turn_stun.specs.declared.message.header.MessageClass.TheVariants.{Error, Indication, Request, Success}
use Rattle.turn_stun.specs.declared.message.header.MessageClass.{MessageClass}
use Rattle.turn_auth.specs.Validation.{IsValidated, validation_of}
use Rattle.turn_agent.specs.Agent.{is_outstanding}
use Rattle.turn_agent.specs.declared.transaction.Transaction.{Transaction}
use Rattle.turn_client_api.specs.Grants.{purposes_of}
use Rattle.turn_client_api.specs.Judgement.{challenge_in, class_in, method_in}
use Rattle.turn_client_api.specs.Requests.{connection_attempt_method}
use Rattle.turn_client_api.specs.Payloads.{is_message}
use Rattle.turn_client_laws.specs.Handled.{Input, handled, processed}
use Rattle.turn_client_laws.specs.LawsHandled.{IsOverControl, TakesInput}
use Rattle.turn_client_api.specs.State.{State, auth_of, seconds}
use Rattle.turn_client_api.specs.Steps.{state_after}
use Rattle.turn_client_api.specs.Transmit.{next_transmit}
use Rattle.turn_client_api.specs.declared.call.Call.{Call}
use Rattle.turn_client_api.specs.declared.call.Call.TheVariants.{PollRecv, PollTransmit, Recv}
use Rattle.turn_client_runs.specs.History.{History, IsSeldom, all_waits, no_history, with_call}
use Rattle.turn_client_api.specs.Alarm.{AllHaveAllocation}
use Rattle.turn_client_api.specs.Config.{timers_of}
use Rattle.turn_client_api.specs.declared.grant.Grant.{Grant}
use Rattle.turn_client_api.specs.declared.grant.Grant.TheVariants.{Channel}
use Rattle.turn_client_api.specs.declared.grant.Progress.TheVariants.{Reserved}
use Rattle.turn_client_api.specs.declared.state.Phase.TheVariants.{Allocated}
use Rattle.turn_client_laws.specs.LawsDoubles.{HasNoDoubles}
use Rattle.turn_client_runs.specs.Lasting.{Answers, HoldsAtMost, IsInForce, IsQuiet, IsSteady, IsSuccess, RunsSteadily, ahead_of, expiry_of}
use Rattle.turn_client_runs.specs.OnTime.{time_of}

-- ---- where it begins

-- As `HasRoom`, where each packet may be taken so late.
abbrev pub HasRoomBehind : ℕ → ℕ → ℕ → ℕ → ℕ → ℕ → ℕ → Type 0
HasRoomBehind count slots extras late cadence delay ahead = (count + slots + extras) * (cadence + late) + delay + late < ahead

-- a channel that expired, whose number and peer are reserved
abbrev pub IsReservedChannel : Grant → Type 0
IsReservedChannel (Channel number peer (Reserved until)) = ⊤
IsReservedChannel _ = ⊥

-- the grant is in force, its refresh is not late, and there is room for all before it expires
pub record IsReady (count slots extras late delay now : ℕ) (s : State) (g : Grant) : Type 0 where
  pub in_force : IsInForce now g
  pub none_late : now + ahead_of s.config.refresh_ahead g ≤ expiry_of g
  pub room : HasRoomBehind count slots extras late s.config.request_cadence delay (ahead_of s.config.refresh_ahead g)

-- As `IsSteady`, with room for a caller that is so late. Some channels may be reserved.
pub record IsSteadyBehind (count slots extras late delay now : ℕ) (s : State) : Type 0 where
  pub allocated : s.phase ≡ Allocated
  pub none_queued : s.queue ≡ []
  pub none_outstanding : s.transactions ≡ []
  pub none_listed : s.listed ≡ []
  pub sent_before : IfSome s.last_send (λ time. time ≤ now)
  pub grants : All (λ g. IsReservedChannel g ⊎ IsReady count slots extras late delay now s g) s.grants
  pub room_for_more : HasRoomBehind count slots extras late s.config.request_cadence delay (min s.config.refresh_ahead (seconds 150))
  pub within : HoldsAtMost count slots s
  pub distinct : HasNoDoubles s
  pub in_allocations : AllHaveAllocation s
  pub prompt : delay < all_waits (timers_of s.config) s.transport
  pub in_range : now ≤ 2 ^ 62

-- ---- the caller

-- The call comes at most so late. What is to be sent now was so since `start` at the earliest: from the time on at which the
-- last packet was taken, or at which a packet could last be waiting, until then there was none. (Before the call before this
-- one the client was asked as it is after that one.)
pub record IsLate (late since before start now : ℕ) (s : State) : Type 0 where
  pub later : before ≤ now
  pub in_range : now ≤ 2 ^ 62
  pub from : since ≤ start
  pub begun : start ≤ now
  pub soon : now ≤ start + late
  pub free : (time : ℕ) → since ≤ time → time < start → next_transmit (max time before) s ≡ None

-- the caller is late by so much at most, and no request awaits its success for longer than the delay
pub record AreAnswered (late delay since before start now : ℕ) (past : History) (s : State) : Type 0 where
  pub caller : IsLate late since before start now s
  pub answered : All (λ x. now ≤ past.made x.id + delay) s.transactions

-- ---- what comes in

-- The input is a datagram, or a whole frame of the control connection: a signed success, which grants what an outstanding
-- request requests (RFC 8489, section 9.2.5).
pub record IsGranting (one : Input) : Type 0 where
  pub over : IsOverControl one
  pub whole : is_message one.bytes ≡ true
  pub success : class_in one.bytes ≡ Success
  pub signed : IsValidated (validation_of (auth_of one.before) one.bytes)
  pub outstanding : is_outstanding (id_of one.bytes) one.before.transactions ≡ true
  pub answers : Answers one.bytes (purposes_of (id_of one.bytes) one.before)

-- the signature is not the server's
abbrev pub IsUnsigned : List ℕ → State → Type 0
IsUnsigned message s = IsValidated (validation_of (auth_of s) message) → ⊥

-- the reply is to no request that awaits one, or not signed
abbrev pub IsStray : List ℕ → State → Type 0
IsStray message s = (is_outstanding (id_of message) s.transactions ≡ false) ⊎ IsUnsigned message s

-- By its bytes it is nothing that the client acts on: no message, as data of peers in a channel; an indication or a request,
-- but for an attempt of a peer to connect; a stray reply, but for a challenge.
abbrev pub IsNoise : List ℕ → State → Type 0
IsNoise bytes s = (is_message bytes ≡ false) ⊎ by (class_in bytes)
  where
    by : MessageClass → Type 0
    by Indication = (method_in bytes == connection_attempt_method) ≡ false
    by Request = (method_in bytes == connection_attempt_method) ≡ false
    by Success = IsStray bytes s
    by Error = (challenge_in s bytes ≡ None) × IsStray bytes s

-- It is a success, or noise, or changes nothing.
abbrev pub IsMild : Input → Type 0
IsMild one = IsGranting one ⊎ ((IsOverControl one × IsNoise one.bytes one.before) ⊎ ((processed one).1 ≡ one.before))

-- As `IsQuiet`. Or bytes come, or are polled for, and what they complete is mild, however a stream is cut: a piece may complete
-- no frame, or many, and so it is if the server closes a stream.
abbrev pub IsCalm : Call → History → State → Type 0
IsCalm call past s = IsQuiet call past s ⊎ (TakesInput call × AllByRecursion IsMild (handled call s))

-- ---- the run

-- from when on the next packet may have been waiting: a packet that is taken is no longer late
abbrev pub since_next : Call → State → ℕ → ℕ
since_next (PollTransmit now) s start = if is_some (next_transmit now s) then now else start
since_next call s start = start

-- As `RunsSteadily`, with a caller that is so late, and streams that may be cut anywhere.
abbrev pub RunsBehind : ℕ → ℕ → ℕ → ℕ → ℕ → ℕ → ℕ → History → State → List Call → Type 0
RunsBehind count slots extras late delay since before past s [] = ⊤
RunsBehind count slots extras late delay since before past s (call ∷ calls) =
    let now = time_of before call in
    let next = state_after call s in
    let later = with_call call now s past in
    (start : ℕ) × AreAnswered late delay since before start now past s × IsCalm call past s × HoldsAtMost count slots next
    × IsSeldom extras s.config.refresh_ahead now later
    × RunsBehind count slots extras late delay (since_next call s start) now later next calls

-- ---- a server that answers, by what comes from it

-- one of these inputs is a success for the request with this ID
abbrev pub IsGrantedAmong : ℕ → List Input → Type 0
IsGrantedAmong id [] = ⊥
IsGrantedAmong id (one ∷ later) = (IsGranting one × (id_of one.bytes ≡ id)) ⊎ IsGrantedAmong id later

-- the call brings a success for the request with this ID
abbrev pub IsGrantedIn : ℕ → Call → State → Type 0
IsGrantedIn id (Recv packet now) s =
    (IsSuccess packet now s × (id_of packet.payload ≡ id))
    ⊎ (AllByRecursion IsMild (handled (Recv packet now) s) × IsGrantedAmong id (handled (Recv packet now) s))
IsGrantedIn id (PollRecv now) s = AllByRecursion IsMild (handled (PollRecv now) s) × IsGrantedAmong id (handled (PollRecv now) s)
IsGrantedIn id call s = ⊥

-- the call brings a challenge for it, by which it is made again under another ID, and is outstanding under this one no more
abbrev pub IsChallengedIn : ℕ → Call → State → Type 0
IsChallengedIn id (Recv packet now) s =
    (class_in packet.payload ≡ Error) × IsSome (challenge_in s packet.payload) × (id_of packet.payload ≡ id)
    × (is_outstanding id (state_after (Recv packet now) s).transactions ≡ false)
IsChallengedIn id call s = ⊥

-- a success for it comes by then, or a challenge, unless the run ends before
abbrev pub IsGrantedBy : ℕ → ℕ → ℕ → State → List Call → Type 0
IsGrantedBy id deadline before s [] = ⊤
IsGrantedBy id deadline before s (call ∷ calls) =
    (time_of before call ≤ deadline)
    × (IsGrantedIn id call s ⊎ (IsChallengedIn id call s ⊎ IsGrantedBy id deadline (time_of before call) (state_after call s) calls))

-- A success for each request that the call makes comes within the delay, or a challenge does, and then the request that is made
-- again has its success within the same delay.
abbrev pub AreGranted : ℕ → Call → ℕ → History → State → List Call → Type 0
AreGranted delay call now later s calls =
    (x : Transaction) → Contains (state_after call s).transactions x → is_outstanding x.id s.transactions ≡ false
    → IsGrantedBy x.id (later.made x.id + delay) now (state_after call s) calls

-- As `RunsBehind`: but what is said of the server is what it sends, and not what the client makes of it.
abbrev pub RunsGranted : ℕ → ℕ → ℕ → ℕ → ℕ → ℕ → ℕ → History → State → List Call → Type 0
RunsGranted count slots extras late delay since before past s [] = ⊤
RunsGranted count slots extras late delay since before past s (call ∷ calls) =
    let now = time_of before call in
    let next = state_after call s in
    let later = with_call call now s past in
    (start : ℕ) × IsLate late since before start now s × IsCalm call past s × HoldsAtMost count slots next
    × IsSeldom extras s.config.refresh_ahead now later
    × AreGranted delay call now later s calls × RunsGranted count slots extras late delay (since_next call s start) now later next calls

-- ---- what holds

-- a caller that is on time is one that is late by nothing
abbrev pub OnTimeIsLateByNone : Type 0
OnTimeIsLateByNone =
    (count slots extras delay now : ℕ) (s : State) (calls : List Call) → IsSteady count slots extras delay now s
    → RunsSteadily count slots extras delay now (no_history s) s calls
    → IsSteadyBehind count slots extras 0 delay now s × RunsBehind count slots extras 0 delay now now (no_history s) s calls

-- if a success for each request comes in time, none awaits its success for longer
abbrev pub GrantedAreAnswered : Type 0
GrantedAreAnswered =
    (count slots extras late delay now : ℕ) (s : State) (calls : List Call) → IsSteadyBehind count slots extras late delay now s
    → RunsGranted count slots extras late delay now now (no_history s) s calls
    → RunsBehind count slots extras late delay now now (no_history s) s calls
