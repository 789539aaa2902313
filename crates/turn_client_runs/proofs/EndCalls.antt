-- Which call ends a client, and what `poll` answers then.
use Rattle.turn_client_laws.proofs.Common.{◌≡◌, ◌⊎◌, ◌∙◌, ◌&&◌, ◌||◌, ◌++◌, ℕ, Bool, true, false, List, [], ◌∷◌, filter_map, Option, Some, None, Result, cond, not, is_some, list_any, nat_le}
use Rattle.turn_client_laws.proofs.Common.{option_map_or, socket_ip, ⊤, inl, inr, refl, sym, subst, ap, Contains, IpAddr, SocketAddr}
use Rattle.turn_client_laws.proofs.Machine.{TransportType, Tcp, Call, State, Phase, New, Requesting, Authenticating, Allocated, Closed, Grant, Allocation, Relay, Has, Transaction}
use Rattle.turn_client_laws.proofs.Machine.{TurnPollRet, Origin, ServerRequest, AllocatedTcpSocket, BindChannel, CreatePermission, Delete, HavePermission, Permissions, Poll, PollEvent}
use Rattle.turn_client_laws.proofs.Machine.{PollRecv, PollTransmit, ProtocolError, Recv, RelayedAddresses, SendTo, SetChannelKept, SetPermissionKept, TcpClosed, TcpConnect, Socket5Tuple}
use Rattle.turn_client_laws.proofs.Machine.{DataOffer, agent_of, allocated_tcp_socket_step, allocations, answer_by, answer_step, as_allocation, bind_channel_step, bound_by, channel_step}
use Rattle.turn_client_laws.proofs.Machine.{channels_to, closed, connect_step, connection_at, connection_gone, create_permission_step, due, expired_at, family_of, filter_map-has}
use Rattle.turn_client_laws.proofs.Machine.{find_allocation_to, first_reported, free_number, has_event, has_reply, idle_step, in_allocation, is_allocated, is_closed, is_connection_from}
use Rattle.turn_client_laws.proofs.Machine.{is_control, is_in_progress, is_listed_for_allocation, is_local_taken, is_past, is_paused, keep_step, keepalive_step, next_offer, next_queued}
use Rattle.turn_client_laws.proofs.Machine.{next_refresh, offer_origin, offer_step, permission_state, permission_step, poll_step, purposes_of, queue_step, reply_step, reserved_from}
use Rattle.turn_client_laws.proofs.Machine.{same_address, same_transport, socket_opened, socket_step, is_permission_of, is_open_to, ForAllocation, state_after, tcp_closed_step}
use Rattle.turn_client_laws.proofs.Machine.{tcp_connect_step, timed_out_step, timed_out_transaction, timed_step, transaction_ended, transmit_step, without_grants, has_active_permission}
use Rattle.turn_client_laws.proofs.Machine.{is_connected, is_connecting, keepalive_times}
use Rattle.turn_client_laws.proofs.Laws.{HasDistinctNumbers, Input, InputsLead, DiffersInStreams, IsDoneBy, TakesInput, answer-by, by_found, by_test, calls-do, contains-has, handled}
use Rattle.turn_client_laws.proofs.Laws.{has-contains, input-by, processed, send_to-by}
use Rattle.turn_client_laws.specs.LawsGone.{IsPastWith, IsStillThere, IsTakenBy, grant_identity}
use Rattle.turn_client_api.specs.declared.poll.TurnPollRet.TheVariants as Do
use Rattle.turn_client_laws.proofs.Edits.{aged-outlines}
use Rattle.turn_client_laws.proofs.AfterExpiryLemmas.{expired_at-shrinks}
use Rattle.turn_client_laws.proofs.EditsOfReplies.{reported-alike}
use Rattle.turn_client_laws.proofs.GrantOriginMessageLemmas.{for-allocation}
use Rattle.turn_client_laws.proofs.InputBringLemmas.{leads-back}
use Rattle.turn_client_laws.proofs.MoveInputLemmas.{grants-taken}
use Rattle.turn_client_laws.proofs.OverLemmas.{poll-over}
use Rattle.turn_client_laws.proofs.PhasesGoOn.{closed-reported}
use Rattle.turn_client_runs.specs.Ends.{Ends, EndsAtOnce, EndsClient, IsExpired, IsUnanswered}
use Rattle.turn_client_runs.proofs.EndLemmas.{IsGone, Over, alike-filter, alike-outlines, bind-over, lives-back, message-over, one-or-none}
use Rattle.turn_client_runs.proofs.EndMessages.{input-closes, input-ends}
use Rattle.turn_client_runs.proofs.InputsOfRuns.{handled-leads, leads-from}

-- ---- a test and a look-up

module _ (P : State → Type 0) where
  either : {A : Type 0} (b : Bool) (x y : A × State) → (b ≡ true → P x.1) → (b ≡ false → P y.1) → P (cond b x y).1
  either true x y p q = p refl
  either false x y p q = q refl

  found : {A X : Type 0} (f : X → A × State) (o : Option X) (y : A × State) → ((x : X) → o ≡ Some x → P (f x).1) → P y.1 → P (option_map_or f o y).1
  found f None y p q = q
  found f (Some x) y p q = p x refl

-- ---- calls that process nothing, and let no time pass, stay in their phase

abbrev IsPlain : Call → Type 0
IsPlain (Recv packet now) = ⊥
IsPlain (PollRecv now) = ⊥
IsPlain (Poll now) = ⊥
IsPlain (PollTransmit now) = ⊥
IsPlain ProtocolError = ⊥
IsPlain call = ⊤

module _ (s : State) where
  abbrev Stays : State → Type 0
  Stays t = t.phase ≡ s.phase

  in-allocation : {E : Type 0} (o : Option Relay) (ip : IpAddr) (now : ℕ) (refusal : E) (x : Result Unit E × State) → Stays x.1 → Stays (in_allocation o ip now refusal s x).1
  in-allocation None ip now refusal x e = refl
  in-allocation (Some a) ip now refusal x e = either Stays (is_past now a) _ x (λ f. refl) (λ f. e)

  permission-stays : (transport : TransportType) (ip : IpAddr) (now : ℕ) → Stays (create_permission_step transport ip now s).1
  permission-stays transport ip now = in-allocation (find_allocation_to transport ip s) ip now _ (permission_step ip now s)
      (either Stays (is_some (permission_state ip s)) _ _ (λ e. refl) (λ e. either Stays (not (is_allocated s.phase)) _ _ (λ f. refl) (λ f. refl)))

  bound-stays : (peer : SocketAddr) (now : ℕ) (until : List ℕ) (b : Bool) (number : Option ℕ) → Stays (bound_by peer now s until b number).1
  bound-stays peer now [] true (Some number) = refl
  bound-stays peer now [] true None = refl
  bound-stays peer now [] false number = refl
  bound-stays peer now (time ∷ others) b number = refl

  channel-stays : (transport : TransportType) (peer : SocketAddr) (now : ℕ) → Stays (bind_channel_step transport peer now s).1
  channel-stays transport peer now = in-allocation (find_allocation_to transport (socket_ip peer) s) (socket_ip peer) now _ (channel_step peer now s)
      (either Stays (list_any is_in_progress (channels_to peer s)) _ _ (λ e. refl)
      (λ e. bound-stays peer now (filter_map (reserved_from now) (channels_to peer s)) (is_allocated s.phase) (free_number s)))

  connect-stays : (peer : SocketAddr) (now : ℕ) → Stays (tcp_connect_step peer now s).1
  connect-stays peer now = in-allocation (find_allocation_to Tcp (socket_ip peer) s) (socket_ip peer) now _ (connect_step peer now s)
      (either Stays (not (is_allocated s.phase)) _ _ (λ e. refl)
      (λ e. either Stays (not (has_active_permission (socket_ip peer) s)) _ _ (λ f. refl)
      (λ f. either Stays (is_connected peer s || is_connecting peer s) _ _ (λ g. refl) (λ g. refl))))

  socket-stays : (id : ℕ) (peer : SocketAddr) (local : Option SocketAddr) (now : ℕ) (origin : Origin) → Stays (socket_step id peer local origin now s).1
  socket-stays id peer None now (ServerRequest request) = refl
  socket-stays id peer None now origin = refl
  socket-stays id peer (Some local) now origin = either Stays (is_local_taken local s) _ _ (λ e. refl) (λ e. opened origin)
    where
      opened : (from : Origin) → Stays (socket_opened id peer local from now s)
      opened (ServerRequest request) = refl
      opened from = refl

  taken-stays : (id : ℕ) (tuple : Socket5Tuple) (peer : SocketAddr) (local : Option SocketAddr) (now : ℕ) → Stays (allocated_tcp_socket_step id tuple peer local now s).1
  taken-stays id tuple peer local now =
      either Stays (same_transport s.config.allocation_transport Tcp && is_control tuple s && is_allocated s.phase) _ _
      (λ e. found Stays (λ origin. socket_step id peer local origin now s) (offer_origin id peer s) _ (λ origin f. socket-stays id peer local now origin) refl) (λ e. refl)

  closed-stays : (local remote : SocketAddr) → Stays (tcp_closed_step local remote s)
  closed-stays local remote =
      by_test Stays (same_transport s.transport Tcp && same_address remote s.remote) (connection_gone local s) s
      (λ e. by_test Stays (is_some (connection_at local s)) _ _ (λ f. refl) (λ f. refl)) (λ e. refl)

  kept-stays : (transport : TransportType) (which : Grant → Bool) (is_kept : Bool) → Stays (keep_step transport which is_kept s).1
  kept-stays transport which is_kept = either Stays (same_transport transport s.config.allocation_transport && list_any which s.grants) _ _ (λ e. refl) (λ e. refl)

  plain-stays : (call : Call) → IsPlain call → Stays (state_after call s)
  plain-stays (Delete now) plain = either Stays (is_allocated s.phase) _ _ (λ e. refl) (λ e. refl)
  plain-stays (CreatePermission transport ip now) plain = permission-stays transport ip now
  plain-stays (BindChannel transport peer now) plain = channel-stays transport peer now
  plain-stays (TcpConnect peer now) plain = connect-stays peer now
  plain-stays (AllocatedTcpSocket id tuple peer local now) plain = taken-stays id tuple peer local now
  plain-stays (TcpClosed local remote now) plain = closed-stays local remote
  plain-stays (SendTo transport peer bytes now) plain = send_to-by Stays transport peer bytes now s (λ ids. refl)
  plain-stays PollEvent plain = refl
  plain-stays RelayedAddresses plain = refl
  plain-stays (Permissions transport relayed) plain = refl
  plain-stays (HavePermission transport to) plain = refl
  plain-stays (SetPermissionKept transport ip is_kept) plain = kept-stays transport (is_permission_of ip) is_kept
  plain-stays (SetChannelKept transport peer is_kept) plain = kept-stays transport (is_open_to peer) is_kept
  plain-stays (Recv packet now) plain = absurd plain
  plain-stays (PollRecv now) plain = absurd plain
  plain-stays (Poll now) plain = absurd plain
  plain-stays (PollTransmit now) plain = absurd plain
  plain-stays ProtocolError plain = absurd plain

-- ---- and take no allocation away

not-taken : (call : Call) (s : State) (a : Relay) → IsPlain call → IsTakenBy call s (Allocation a) → ⊥
not-taken (Delete now) s a plain taken = let clash : false ≡ true = taken in cc
not-taken (AllocatedTcpSocket id tuple peer local now) s a plain taken = let clash : false ≡ true = taken in cc
not-taken (TcpClosed local remote now) s a plain taken = let clash : false ≡ true = taken in cc
not-taken (Recv packet now) s a plain taken = plain
not-taken (PollRecv now) s a plain taken = plain
not-taken (Poll now) s a plain taken = plain
not-taken (PollTransmit now) s a plain taken = plain
not-taken call s a plain taken = taken

still-there : (t : State) (a : Relay) → IsStillThere t (Allocation a) → (b : Relay) × Has (Allocation b) t.grants
still-there t a (is, there, same) = of is there same
  where
    of : (is : Grant) → Contains t.grants is → grant_identity (Allocation a) ≡ grant_identity is → (b : Relay) × Has (Allocation b) t.grants
    of (Allocation b) there same = (b, contains-has (Allocation b) t.grants there)
    of g there same = cc

plain-back : (call : Call) (s : State) → IsPlain call → Over (state_after call s) → Over s
plain-back call s plain (inl e) = inl (sym (plain-stays s call plain) ∙ e)
plain-back call s plain (inr (e, none)) = inr (sym (plain-stays s call plain) ∙ e, gone)
  where
    gone : IsGone s.grants
    gone a there = elim (grants-taken call s (state_after call s) (Allocation a) (inl refl) (has-contains (Allocation a) s.grants there)) [
      | inl still ↦ let (b, here) = still-there (state_after call s) a still in none b here
      | inr taken ↦ not-taken call s a plain taken
    ]

-- ---- what is sent

module _ (now : ℕ) (s : State) where
  abbrev Back : State → Type 0
  Back t = Over t → Over s

  idle-back : (p : Phase) → s.phase ≡ p → Back (idle_step p now s).1
  idle-back New e (inl clash) = cc
  idle-back New e (inr (clash, none)) = cc
  idle-back Allocated e h =
      found Back _ (next_refresh now s) (keepalive_step now s) (λ p f g. g) (either Back (list_any (λ time. nat_le time now) (keepalive_times s)) _ _ (λ f g. g) (λ f g. g)) h
  idle-back Requesting e h = h
  idle-back Authenticating e h = h
  idle-back Closed e h = h

  transmit-back : Back (transmit_step now s).1
  transmit-back =
      found Back _ (due (agent_of s) now) _ (λ x e h. h)
      (either Back (is_paused now s) (reply_step s) (queue_step now s) (λ e h. h) (λ e. found Back _ (next_queued now s) (idle_step s.phase now s) (λ q f h. h) (idle-back s.phase refl)))

-- ---- time passes

module _ (now : ℕ) (s : State) where
  answer-back : (given : Option ℕ) (t : State) → Over (answer_step given now t).1 → Over t
  answer-back given t = answer-by (λ (u : State). Over u → Over t) given now t (λ closes h. h)

  timed-phase : (p : Phase) (given : Option ℕ) (t : State) → p ≡ Allocated → t.phase ≡ p → (timed_step p given now t).1.phase ≡ Allocated
  timed-phase Allocated given t e f = answer-by (λ (u : State). u.phase ≡ Allocated) given now (expired_at given now t) (λ closes. (expired_at-shrinks given now t).phase ∙ f)
  timed-phase p given t e f = cc

  poll-phase : s.phase ≡ Allocated → (poll_step now s).1.phase ≡ Allocated
  poll-phase e =
      let Stays = λ (t : State). t.phase ≡ Allocated in
      either Stays (has_event s || has_reply s) _ _ (λ f. e)
      (λ f. found Stays (λ offer. offer_step offer s) (next_offer s) (timed_out_step now s) (λ offer g. e)
      (found Stays (λ x. timed_step s.phase (Some x.id) now (transaction_ended x.id s)) (timed_out_transaction (agent_of s) now) (timed_step s.phase None now s)
      (λ x g. timed-phase s.phase (Some x.id) (transaction_ended x.id s) e refl) (timed-phase s.phase None s e refl)))

  abbrev Why : State → Type 0
  Why t = Over t → Over s ⊎ (IsUnanswered now s ⊎ IsExpired now s)

  expires : HasDistinctNumbers s → s.phase ≡ Allocated → Why (poll_step now s).1
  expires distinct e h = elim (one-or-none s.grants) [
    | inr none ↦ inl (inr (e, none))
    | inl (a, there) ↦ inr (inr (record { phase = e; had = (a, has-contains (Allocation a) s.grants there); past = past }))
  ]
    where
      left : (b : Relay) → IsStillThere (poll_step now s).1 (Allocation b) → ⊥
      left b still = elim h [
        | inl over ↦ let clash : Allocated ≡ Closed = sym (poll-phase e) ∙ over in cc
        | inr (f, none) ↦ let (c, here) = still-there (poll_step now s).1 b still in none c here
      ]

      past : (b : Relay) → Contains s.grants (Allocation b) → IsPastWith now s (Allocation b)
      past b here = elim (poll-over now s (poll_step now s).1 (Allocation b) (inl refl) distinct here) [
        | inl still ↦ absurd (left b still)
        | inr (inl held) ↦ absurd held
        | inr (inr (f, inl over)) ↦ absurd over
        | inr (inr (f, inr over)) ↦ over
      ]

  offer-back : (offer : DataOffer) → Over (offer_step offer s).1 → Over s
  offer-back offer h =
      let reported = first_reported (family_of offer.peer) s.grants in
      lives-back s (offer_step offer s).1 (refl, alike-outlines s.grants reported (aged-outlines reported s.grants (reported-alike (family_of offer.peer) s.grants))) h

  given-why : (s.phase ≡ Allocated → ⊥) → (x : Transaction) → timed_out_transaction (agent_of s) now ≡ Some x → (p : Phase) → s.phase ≡ p
      → Why (timed_step p (Some x.id) now (transaction_ended x.id s)).1
  given-why other x silent New e h = inl h
  given-why other x silent Requesting e h = inr (inl (record { request = x; silent = silent; asks = inl e }))
  given-why other x silent Authenticating e h = at (is_listed_for_allocation x.id s) refl h
    where
      at : (b : Bool) → is_listed_for_allocation x.id s ≡ b → Why (answer_step (Some x.id) now (cond b (closed (transaction_ended x.id s)) (transaction_ended x.id s))).1
      at true listed h =
          let there = has-contains ForAllocation (purposes_of x.id s) (for-allocation (purposes_of x.id s) listed) in
          inr (inl (record { request = x; silent = silent; asks = inr (e, there) }))
      at false listed h = inl (answer-back (Some x.id) (transaction_ended x.id s) h)
  given-why other x silent Allocated e h = absurd (other e)
  given-why other x silent Closed e h = inl (inl e)

  none-why : (s.phase ≡ Allocated → ⊥) → (p : Phase) → s.phase ≡ p → Why (timed_step p None now s).1
  none-why other New e h = inl h
  none-why other Requesting e h = inl (answer-back None s h)
  none-why other Authenticating e h = inl (answer-back None s h)
  none-why other Allocated e h = absurd (other e)
  none-why other Closed e h = inl (inl e)

  other-why : (s.phase ≡ Allocated → ⊥) → Why (poll_step now s).1
  other-why other =
      either Why (has_event s || has_reply s) _ _ (λ e h. inl h)
      (λ e. found Why (λ offer. offer_step offer s) (next_offer s) (timed_out_step now s) (λ offer f h. inl (offer-back offer h))
      (found Why (λ x. timed_step s.phase (Some x.id) now (transaction_ended x.id s)) (timed_out_transaction (agent_of s) now) (timed_step s.phase None now s)
      (λ x f. given-why other x f s.phase refl) (none-why other s.phase refl)))

  poll-ends : HasDistinctNumbers s → Why (poll_step now s).1
  poll-ends distinct = by s.phase refl
    where
      by : (p : Phase) → s.phase ≡ p → Why (poll_step now s).1
      by Allocated e = expires distinct e
      by New e = other-why (λ f. let clash : New ≡ Allocated = sym e ∙ f in cc)
      by Requesting e = other-why (λ f. let clash : Requesting ≡ Allocated = sym e ∙ f in cc)
      by Authenticating e = other-why (λ f. let clash : Authenticating ≡ Allocated = sym e ∙ f in cc)
      by Closed e = other-why (λ f. let clash : Closed ≡ Allocated = sym e ∙ f in cc)

-- ---- what is processed

differs-back : (s t : State) → DiffersInStreams s t → Over t → Over s
differs-back s t differs h = subst Over differs.others h

gone-back : (local : SocketAddr) (s : State) → Over (connection_gone local s) → Over s
gone-back local s = by_test (λ (t : State). Over t → Over s) (is_some (connection_at local s)) _ s
    (λ e h. lives-back s (without_grants (is_connection_from local) s) (refl, alike-filter (is_connection_from local) (λ a. refl) s.grants) h) (λ e h. h)

inputs-back : (call : Call) (s : State) → TakesInput call → Over (state_after call s) → Over s ⊎ IsDoneBy EndsClient call s
inputs-back call s takes h = elim (calls-do call s takes) [
  | inl lead ↦ elim (leads-back Over EndsClient differs-back input-ends (handled call s) s (state_after call s) lead h) [
    | inl over ↦ inl over
    | inr (one, there, did) ↦ inr (one, has-contains one (handled call s) there, did)
  ]
  | inr end ↦ inl (gone-back end.local s (subst Over end.gone h))
]

-- ---- all calls

by-input : (call : Call) (s : State) → Over s ⊎ IsDoneBy EndsClient call s → Over s ⊎ Ends call s
by-input call s (inl over) = inl over
by-input call s (inr did) = inr (inr did)

pub call-ends : (call : Call) (s : State) → HasDistinctNumbers s → Over (state_after call s) → Over s ⊎ Ends call s
call-ends (Recv packet now) s distinct h = by-input (Recv packet now) s (inputs-back (Recv packet now) s tt h)
call-ends (PollRecv now) s distinct h = by-input (PollRecv now) s (inputs-back (PollRecv now) s tt h)
call-ends (Poll now) s distinct h = elim (poll-ends now s distinct h) [ inl over ↦ inl over | inr why ↦ inr (inl why) ]
call-ends (PollTransmit now) s distinct h = inl (transmit-back now s h)
call-ends ProtocolError s distinct h = inr (inl tt)
call-ends call s distinct h = inl (plain-back call s tt h)

-- ---- what ends a client at once

leads-over : (inputs : List Input) (s t : State) → InputsLead inputs s t → Over s → Over t
leads-over [] s t differs h = subst Over (sym differs.others) h
leads-over (one ∷ inputs) s t (differs, lead) h = leads-over inputs (processed one).1 t lead (input-over one (subst Over (sym differs.others) h))
  where
    input-over : (one : Input) → Over one.before → Over (processed one).1
    input-over one h =
        input-by Over one h (λ over whole. message-over one.bytes one.time one.before h) (λ stream of waits whole. bind-over stream.local one.bytes one.time one.before h)

has-cut : {X : Type 0} (x : X) (xs : List X) → Has x xs → (front back : List X) × (xs ≡ front ++ x ∷ back)
has-cut x (y ∷ xs) (inl e) = ([], xs, rw e refl)
has-cut {X} x (y ∷ xs) (inr there) = let (front, back, e) = has-cut x xs there in (y ∷ front, back, ap (λ (l : List X). y ∷ l) e)
has-cut x [] none = absurd none

inputs-over : (call : Call) (s : State) → IsDoneBy EndsClient call s → Over (state_after call s)
inputs-over call s (one, there, did) =
    let (front, back, e) = has-cut one (handled call s) (contains-has one (handled call s) there) in
    leads-over back (processed one).1 (state_after call s) (leads-from front back one s (state_after call s) (handled-leads call s front back one e)) (input-closes one did)

pub ends-at-once : (call : Call) (s : State) → EndsAtOnce call s → Over (state_after call s)
ends-at-once ProtocolError s ends = by_test Over (is_closed s.phase) s _ (λ e. inl (over s.phase e)) (λ e. inl refl)
  where
    over : (p : Phase) → is_closed p ≡ true → p ≡ Closed
    over Closed e = refl
    over p e = cc
ends-at-once (Recv packet now) s ends = inputs-over (Recv packet now) s ends
ends-at-once (PollRecv now) s ends = inputs-over (PollRecv now) s ends
ends-at-once call s (one, there, did) = absurd (contains-has one [] there)

-- ---- what `poll` answers

module _ (now : ℕ) where
  abbrev Honest : TurnPollRet × State → Type 0
  Honest p = p.0 ≡ Do.Closed → Over p.1

  answer-honest : (given : Option ℕ) (s : State) → Honest (answer_step given now s)
  answer-honest given s = by s.closes s.phase (allocations s) refl refl
    where
      by : (closes : List SocketAddr) (p : Phase) (relays : List Relay) → s.phase ≡ p → allocations s ≡ relays → Honest (answer_by closes p relays given now s)
      by (local ∷ others) p relays e f told = cc
      by [] Allocated [] e f told = inr (e, λ a there. subst (λ (relays : List Relay). Has a relays) f (filter_map-has as_allocation (Allocation a) a s.grants there refl))
      by [] Allocated (a ∷ relays) e f told = cc
      by [] New relays e f told = cc
      by [] Requesting relays e f told = cc
      by [] Authenticating relays e f told = cc
      by [] Closed relays e f told = cc

  timed-honest : (p : Phase) (given : Option ℕ) (s : State) → s.phase ≡ p → Honest (timed_step p given now s)
  timed-honest New given s e told = cc
  timed-honest Requesting None s e told = answer-honest None s told
  timed-honest Requesting (Some id) s e told = inl refl
  timed-honest Authenticating None s e told = answer-honest None s told
  timed-honest Authenticating (Some id) s e told = answer-honest (Some id) (cond (is_listed_for_allocation id s) (closed s) s) told
  timed-honest Allocated given s e told = answer-honest given (expired_at given now s) told
  timed-honest Closed given s e told = inl e

  pub poll-honest : (s : State) → Honest (poll_step now s)
  poll-honest s =
      by_test Honest (has_event s || has_reply s) _ _ (λ e told. cc)
      (λ e. by_found Honest (λ offer. offer_step offer s) (next_offer s) (timed_out_step now s) (λ offer f told. cc)
      (by_found Honest (λ x. timed_step s.phase (Some x.id) now (transaction_ended x.id s)) (timed_out_transaction (agent_of s) now) (timed_step s.phase None now s)
      (λ x f. timed-honest s.phase (Some x.id) (transaction_ended x.id s) refl) (timed-honest s.phase None s refl)))

  -- ---- with nothing pending it tells the end

  none-allocated : (gs : List Grant) → IsGone gs → filter_map as_allocation gs ≡ []
  none-allocated [] none = refl
  none-allocated (Allocation a ∷ gs) none = absurd (none a (inl refl))
  none-allocated (g ∷ gs) none = none-allocated gs (λ a there. none a (inr there))

  unexpired : (given : Option ℕ) (s : State) → allocations s ≡ [] → expired_at given now s ≡ s
  unexpired given s none = rw none refl

  answer-told : (closes : List SocketAddr) (p : Phase) (relays : List Relay) (given : Option ℕ) (s : State) → closes ≡ [] → p ≡ Allocated → relays ≡ []
      → (answer_by closes p relays given now s).0 ≡ Do.Closed
  answer-told closes p relays given s e f g = rw (e, f, g) refl

  timed-told : (p : Phase) (given : Option ℕ) (s : State) → p ≡ Allocated → s.phase ≡ p → allocations s ≡ [] → s.closes ≡ [] → (timed_step p given now s).0 ≡ Do.Closed
  timed-told Allocated given s e f none closes =
      subst (λ (t : State). (answer_step given now t).0 ≡ Do.Closed) (sym (unexpired given s none)) (answer-told s.closes s.phase (allocations s) given s closes f none)
  timed-told p given s e f none closes = cc

  no-offer : (s : State) → s.phase ≡ Allocated → allocations s ≡ [] → next_offer s ≡ None
  no-offer s e none = rw (e, none) refl

  polls : (s : State) → s.events ≡ [] → has_reply s ≡ false → next_offer s ≡ None → poll_step now s ≡ timed_out_step now s
  polls s e r o = rw (e, r, o, poll_step) refl

  pub poll-tells : (s : State) → Over s → s.events ≡ [] → has_reply s ≡ false → s.closes ≡ [] → (poll_step now s).0 ≡ Do.Closed
  poll-tells s (inl over) e r closes = closed-reported now s over e r
  poll-tells s (inr (phase, gone)) e r closes =
      let none = none-allocated s.grants gone in
      let Told = λ (p : TurnPollRet × State). p.0 ≡ Do.Closed in
      subst Told (sym (polls s e r (no-offer s phase none)))
      (by_found Told (λ x. timed_step s.phase (Some x.id) now (transaction_ended x.id s)) (timed_out_transaction (agent_of s) now) (timed_step s.phase None now s)
      (λ x f. timed-told s.phase (Some x.id) (transaction_ended x.id s) phase refl none closes) (timed-told s.phase None s phase refl none closes))
