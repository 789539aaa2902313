-- Which packets a call queues that processes no input, and which requests it makes.
use Rattle.turn_client_laws.proofs.Common.{◌≡◌, ◌⊎◌, ◌∙◌, ◌++◌, ℕ, Bool, true, false, not, cond, ◌&&◌, ◌||◌, leb, List, [], ◌∷◌, filter, filter_map, flat_map, Option, Some, None, Result, Ok, Err, and_parts, ⊤, IsSome, map, not-false}
use Rattle.turn_client_laws.proofs.Common.{refl, sym, subst, ap, arith, inl, inr, codes, is_some, nat_le, list_any, socket_ip, IpAddr, SocketAddr, eqb}
use Rattle.turn_client_laws.proofs.Machine.{Tcp, due, same_address, timed_out_transaction, State, agent_of, later_by, Call, Delete, CreatePermission, BindChannel, TcpConnect, AllocatedTcpSocket, Challenge, IPV4, Transaction, Transmit, TransportType, front_sent, next_refresh, refused_reply, request_for, to_server, waits_from, begun_by, resent, sent_at_once, waits_begun}
use Rattle.turn_client_laws.proofs.Machine.{TcpClosed, SendTo, Recv, PollRecv, Poll, PollTransmit, PollEvent, RelayedAddresses, Permissions, HavePermission, ProtocolError, SetPermissionKept}
use Rattle.turn_client_laws.proofs.Machine.{SetChannelKept, TcpAllocateError, Grant, Allocation, Connect, Connection, Permission, Listing, Origin, ServerRequest, Pending, Purpose, ForBind, ForChannel}
use Rattle.turn_client_laws.proofs.Machine.{ForConnect, ForPermission, ForRefresh, Relay, Socket5Tuple, TurnPollRet, Phase, New, Requesting, Authenticating, Allocated, Queued}
use Rattle.turn_client_laws.proofs.Machine.{allocated_tcp_socket_step, bound_by, channel_step, channels_to, connect_step, deleted, free_number, answered_with, in_allocation}
use Rattle.turn_client_laws.proofs.Machine.{is_allocated, is_closed, is_control, is_in_progress, is_local_taken, is_open_to, offer_origin, offer_taken, permission_step, reserved_from, socket_opened}
use Rattle.turn_client_laws.proofs.Machine.{socket_refused, socket_step, connection_at, is_connected, is_connecting, has_event, has_reply, is_paused, keepalive_times, closed, fail_all}
use Rattle.turn_client_laws.proofs.Machine.{transaction_ended, allocations, family_of, family_of_ip, find_allocation_to, has_active_permission, is_past, is_permission_of, permission_state}
use Rattle.turn_client_laws.proofs.Machine.{same_transport, with_expired, with_grant, answer_step, is_listed_for_allocation, expired_at, next_offer, offer_step, poll_step, timed_out_step, timed_step}
use Rattle.turn_client_laws.proofs.Machine.{accepted_reply, asked_lifetime, connection_timed_out, fresh_id, requested, bind_time, state_after, idle_step, is_due_in, keepalive_step, next_queued, settled, queue_step}
use Rattle.turn_client_laws.proofs.Machine.{refresh_purpose, refreshes_in, refreshes_of_rank, reply_step, transmit_step, without_first_reply, Has, first-has, has-filter_map, has-flat_map}
use Rattle.turn_client_laws.proofs.Laws.{TakesInput, AsksFor, IsListedFor, answer-by, by_found, by_test, send_to-by, expired_at-shrinks, Adds, adds-one, adds-same, listings-made, contains-has, KeepsEdits, phase-edits, requests-made, settled-has}
use Rattle.turn_client_laws.proofs.Laws.{has-contains, has-mapped, quiet-walk}
use Rattle.turn_stun.specs.Refusal.{Refusal}
use Rattle.turn_client_laws.specs.LawsStates.{HoldsChallenge, IsHeldIn}
use Rattle.turn_client_runs.specs.Leaving.{refusals}
use Rattle.turn_client_runs.proofs.SentQueues.{GoesOut, IsOutstandingText, Queues, fewer-outstanding, held-some, one-outstanding, one-queued, queues-same}
use Rattle.turn_client_runs.proofs.SentTexts.{IsElse, Requests, Responds}
use Rattle.turn_client_runs.proofs.TogetherLemmas.{listing-here}
use Rattle.turn_client_laws.proofs.EditsOfTime.{has-dropped}
use Rattle.turn_client_laws.proofs.Laws.{settled-queued}
use Rattle.turn_client_laws.proofs.Machine.{id_in_header, id_used, is_connection_from, is_kept, sent, without_grants, sent_again, waiting_from, with_marks}

-- ---- what a call opens

-- the caller opened a data connection from this local address, for the connection to this peer with this ID
abbrev pub OpensFor : Call → State → SocketAddr → SocketAddr → ℕ → Type 0
OpensFor call s local peer id =
    (tuple : Socket5Tuple) × (now : ℕ) × (call ≡ AllocatedTcpSocket id tuple peer (Some local) now)
    × ((allocated_tcp_socket_step id tuple peer (Some local) now s).0 ≡ Ok tt)

-- a call that is refused changes nothing
pub opens-or : (id : ℕ) (tuple : Socket5Tuple) (peer local : SocketAddr) (now : ℕ) (s : State)
    → ((allocated_tcp_socket_step id tuple peer (Some local) now s).0 ≡ Ok tt) ⊎ ((allocated_tcp_socket_step id tuple peer (Some local) now s).1 ≡ s)
opens-or id tuple peer local now s =
    by_test Claim (same_transport s.config.allocation_transport Tcp && is_control tuple s && is_allocated s.phase) _ _
    (λ e. by_found Claim (λ origin. socket_step id peer (Some local) origin now s) (offer_origin id peer s) _
    (λ origin f. by_test Claim (is_local_taken local s) _ _ (λ g. inr refl) (λ g. inl refl)) (inr refl))
    (λ e. inr refl)
  where
    Claim : Result Unit TcpAllocateError × State → Type 0
    Claim x = (x.0 ≡ Ok tt) ⊎ (x.1 ≡ s)

-- what the call requests; the caller opened a data connection that is to be bound
abbrev pub IsOpenedIf : Call → State → Purpose → Type 0
IsOpenedIf call s (ForBind local peer id) = OpensFor call s local peer id
IsOpenedIf call s p = ⊤

abbrev pub IsAskedNow : Call → State → Purpose → Type 0
IsAskedNow call s p = ((at : ℕ) × AsksFor call s p at) × IsOpenedIf call s p

pub else-opened : (call : Call) (s : State) (p : Purpose) → IsElse p → IsOpenedIf call s p
else-opened call s (ForBind local peer id) other = absurd other
else-opened call s p other = tt

-- ---- with an allocation something is held

phase-held : (p : Phase) (held : Option Challenge) → IsHeldIn p held → is_allocated p ≡ true → IsSome held
phase-held Allocated held holds e = holds
phase-held p held holds e = cc

-- ---- the bytes of a request stay

-- each request is another, with the same bytes
mapped-bytes : (f : Transaction → Transaction) → ((y : Transaction) → (f y).request ≡ y.request) → (xs : List Transaction) (x : Transaction) → Has x (map f xs)
    → (y : Transaction) × Has y xs × (x.request ≡ y.request)
mapped-bytes f same xs x there = let (y, h, e) = has-mapped f x xs there in (y, h, ap (λ (z : Transaction). z.request) e ∙ same y)

abbrev KeepsBytes : Transaction → Transaction → Type 0
KeepsBytes y z = z.request ≡ y.request

resent-bytes : (id now : ℕ) (xs : List Transaction) (x : Transaction) → Has x (resent id now xs) → (y : Transaction) × Has y xs × (x.request ≡ y.request)
resent-bytes id now xs = mapped-bytes _ (λ y. by_test (KeepsBytes y) (eqb y.id id) (sent_again now y) y (λ e. refl) (λ e. refl)) xs

begun-bytes : (id now : ℕ) (xs : List Transaction) (x : Transaction) → Has x (waits_begun id now xs) → (y : Transaction) × Has y xs × (x.request ≡ y.request)
begun-bytes id now xs = mapped-bytes _ (λ y. by_test (KeepsBytes y) (eqb y.id id) (waiting_from now y) y (λ e. refl) (λ e. refl)) xs

-- its waits begin, if the client is set so
front-bytes : (now : ℕ) (q : Queued) (t : State) (x : Transaction) → Has x (begun_by now q t) → (y : Transaction) × Has y t.transactions × (x.request ≡ y.request)
front-bytes now q t x =
    by_test Claim (t.config.timed_from_send && q.is_request) _ t.transactions
    (λ e. by_found Claim (λ id. waits_begun id now t.transactions) (id_in_header q.packet.payload) t.transactions (λ id f. begun-bytes id now t.transactions x) (λ there. (x, there, refl)))
    (λ e there. (x, there, refl))
  where
    Claim : List Transaction → Type 0
    Claim xs = Has x xs → (y : Transaction) × Has y t.transactions × (x.request ≡ y.request)

-- ---- the queue gets shorter

unreplied-has : (queue : List Queued) (q : Queued) → Has q (without_first_reply queue) → Has q queue
unreplied-has [] q there = there
unreplied-has (x ∷ queue) q there =
    by_test (λ (l : List Queued). Has q l → Has q (x ∷ queue)) x.is_request (x ∷ without_first_reply queue) queue
    (λ is h. elim h [ inl e ↦ inl e | inr later ↦ inr (unreplied-has queue q later) ]) (λ no h. inr h) there

-- ---- what is refreshed binds no data connection

refresh-else : (now : ℕ) (g : Grant) (p : Purpose) → refresh_purpose now g ≡ Some p → IsElse p
refresh-else now g (ForBind local peer id) e = by g e
  where
    by : (g : Grant) → refresh_purpose now g ≡ Some (ForBind local peer id) → ⊥
    by (Allocation a) e = one (leb now a.expiry) e
      where
        one : (b : Bool) → cond b (Some (ForRefresh (family_of a.relayed) asked_lifetime)) None ≡ Some (ForBind local peer id) → ⊥
        one true e = cc
        one false e = cc
    by g e = grind arith
refresh-else now g p e = tt

pub refreshes-else : (now : ℕ) (s : State) (p : Purpose) → Has p (flat_map (refreshes_in now s) (allocations s)) → IsElse p
refreshes-else now s p there =
    let came = has-flat_map (refreshes_in now s) p (allocations s) there in
    in_relay came.from came.gives
  where
    in_rank : (a : Relay) (rank : ℕ) → Has p (refreshes_of_rank now s (family_of a.relayed) rank) → IsElse p
    in_rank a rank h =
        let (g, due, e) = has-filter_map (refresh_purpose now) p (filter (is_due_in rank (family_of a.relayed) now s) s.grants) h in
        refresh-else now g p e

    in_relay : (a : Relay) → Has p (refreshes_in now s a) → IsElse p
    in_relay a = by_test (λ (l : List Purpose). Has p l → IsElse p) (nat_le now a.expiry) _ []
        (λ e h. let came = has-flat_map (refreshes_of_rank now s (family_of a.relayed)) p (0 ∷ 1 ∷ 2 ∷ []) h in in_rank a came.from came.gives)
        (λ e h. absurd h)

-- ---- a poll

poll-quiet : (now : ℕ) (s : State) → (poll_step now s).1.queue ≡ s.queue
poll-quiet now s =
    by_test Claim (has_event s || has_reply s) _ _ (λ e. refl)
    (λ e. by_found Claim (λ offer. offer_step offer s) (next_offer s) (timed_out_step now s) (λ offer is. refl)
    (by_found Claim (λ x. timed_step s.phase (Some x.id) now (transaction_ended x.id s)) (timed_out_transaction (agent_of s) now) (timed_step s.phase None now s)
    (λ x is. timed s.phase (Some x.id) (transaction_ended x.id s) refl) (timed s.phase None s refl)))
  where
    Claim : TurnPollRet × State → Type 0
    Claim x = x.1.queue ≡ s.queue

    Same : State → Type 0
    Same t = t.queue ≡ s.queue

    answered : (given : Option ℕ) (t : State) → Same t → Same (answer_step given now t).1
    answered given t h = answer-by Same given now t (λ closes. h)

    timed : (p : Phase) (given : Option ℕ) (t : State) → Same t → Same (timed_step p given now t).1
    timed Requesting None t h = answered None t h
    timed Requesting (Some id) t h = h
    timed Authenticating None t h = answered None t h
    timed Authenticating (Some id) t h =
        by_test (λ (u : State). Same (answer_step (Some id) now u).1) (is_listed_for_allocation id t) (closed t) t (λ e. answered (Some id) (closed t) h) (λ e. answered (Some id) t h)
    timed Allocated given t h = answered given (expired_at given now t) ((expired_at-shrinks given now t).queue ∙ h)
    timed p given t h = h

-- it makes no request
poll-within : (now : ℕ) (s : State) (x : Transaction) → Has x (poll_step now s).1.transactions → Has x s.transactions
poll-within now s x there = elim (requests-made (Poll now) s (poll_step now s).1 x (inl refl) (has-contains x (poll_step now s).1.transactions there)) [
  | inl old ↦ contains-has x s.transactions old
  | inr (inl again) ↦ absurd again
  | inr (inr (purpose, at, asks, made)) ↦ absurd asks
]

-- and answers no challenge
abbrev SameHeld : State → State → Type 0
SameHeld s t = t.held ≡ s.held

poll-held : (now : ℕ) (s : State) → (poll_step now s).1.held ≡ s.held
poll-held now s = quiet-walk SameHeld same-edits (Poll now) s tt
  where
    same-edits : KeepsEdits SameHeld
    same-edits = phase-edits SameHeld (record {
      rest = λ s t. refl;
      trans = λ s t u first later. later ∙ first;
      sends = λ now s. refl;
      begins = λ now s new. refl;
      ends = λ s. refl;
    })

-- ---- all of them

module _ (call : Call) (s : State) (holds : HoldsChallenge s) where
  abbrev pub IsHeldBy : Challenge → Type 0
  IsHeldBy d = s.held ≡ Some d

  abbrev pub After : State → Type 0
  After t = Queues (IsAskedNow call s) IsHeldBy s t

  -- of what a call returns, the state
  abbrev Leaves : {A : Type 0} → A × State → Type 0
  Leaves x = After x.1

  same : (t : State) → t.queue ≡ s.queue → t.transactions ≡ s.transactions → t.held ≡ s.held → After t
  same t e f g = queues-same (IsAskedNow call s) IsHeldBy s t e (λ x there. subst (Has x) f there) (λ d held. sym g ∙ held)

  still-held : (d : Challenge) → s.held ≡ Some d → s.held ≡ Some d
  still-held d held = held

  allocated-held : is_allocated s.phase ≡ true → (d : Challenge) × (s.held ≡ Some d)
  allocated-held e = held-some s.held (phase-held s.phase s.held holds e)

  -- a request for this, by a client that differs in grants and queues alone
  request : (u : State) (p : Purpose) → u.config ≡ s.config → u.held ≡ s.held → is_allocated s.phase ≡ true → Requests IsHeldBy s.config p (request_for u p (fresh_id s))
  request u p config held e = let (d, is) = allocated-held e in (u, (config, (d, held ∙ is, is)), (fresh_id s, refl))

  -- it is queued for the control connection, and outstanding
  asks : (u : State) (p : Purpose) (new : Transaction) → u.config ≡ s.config → u.held ≡ s.held → is_allocated s.phase ≡ true → IsElse p → IsAskedNow call s p
      → new.request ≡ request_for u p (fresh_id s)
      → Adds (GoesOut (IsAskedNow call s) IsHeldBy s) s.queue (s.queue ++ record { packet = to_server s s.local (request_for u p (fresh_id s)); is_request = true } ∷ [])
      × ((x : Transaction) → Has x (s.transactions ++ new ∷ []) → IsOutstandingText (IsAskedNow call s) IsHeldBy s x.request)
      × ((d : Challenge) → s.held ≡ Some d → s.held ≡ Some d)
  asks u p new config held e other asked is =
      let text = request u p config held e in (
        one-queued (IsAskedNow call s) IsHeldBy s s.local (request_for u p (fresh_id s)) true refl (inl (p, other, asked, text)),
        one-outstanding (IsAskedNow call s) IsHeldBy s s.transactions new (λ x there. there)
            (inl (p, asked, subst (Requests IsHeldBy s.config p) (sym is) text)),
        still-held,
      )

  -- a request of the server is answered
  response : (id : ℕ) (text : List ℕ) → is_allocated s.phase ≡ true → (text ≡ accepted_reply s id) ⊎ ((r : Refusal) × Has r refusals × (text ≡ refused_reply r.code r.reason s id))
      → Responds IsHeldBy s.config text
  response id text e says = let (d, is) = allocated-held e in (s, (refl, (d, is, is)), (id, says))

  answers : (text : List ℕ) → Responds IsHeldBy s.config text
      → Adds (GoesOut (IsAskedNow call s) IsHeldBy s) s.queue (s.queue ++ record { packet = to_server s s.local text; is_request = false } ∷ [])
  answers text responds = one-queued (IsAskedNow call s) IsHeldBy s s.local text false refl (inr responds)

  allocation-queues : {E : Type 0} (o : Option Relay) (ip : IpAddr) (now : ℕ) (refusal : E) (otherwise : Result Unit E × State) → Leaves otherwise → Leaves (in_allocation o ip now refusal s otherwise)
  allocation-queues None ip now refusal otherwise h = same s refl refl refl
  allocation-queues (Some a) ip now refusal otherwise h =
      by_test Leaves (is_past now a) (Err refusal, with_expired (family_of_ip ip) s) otherwise (λ e. same (with_expired (family_of_ip ip) s) refl refl refl) (λ e. h)

  refused-queues : (id : ℕ) (peer : SocketAddr) (origin : Origin) → is_allocated s.phase ≡ true → After (socket_refused id peer origin s)
  refused-queues id peer (ServerRequest request) e = (
    answers (refused_reply connection_timed_out (codes "Connection Timeout or Failure") s request)
        (response request _ e (inr (record { code = 447; reason = codes "Connection Timeout or Failure" }, inr (inr (inl refl)), refl))),
    fewer-outstanding (IsAskedNow call s) IsHeldBy s s.transactions (λ x there. there),
    still-held,
  )
  refused-queues id peer origin e = same (offer_taken id peer s) refl refl refl

  -- what is sent is queued no more
  fewer : (t : State) → ((q : Queued) → Has q t.queue → Has q s.queue) → ((x : Transaction) → Has x t.transactions → (y : Transaction) × Has y s.transactions × (x.request ≡ y.request)) → t.held ≡ s.held → After t
  fewer t within bytes same = (λ q there. inl (within q there), λ x there. inl (bytes x there), λ d held. sym same ∙ held)

  as-before : (x : Transaction) → Has x s.transactions → (y : Transaction) × Has y s.transactions × (x.request ≡ y.request)
  as-before x there = (x, there, refl)

-- the caller requests a channel
module _ (peer : SocketAddr) (transport : TransportType) (now : ℕ) (s : State) (holds : HoldsChallenge s) where
  abbrev binding : Call
  binding = BindChannel transport peer now

  bound_by-queues : (times : List ℕ) (b : Bool) → is_allocated s.phase ≡ b → (o : Option ℕ) → free_number s ≡ o → Leaves binding s holds (bound_by peer now s times b o)
  bound_by-queues [] true e (Some number) f =
      asks binding s holds s (ForChannel number peer) _ refl refl e tt ((waits_from now s, (refl, (number, f, refl))), tt) refl
  bound_by-queues [] true e None f = same binding s holds s refl refl refl
  bound_by-queues [] false e o f = same binding s holds s refl refl refl
  bound_by-queues (until ∷ others) b e o f = same binding s holds s refl refl refl

-- a packet is sent
module _ (now : ℕ) (s : State) (holds : HoldsChallenge s) where
  abbrev sending : Call
  sending = PollTransmit now

  abbrev Sends : Option (Transmit (List ℕ)) × State → Type 0
  Sends x = After sending s holds x.1

  idle-queues : (p : Phase) → s.phase ≡ p → Sends (idle_step p now s)
  idle-queues New phase = (
    λ q there. inl there,
    one-outstanding (IsAskedNow sending s) (IsHeldBy sending s holds) s s.transactions _ (λ x there. there) (inr (record s { phase = Requesting }, refl, (fresh_id s, refl))),
    still-held sending s holds,
  )
  idle-queues Allocated phase =
      by_found Sends _ (next_refresh now s) (keepalive_step now s) refreshed
      (by_test Sends (list_any (λ time. nat_le time now) (keepalive_times s)) _ (None, s)
      (λ e. fewer sending s holds (sent now (id_used s)) (λ q there. there) (as-before sending s holds) refl) (λ e. same sending s holds s refl refl refl))
    where
      refreshed : (p : Purpose) → next_refresh now s ≡ Some p → Sends (sent_at_once (request_for s p (fresh_id s)) p now s)
      refreshed p e =
          let other = refreshes-else now s p (first-has p (flat_map (refreshes_in now s) (allocations s)) e) in
          let text = request sending s holds s p refl refl (ap is_allocated phase) in (
            λ q there. inl there,
            one-outstanding (IsAskedNow sending s) (IsHeldBy sending s holds) s s.transactions _ (λ x there. there)
                (inl (p, ((now, (refl, inr (phase, e))), else-opened sending s p other), text)),
            still-held sending s holds,
          )
  idle-queues p phase = same sending s holds s refl refl refl

  transmit-queues : Sends (transmit_step now s)
  transmit-queues =
      by_found Sends _ (due (agent_of s) now) _ (λ t e. fewer sending s holds (sent now (record s { transactions = resent t.id now s.transactions })) (λ q there. there) (resent-bytes t.id now s.transactions) refl)
      (by_test Sends (is_paused now s) (reply_step s) (queue_step now s) (λ e. fewer sending s holds (reply_step s).1 (unreplied-has s.queue) (as-before sending s holds) refl)
      (λ e. by_found Sends _ (next_queued now s) (idle_step s.phase now s) (λ q f. front q) (idle-queues s.phase refl)))
    where
      front : (q : Queued) → After sending s holds (front_sent now q (settled s))
      front q =
          fewer sending s holds (front_sent now q (settled s)) (λ x there. settled-queued s x (has-dropped (settled s).queue x there))
          (λ x there. let (y, h, e) = front-bytes now q (settled s) x there in (y, settled-has s y h, e)) refl

-- the caller opened a data connection, or could not
module _ (id : ℕ) (tuple : Socket5Tuple) (peer : SocketAddr) (now : ℕ) (s : State) (holds : HoldsChallenge s) where
  module _ (local : SocketAddr) (accepted : (allocated_tcp_socket_step id tuple peer (Some local) now s).0 ≡ Ok tt) (phase : is_allocated s.phase ≡ true) where
    abbrev naming : Call
    naming = AllocatedTcpSocket id tuple peer (Some local) now

    -- in whatever state it is requested
    asked-queues : (u : State) → u.config ≡ s.config → u.transport ≡ s.transport → u.remote ≡ s.remote → u.held ≡ s.held → u.transactions ≡ s.transactions
        → Adds (GoesOut (IsAskedNow naming s) (IsHeldBy naming s holds) s) s.queue u.queue → After naming s holds (requested (fresh_id s) (ForBind local peer id) now u)
    asked-queues u config transport to held transactions before =
        let asked : IsAskedNow naming s (ForBind local peer id) = ((waits_from now s, (refl, refl)), (tuple, now, refl, accepted)) in
        let text = request naming s holds u (ForBind local peer id) config held phase in (
          adds-one (GoesOut (IsAskedNow naming s) (IsHeldBy naming s holds) s) s.queue u.queue _ before (transport, to, inr (peer, id, asked, text)),
          one-outstanding (IsAskedNow naming s) (IsHeldBy naming s holds) s u.transactions _ (λ x there. subst (Has x) transactions there) (inl (ForBind local peer id, asked, text)),
          λ d e. sym held ∙ e,
        )

    opened-queues : (origin : Origin) → After naming s holds (socket_opened id peer local origin now s)
    opened-queues (ServerRequest request) =
        let c = Connection (record { local = local; peer = peer; deadline = Some (later_by bind_time now) }) in
        asked-queues (with_grant c (answered_with (accepted_reply s) (ServerRequest request) (offer_taken id peer s))) refl refl refl refl refl
        (answers naming s holds (accepted_reply s request) (response naming s holds request _ phase (inl refl)))
    opened-queues origin =
        let c = Connection (record { local = local; peer = peer; deadline = Some (later_by bind_time now) }) in
        asked-queues (with_grant c (offer_taken id peer s)) refl refl refl refl refl (adds-same (GoesOut (IsAskedNow naming s) (IsHeldBy naming s holds) s) s.queue)

  pub socket-queues : (local : Option SocketAddr) → After (AllocatedTcpSocket id tuple peer local now) s holds (allocated_tcp_socket_step id tuple peer local now s).1
  socket-queues local =
      by_test Claim (same_transport s.config.allocation_transport Tcp && is_control tuple s && is_allocated s.phase) _ _
      (λ e. by_found Claim (λ origin. socket_step id peer local origin now s) (offer_origin id peer s) _
      (λ origin f. of local origin (and_parts (same_transport s.config.allocation_transport Tcp && is_control tuple s) (is_allocated s.phase) e).1) (λ is. same (taking local) s holds s refl refl refl))
      (λ e is. same (taking local) s holds s refl refl refl) refl
    where
      taking : Option SocketAddr → Call
      taking at = AllocatedTcpSocket id tuple peer at now

      -- what the call returns
      Claim : Result Unit TcpAllocateError × State → Type 0
      Claim x = allocated_tcp_socket_step id tuple peer local now s ≡ x → After (taking local) s holds x.1

      of : (at : Option SocketAddr) (origin : Origin) → is_allocated s.phase ≡ true → allocated_tcp_socket_step id tuple peer at now s ≡ socket_step id peer at origin now s
          → After (taking at) s holds (socket_step id peer at origin now s).1
      of None origin phase e = refused-queues (taking None) s holds id peer origin phase
      of (Some at) origin phase e =
          by_test (λ (x : Result Unit TcpAllocateError × State). allocated_tcp_socket_step id tuple peer (Some at) now s ≡ x → After (taking (Some at)) s holds x.1) (is_local_taken at s) _ _
          (λ g is. same (taking (Some at)) s holds s refl refl refl)
          (λ g is. opened-queues at (ap (λ (x : Result Unit TcpAllocateError × State). x.0) is) phase origin) e

pub call-queues : (call : Call) (s : State) (holds : HoldsChallenge s) → (TakesInput call → ⊥) → After call s holds (state_after call s)
call-queues (Recv packet now) s holds other = absurd (other tt)
call-queues (PollRecv now) s holds other = absurd (other tt)
call-queues (Delete now) s holds other =
    let call = Delete now in
    by_test (Leaves call s holds) (is_allocated s.phase) (Ok tt, deleted now s) _
    (λ e. asks call s holds s (ForRefresh IPV4 0) _ refl refl e tt ((waits_from now s, (refl, (IPV4, refl))), tt) refl) (λ e. same call s holds s refl refl refl)
call-queues (CreatePermission transport ip now) s holds other =
    let call = CreatePermission transport ip now in
    let u = with_grant (Permission ip (Pending true)) s in
    allocation-queues call s holds (find_allocation_to transport ip s) ip now _ (permission_step ip now s)
    (by_test (Leaves call s holds) (is_some (permission_state ip s)) _ _ (λ e. same call s holds s refl refl refl)
    (λ e. by_test (Leaves call s holds) (not (is_allocated s.phase)) _ _ (λ f. same call s holds s refl refl refl)
    (λ f. asks call s holds u (ForPermission ip) _ refl refl (not-false (is_allocated s.phase) f) tt ((waits_from now s, (refl, refl)), tt) refl)))
call-queues (BindChannel transport peer now) s holds other =
    let call = BindChannel transport peer now in
    allocation-queues call s holds (find_allocation_to transport (socket_ip peer) s) (socket_ip peer) now _ (channel_step peer now s)
    (by_test (Leaves call s holds) (list_any is_in_progress (channels_to peer s)) _ _ (λ e. same call s holds s refl refl refl)
    (λ e. bound_by-queues peer transport now s holds (filter_map (reserved_from now) (channels_to peer s)) (is_allocated s.phase) refl (free_number s) refl))
call-queues (TcpConnect peer now) s holds other =
    let call = TcpConnect peer now in
    let u = with_grant (Connect peer) s in
    allocation-queues call s holds (find_allocation_to Tcp (socket_ip peer) s) (socket_ip peer) now _ (connect_step peer now s)
    (by_test (Leaves call s holds) (not (is_allocated s.phase)) _ _ (λ e. same call s holds s refl refl refl)
    (λ e. by_test (Leaves call s holds) (not (has_active_permission (socket_ip peer) s)) _ _ (λ f. same call s holds s refl refl refl)
    (λ f. by_test (Leaves call s holds) (is_connected peer s || is_connecting peer s) _ _ (λ g. same call s holds s refl refl refl)
    (λ g. asks call s holds u (ForConnect peer) _ refl refl (not-false (is_allocated s.phase) e) tt ((waits_from now s, (refl, refl)), tt) refl))))
call-queues (AllocatedTcpSocket id tuple peer local now) s holds other = socket-queues id tuple peer now s holds local
call-queues (TcpClosed local remote now) s holds other =
    let call = TcpClosed local remote now in
    by_test (After call s holds) (same_transport s.transport Tcp && same_address remote s.remote) _ s
    (λ e. by_test (After call s holds) (is_some (connection_at local s)) _ s (λ f. same call s holds (record (without_grants (is_connection_from local) s) { closes = local ∷ s.closes }) refl refl refl)
    (λ f. same call s holds s refl refl refl))
    (λ e. same call s holds s refl refl refl)
call-queues (SendTo transport peer bytes now) s holds other =
    let call = SendTo transport peer bytes now in
    send_to-by (After call s holds) transport peer bytes now s (λ ids. same call s holds (record s { ids = ids }) refl refl refl)
call-queues (Poll now) s holds other =
    queues-same (IsAskedNow (Poll now) s) (IsHeldBy (Poll now) s holds) s (poll_step now s).1 (poll-quiet now s) (poll-within now s) (λ d held. sym (poll-held now s) ∙ held)
call-queues (PollTransmit now) s holds other = transmit-queues now s holds
call-queues PollEvent s holds other = same PollEvent s holds (state_after PollEvent s) refl refl refl
call-queues ProtocolError s holds other =
    by_test (After ProtocolError s holds) (is_closed s.phase) s (closed (fail_all s)) (λ e. same ProtocolError s holds s refl refl refl)
    (λ e. same ProtocolError s holds (closed (fail_all s)) refl refl refl)
call-queues RelayedAddresses s holds other = same RelayedAddresses s holds s refl refl refl
call-queues (Permissions transport relayed) s holds other = same (Permissions transport relayed) s holds s refl refl refl
call-queues (HavePermission transport to) s holds other = same (HavePermission transport to) s holds s refl refl refl
call-queues (SetPermissionKept transport ip is_kept) s holds other =
    let call = SetPermissionKept transport ip is_kept in
    by_test (Leaves call s holds) (same_transport transport s.config.allocation_transport && list_any (is_permission_of ip) s.grants) _ _
    (λ e. same call s holds (with_marks (is_permission_of ip) is_kept s) refl refl refl) (λ e. same call s holds s refl refl refl)
call-queues (SetChannelKept transport peer is_kept) s holds other =
    let call = SetChannelKept transport peer is_kept in
    by_test (Leaves call s holds) (same_transport transport s.config.allocation_transport && list_any (is_open_to peer) s.grants) _ _
    (λ e. same call s holds (with_marks (is_open_to peer) is_kept s) refl refl refl) (λ e. same call s holds s refl refl refl)

-- ---- which call requests to bind a data connection

module _ (local peer : SocketAddr) (id : ℕ) where
  abbrev IsNamedBy : Call → Type 0
  IsNamedBy call = (tuple : Socket5Tuple) × (now : ℕ) × (call ≡ AllocatedTcpSocket id tuple peer (Some local) now)

  for-itself : (request : Purpose) → IsListedFor request (ForBind local peer id) → request ≡ ForBind local peer id
  for-itself request (inl e) = sym e
  for-itself (ForChannel number to) (inr brings) = absurd brings
  for-itself request (inr brings) = absurd brings

  asks-bind : (call : Call) (s : State) (at : ℕ) → AsksFor call s (ForBind local peer id) at → IsNamedBy call
  asks-bind (Delete now) s at (e, (family, f)) = cc
  asks-bind (CreatePermission transport ip now) s at (e, f) = cc
  asks-bind (BindChannel transport to now) s at (e, (number, free, f)) = cc
  asks-bind (TcpConnect to now) s at (e, f) = cc
  asks-bind (AllocatedTcpSocket other tuple to (Some end) now) s at (e, f) = (tuple, now, sym (ap as-call f))
    where
      as-call : Purpose → Call
      as-call (ForBind a b n) = AllocatedTcpSocket n tuple b (Some a) now
      as-call p = Poll now
  asks-bind (PollTransmit now) s at (e, inl (phase, f)) = cc
  asks-bind (PollTransmit now) s at (e, inr (phase, f)) = absurd (refreshes-else now s (ForBind local peer id) (first-has (ForBind local peer id) (flat_map (refreshes_in now s) (allocations s)) f))
  asks-bind call s at asks = absurd asks

  pub listed-opens : (call : Call) (s : State) (l : Listing) → (TakesInput call → ⊥) → l.purpose ≡ ForBind local peer id
      → Has l (state_after call s).listed → Has l s.listed ⊎ OpensFor call s local peer id
  listed-opens call s l other is there = elim (listings-made call s (state_after call s) l (inl refl) (has-contains l (state_after call s).listed there)) [
    | inl old ↦ inl (contains-has l s.listed old)
    | inr made ↦ elim (listing-here call s) [
      | inl takes ↦ absurd (other takes)
      | inr own ↦
          let (request, at, asks, for, more) = own l made in
          let same = for-itself request (subst (IsListedFor request) is for) in
          named (asks-bind call s at (subst (λ (p : Purpose). AsksFor call s p at) same asks))
    ]
  ]
    where
      named : IsNamedBy call → Has l s.listed ⊎ OpensFor call s local peer id
      named (tuple, now, e) = elim (opens-or id tuple peer local now s) [
        | inl accepted ↦ inr (tuple, now, e, accepted)
        | inr same ↦ inl (subst (λ (t : State). Has l t.listed) (ap (λ (c : Call). state_after c s) e ∙ same) there)
      ]
