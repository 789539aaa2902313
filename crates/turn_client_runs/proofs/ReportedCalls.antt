-- A call that takes no input tells nothing anew, but for what it requests.
use Rattle.turn_client_laws.proofs.Common.{◌≡◌, ◌∙◌, ℕ, ◌+◌, ◌≤◌, Bool, true, false, cond, ◌&&◌, eqb, List, [], ◌∷◌, ◌++◌, filter, flat_map, Option, Some, None, Result, refl, sym, arith, inl, inr}
use Rattle.turn_client_laws.proofs.Common.{nat_le, slice_get, ⊤, list_any, and_parts, cases_Bool, false_from_ne_true, none-some, IpAddr, SocketAddr}
use Rattle.turn_client_laws.proofs.Machine.{TransportType, Tcp, due, same_address, State, agent_of, later_by, Call, Delete, CreatePermission, BindChannel, TcpConnect, AllocatedTcpSocket, TcpClosed}
use Rattle.turn_client_laws.proofs.Machine.{SendTo, Recv, PollRecv, Poll, PollTransmit, PollEvent, RelayedAddresses, Permissions, HavePermission, ProtocolError, SetPermissionKept, SetChannelKept}
use Rattle.turn_client_laws.proofs.Machine.{TurnEvent, DataConnection, Grant, Connection, Offer, Origin, ServerRequest, Relay, Phase, New, Allocated, deleted, in_allocation, is_allocated, is_closed}
use Rattle.turn_client_laws.proofs.Machine.{is_control, is_granted_in, is_local_taken, is_offer_of, is_open_to, keep_step, marked, marked_if, offer_origin, offer_taken, socket_opened, socket_refused}
use Rattle.turn_client_laws.proofs.Machine.{socket_step, with_marks, without_first, is_paused, keepalive_times, closed, fail_all, allocations, changed_allocation, family_of_ip, is_of_family, is_past}
use Rattle.turn_client_laws.proofs.Machine.{is_permission_of, same_transport, with_expired, without_grants, connection_gone, bind_time, state_after, idle_step, keepalive_step, next_queued, queue_step}
use Rattle.turn_client_laws.proofs.Machine.{refreshes_in, reply_step, transmit_step, same_address-true, filter-none}
use Rattle.turn_client_laws.proofs.Laws.{by_found, by_test, send_to-by, has-any}
use Rattle.turn_client_runs.specs.Reported.{is_to_come}
use Rattle.turn_client_runs.proofs.LastingCounts.{passes, passes-append}
use Rattle.turn_client_runs.proofs.ReportedLemmas.{Spends, connection-comes, is_of_connection, offer-comes, spends-mapped, spends-removed, spends-same, spends-trans}
use Rattle.turn_client_runs.proofs.ReportedInputs.{gone-spends}
use Rattle.turn_client_runs.proofs.ReportedAllocates.{fail-spends}
use Rattle.turn_client_runs.proofs.ReportedReplies.{changed-comes}
use Rattle.turn_client_runs.proofs.ReportedTime.{poll-spends}

marked-comes : (e : TurnEvent) (is_kept : Bool) (g : Grant) → is_to_come e (marked is_kept g) ≡ is_to_come e g
marked-comes e is_kept g = grind arith

-- one of these is taken, of each of which the event may come or not
first-taken : (p which : Grant → Bool) (b : Bool) (gs : List Grant) → list_any which gs ≡ true → ((g : Grant) → which g ≡ true → p g ≡ b)
    → passes p (without_first which gs) + cond b 1 0 ≤ passes p gs
first-taken p which b [] some each = cc
first-taken p which b (g ∷ gs) some each = elim (cases_Bool (which g)) [
  | inl f ↦ rw (f, each g f) (omega arith)
  | inr f ↦ rw f (omega (arith, first-taken p which b gs (rw f at some) each))
]

offer-of : (e : TurnEvent) (id : ℕ) (peer : SocketAddr) (g : Grant) → is_offer_of id peer g ≡ true → is_to_come e g ≡ is_of_connection e peer
offer-of e id peer (Offer offer) is =
    let same = same_address-true offer.peer peer (and_parts (eqb offer.connection_id id) (same_address offer.peer peer) is).1 in
    offer-comes e offer ∙ rw same refl
offer-of e id peer g is = cc

offer-there : (id : ℕ) (peer : SocketAddr) (origin : Origin) (s : State) → offer_origin id peer s ≡ Some origin → list_any (is_offer_of id peer) s.grants ≡ true
offer-there id peer origin s found = elim (cases_Bool (list_any (is_offer_of id peer) s.grants)) [
  | inl is ↦ is
  | inr none ↦
      let empty : filter (is_offer_of id peer) s.grants ≡ [] = filter-none (is_offer_of id peer) s.grants (λ g there. false_from_ne_true (is_offer_of id peer g) (λ is.
      let no : true ≡ false = sym (has-any (is_offer_of id peer) g s.grants there is) ∙ none in cc)) in
      absurd (none-some origin (rw empty at found))
]

module _ (e : TurnEvent) (s : State) where
  abbrev Leaves : {A : Type 0} → A × State → Type 0
  Leaves x = Spends e s x.1

  same : Spends e s s
  same = spends-same e s s refl refl refl

  -- what waits, what is granted and what is requested stays
  stays : (t : State) → t.events ≡ s.events → t.grants ≡ s.grants → t.families ≡ s.families → Spends e s t
  stays t events grants families = spends-same e s t events grants families

  -- ---- an allocation that can be used

  expired : (ip : IpAddr) → Spends e s (with_expired (family_of_ip ip) s)
  expired ip = spends-mapped e (changed_allocation which change) (changed-comes e which change) s (with_expired (family_of_ip ip) s) refl refl refl
    where
      which : Relay → Bool
      which a = is_of_family (family_of_ip ip) a.relayed

      change : Relay → Relay
      change a = record a { is_expired = true }

  -- refused, or as it is otherwise
  pub in-allocation : {E : Type 0} (P : Result Unit E × State → Type 0) (o : Option Relay) (ip : IpAddr) (now : ℕ) (refusal : E) (otherwise : Result Unit E × State)
      → ((x : Result Unit E × State) → Spends e s x.1 → P x) → P otherwise → P (in_allocation o ip now refusal s otherwise)
  in-allocation P None ip now refusal otherwise refused h = refused _ same
  in-allocation P (Some a) ip now refusal otherwise refused h = by_test P (is_past now a) _ otherwise (λ f. refused _ (expired ip)) (λ f. h)

  -- ---- data connections

  -- an offer, and the connection that is opened for it
  taken : (id : ℕ) (peer : SocketAddr) (origin : Origin) → offer_origin id peer s ≡ Some origin
      → passes (is_to_come e) (offer_taken id peer s).grants + cond (is_of_connection e peer) 1 0 ≤ passes (is_to_come e) s.grants
  taken id peer origin found = first-taken (is_to_come e) (is_offer_of id peer) (is_of_connection e peer) s.grants (offer-there id peer origin s found) (offer-of e id peer)

  opens : (id : ℕ) (peer local : SocketAddr) (origin : Origin) (time : ℕ) (t : State) → offer_origin id peer s ≡ Some origin → t.events ≡ s.events
      → t.grants ≡ (offer_taken id peer s).grants ++ Connection (record { local = local; peer = peer; deadline = Some time }) ∷ [] → t.families ≡ s.families → Spends e s t
  opens id peer local origin time t found events grants families =
      let c : DataConnection = record { local = local; peer = peer; deadline = Some time } in
      let fits : cond (is_to_come e (Connection c)) 1 0 ≤ cond (is_of_connection e peer) 1 0 = rw (connection-comes e c) (omega arith) in
      rw (events, grants, families) (omega (arith, fits, taken id peer origin found, passes-append (is_to_come e) (offer_taken id peer s).grants (Connection c ∷ [])))

  opened-leaves : (id : ℕ) (peer local : SocketAddr) (origin : Origin) (now : ℕ) → offer_origin id peer s ≡ Some origin → Spends e s (socket_opened id peer local origin now s)
  opened-leaves id peer local (ServerRequest request) now found =
      opens id peer local (ServerRequest request) (later_by bind_time now) (socket_opened id peer local (ServerRequest request) now s) found refl refl refl
  opened-leaves id peer local origin now found = opens id peer local origin (later_by bind_time now) (socket_opened id peer local origin now s) found refl refl refl

  refused-leaves : (id : ℕ) (peer : SocketAddr) (origin : Origin) → offer_origin id peer s ≡ Some origin → Spends e s (socket_refused id peer origin s)
  refused-leaves id peer (ServerRequest request) found = omega (arith, taken id peer (ServerRequest request) found)
  refused-leaves id peer origin found = omega (arith, taken id peer origin found)

  socket-leaves : (id : ℕ) (peer : SocketAddr) (local : Option SocketAddr) (origin : Origin) (now : ℕ) → offer_origin id peer s ≡ Some origin → Leaves (socket_step id peer local origin now s)
  socket-leaves id peer None origin now found = refused-leaves id peer origin found
  socket-leaves id peer (Some local) origin now found = by_test Leaves (is_local_taken local s) _ _ (λ f. same) (λ f. opened-leaves id peer local origin now found)

  -- ---- packets

  abbrev Sends : {A : Type 0} → A × State → Type 0
  Sends x = (x.1.events ≡ s.events) × (x.1.grants ≡ s.grants) × (x.1.families ≡ s.families)

  idle-sends : (p : Phase) (now : ℕ) → Sends (idle_step p now s)
  idle-sends New now = (refl, refl, refl)
  idle-sends Allocated now = by_found Sends _ (slice_get (flat_map (refreshes_in now s) (allocations s)) 0) (keepalive_step now s) (λ purpose f. (refl, refl, refl))
      (by_test Sends (list_any (λ time. nat_le time now) (keepalive_times s)) _ (None, s) (λ f. (refl, refl, refl)) (λ f. (refl, refl, refl)))
  idle-sends p now = (refl, refl, refl)

  transmit-sends : (now : ℕ) → Sends (transmit_step now s)
  transmit-sends now =
      by_found Sends _ (due (agent_of s) now) _ (λ t f. (refl, refl, refl))
      (by_test Sends (is_paused now s) (reply_step s) (queue_step now s) (λ f. (refl, refl, refl))
      (λ f. by_found Sends _ (next_queued now s) (idle_step s.phase now s) (λ q g. (refl, refl, refl)) (idle-sends s.phase now)))

  -- ---- what is kept, and the end

  marks : (which : Grant → Bool) (is_kept : Bool) → Spends e s (with_marks which is_kept s)
  marks which is_kept = spends-mapped e (marked_if which is_kept)
      (λ g. by_test (λ (h : Grant). is_to_come e h ≡ is_to_come e g) (which g) (marked is_kept g) g (λ is. marked-comes e is_kept g) (λ other. refl)) s (with_marks which is_kept s) refl refl refl

  keep-leaves : (transport : TransportType) (which : Grant → Bool) (is_kept : Bool) → Leaves (keep_step transport which is_kept s)
  keep-leaves transport which is_kept =
      by_test Leaves (same_transport transport s.config.allocation_transport && list_any which s.grants) _ _ (λ f. marks which is_kept) (λ f. same)

  deleted-spends : (now : ℕ) → Spends e s (deleted now s)
  deleted-spends now =
      let t = without_grants is_granted_in s in
      spends-trans e s t (deleted now s) (spends-removed e is_granted_in s t refl refl refl)
      (spends-mapped e (changed_allocation (λ a. true) change) (changed-comes e (λ a. true) change) t (deleted now s) refl refl refl)
    where
      change : Relay → Relay
      change a = record a { expiry = now; is_expired = true }

  -- ---- all of them

  -- it requests nothing of which an event tells, takes no input and no event
  abbrev pub IsQuiet : Call → Type 0
  IsQuiet (CreatePermission transport ip now) = ⊥
  IsQuiet (BindChannel transport peer now) = ⊥
  IsQuiet (TcpConnect peer now) = ⊥
  IsQuiet (Recv packet now) = ⊥
  IsQuiet (PollRecv now) = ⊥
  IsQuiet PollEvent = ⊥
  IsQuiet call = ⊤

  pub quiet-spends : (call : Call) → IsQuiet call → Spends e s (state_after call s)
  quiet-spends (CreatePermission transport ip now) is = absurd is
  quiet-spends (BindChannel transport peer now) is = absurd is
  quiet-spends (TcpConnect peer now) is = absurd is
  quiet-spends (Recv packet now) is = absurd is
  quiet-spends (PollRecv now) is = absurd is
  quiet-spends PollEvent is = absurd is
  quiet-spends (Delete now) is = by_test Leaves (is_allocated s.phase) _ _ (λ f. deleted-spends now) (λ f. same)
  quiet-spends (AllocatedTcpSocket id tuple peer local now) is =
      by_test Leaves (same_transport s.config.allocation_transport Tcp && is_control tuple s && is_allocated s.phase) _ _
      (λ f. by_found Leaves (λ origin. socket_step id peer local origin now s) (offer_origin id peer s) _ (λ origin g. socket-leaves id peer local origin now g) same) (λ f. same)
  quiet-spends (TcpClosed local remote now) is =
      by_test (Spends e s) (same_transport s.transport Tcp && same_address remote s.remote) (connection_gone local s) s (λ f. gone-spends e local s) (λ f. same)
  quiet-spends (SendTo transport peer bytes now) is = send_to-by (Spends e s) transport peer bytes now s (λ ids. stays (record s { ids = ids }) refl refl refl)
  quiet-spends (Poll now) is = poll-spends e now s
  quiet-spends (PollTransmit now) is = let (events, grants, families) = transmit-sends now in stays (transmit_step now s).1 events grants families
  quiet-spends ProtocolError is =
      by_test (Spends e s) (is_closed s.phase) s (closed (fail_all s)) (λ f. same) (λ f. fail-spends e s (closed (fail_all s)) refl refl refl)
  quiet-spends (SetPermissionKept transport ip is_kept) is = keep-leaves transport (is_permission_of ip) is_kept
  quiet-spends (SetChannelKept transport peer is_kept) is = keep-leaves transport (is_open_to peer) is_kept
  quiet-spends RelayedAddresses is = same
  quiet-spends (Permissions transport relayed) is = same
  quiet-spends (HavePermission transport to) is = same
