-- Which events a call adds that processes no input.
use Rattle.turn_client_laws.proofs.Common.{◌≡◌, ◌⊎◌, ℕ, Bool, true, false, not, ◌&&◌, ◌||◌, List, [], ◌∷◌, map, drop, filter_map, flat_map, Option, Some, None, Result, refl, subst, inl, inr, is_some}
use Rattle.turn_client_laws.proofs.Common.{nat_le, slice_get, list_any, socket_ip, IpAddr, SocketAddr}
use Rattle.turn_client_laws.proofs.Machine.{Tcp, due, same_address, State, agent_of, Call, Delete, CreatePermission, BindChannel, TcpConnect, AllocatedTcpSocket, TcpClosed, SendTo, Recv, PollRecv}
use Rattle.turn_client_laws.proofs.Machine.{Poll, PollTransmit, PollEvent, RelayedAddresses, Permissions, HavePermission, ProtocolError, SetPermissionKept, SetChannelKept, TurnEvent}
use Rattle.turn_client_laws.proofs.Machine.{AllocationCreateFailed, Origin, ServerRequest, Relay, Phase, New, Allocated, Closed, bound_by, channel_step, channels_to, connect_step, is_open_to}
use Rattle.turn_client_laws.proofs.Machine.{free_number, in_allocation, is_allocated, is_closed, is_control, is_in_progress, is_local_taken, offer_origin, permission_step, reserved_from}
use Rattle.turn_client_laws.proofs.Machine.{socket_opened, socket_refused, socket_step, connection_at, is_connected, is_connecting, is_paused, keepalive_times, closed, fail_all, allocations}
use Rattle.turn_client_laws.proofs.Machine.{find_allocation_to, has_active_permission, is_past, permission_state, same_transport, connection_gone, state_after, idle_step, keepalive_step, next_queued, queue_step}
use Rattle.turn_client_laws.proofs.Machine.{refreshes_in, reply_step, transmit_step, Has, has-append, is_permission_of}
use Rattle.turn_client_laws.proofs.Laws.{TakesInput, by_found, by_test, send_to-by, has-mapped, has-contains}
use Rattle.turn_client_runs.specs.Events.{FailsItself}
use Rattle.turn_client_runs.proofs.EventTime.{poll-adds}

module _ (s : State) where
  abbrev Same : State → Type 0
  Same t = t.events ≡ s.events

  -- of what a call returns, the state
  abbrev Leaves : {A : Type 0} → A × State → Type 0
  Leaves x = Same x.1

  allocation-leaves : {E : Type 0} (o : Option Relay) (ip : IpAddr) (now : ℕ) (refusal : E) (otherwise : Result Unit E × State) → Leaves otherwise → Leaves (in_allocation o ip now refusal s otherwise)
  allocation-leaves None ip now refusal otherwise h = refl
  allocation-leaves (Some a) ip now refusal otherwise h = by_test Leaves (is_past now a) _ otherwise (λ e. refl) (λ e. h)

  bound_by-leaves : (peer : SocketAddr) (now : ℕ) (times : List ℕ) (b : Bool) (o : Option ℕ) → Leaves (bound_by peer now s times b o)
  bound_by-leaves peer now (until ∷ others) b o = refl
  bound_by-leaves peer now [] false o = refl
  bound_by-leaves peer now [] true None = refl
  bound_by-leaves peer now [] true (Some number) = refl

  opened-leaves : (id : ℕ) (peer local : SocketAddr) (origin : Origin) (now : ℕ) → Same (socket_opened id peer local origin now s)
  opened-leaves id peer local (ServerRequest request) now = refl
  opened-leaves id peer local origin now = refl

  refused-leaves : (id : ℕ) (peer : SocketAddr) (origin : Origin) → Same (socket_refused id peer origin s)
  refused-leaves id peer (ServerRequest request) = refl
  refused-leaves id peer origin = refl

  socket-leaves : (id : ℕ) (peer : SocketAddr) (local : Option SocketAddr) (origin : Origin) (now : ℕ) → Leaves (socket_step id peer local origin now s)
  socket-leaves id peer None origin now = refused-leaves id peer origin
  socket-leaves id peer (Some local) origin now = by_test Leaves (is_local_taken local s) _ _ (λ e. refl) (λ e. opened-leaves id peer local origin now)

  idle-leaves : (p : Phase) (now : ℕ) → Leaves (idle_step p now s)
  idle-leaves New now = refl
  idle-leaves Allocated now = by_found Leaves _ (slice_get (flat_map (refreshes_in now s) (allocations s)) 0) (keepalive_step now s) (λ purpose e. refl)
      (by_test Leaves (list_any (λ time. nat_le time now) (keepalive_times s)) _ (None, s) (λ e. refl) (λ e. refl))
  idle-leaves p now = refl

  transmit-leaves : (now : ℕ) → Leaves (transmit_step now s)
  transmit-leaves now =
      by_found Leaves _ (due (agent_of s) now) _ (λ t e. refl)
      (by_test Leaves (is_paused now s) (reply_step s) (queue_step now s) (λ e. refl)
      (λ e. by_found Leaves _ (next_queued now s) (idle_step s.phase now s) (λ q f. refl) (idle-leaves s.phase now)))

  pub gone-events : (local : SocketAddr) → Same (connection_gone local s)
  gone-events local = by_test Same (is_some (connection_at local s)) _ s (λ e. refl) (λ e. refl)

  -- ---- which of them wait

  module _ (e : TurnEvent) where
    abbrev Adds : Call → Type 0
    Adds call = Has e (state_after call s).events → Has e s.events ⊎ FailsItself e call s

    none : (call : Call) → Same (state_after call s) → Adds call
    none call same there = inl (subst (Has e) same there)

    fewer : (events : List TurnEvent) → Has e (drop 1 events) → Has e events
    fewer [] there = there
    fewer (x ∷ events) there = inr there

    error-adds : Adds ProtocolError
    error-adds =
        by_test (λ (t : State). Has e t.events → Has e s.events ⊎ FailsItself e ProtocolError s) (is_closed s.phase) s (closed (fail_all s)) (λ f there. inl there)
        (λ f there. elim (has-append e s.events (map AllocationCreateFailed s.families) there) [
          | inl old ↦ inl old
          | inr failed ↦
              let (family, wanted, named) = has-mapped AllocationCreateFailed e s.families failed in
              inr (running f, (family, named, has-contains family s.families wanted))
        ])
      where
        running : is_closed s.phase ≡ false → s.phase ≡ Closed → ⊥
        running f e = let no : is_closed Closed ≡ false = subst (λ (p : Phase). is_closed p ≡ false) e f in cc

    pub call-adds : (call : Call) → (TakesInput call → ⊥) → Adds call
    call-adds (Recv packet now) other = absurd (other tt)
    call-adds (PollRecv now) other = absurd (other tt)
    call-adds (Delete now) other = none (Delete now) (by_test Leaves (is_allocated s.phase) _ _ (λ f. refl) (λ f. refl))
    call-adds (CreatePermission transport ip now) other =
        none (CreatePermission transport ip now) (allocation-leaves (find_allocation_to transport ip s) ip now _ (permission_step ip now s)
        (by_test Leaves (is_some (permission_state ip s)) _ _ (λ f. refl) (λ f. by_test Leaves (not (is_allocated s.phase)) _ _ (λ f. refl) (λ f. refl))))
    call-adds (BindChannel transport peer now) other =
        none (BindChannel transport peer now) (allocation-leaves (find_allocation_to transport (socket_ip peer) s) (socket_ip peer) now _ (channel_step peer now s)
        (by_test Leaves (list_any is_in_progress (channels_to peer s)) _ _ (λ f. refl)
        (λ f. bound_by-leaves peer now (filter_map (reserved_from now) (channels_to peer s)) (is_allocated s.phase) (free_number s))))
    call-adds (TcpConnect peer now) other =
        none (TcpConnect peer now) (allocation-leaves (find_allocation_to Tcp (socket_ip peer) s) (socket_ip peer) now _ (connect_step peer now s)
        (by_test Leaves (not (is_allocated s.phase)) _ _ (λ f. refl)
        (λ f. by_test Leaves (not (has_active_permission (socket_ip peer) s)) _ _ (λ f. refl)
        (λ f. by_test Leaves (is_connected peer s || is_connecting peer s) _ _ (λ f. refl) (λ f. refl)))))
    call-adds (AllocatedTcpSocket id tuple peer local now) other =
        none (AllocatedTcpSocket id tuple peer local now)
        (by_test Leaves (same_transport s.config.allocation_transport Tcp && is_control tuple s && is_allocated s.phase) _ _
        (λ f. by_found Leaves (λ origin. socket_step id peer local origin now s) (offer_origin id peer s) _ (λ origin g. socket-leaves id peer local origin now) refl) (λ f. refl))
    call-adds (TcpClosed local remote now) other =
        none (TcpClosed local remote now) (by_test Same (same_transport s.transport Tcp && same_address remote s.remote) _ _ (λ f. gone-events local) (λ f. refl))
    call-adds (SendTo transport peer bytes now) other =
        none (SendTo transport peer bytes now) (send_to-by Same transport peer bytes now s (λ ids. refl))
    call-adds (Poll now) other = poll-adds now s e
    call-adds (PollTransmit now) other = none (PollTransmit now) (transmit-leaves now)
    call-adds PollEvent other = λ there. inl (fewer s.events there)
    call-adds ProtocolError other = error-adds
    call-adds RelayedAddresses other = λ there. inl there
    call-adds (Permissions transport relayed) other = λ there. inl there
    call-adds (HavePermission transport to) other = λ there. inl there
    call-adds (SetPermissionKept transport ip is_kept) other =
        none (SetPermissionKept transport ip is_kept)
        (by_test Leaves (same_transport transport s.config.allocation_transport && list_any (is_permission_of ip) s.grants) _ _ (λ f. refl) (λ f. refl))
    call-adds (SetChannelKept transport peer is_kept) other =
        none (SetChannelKept transport peer is_kept)
        (by_test Leaves (same_transport transport s.config.allocation_transport && list_any (is_open_to peer) s.grants) _ _ (λ f. refl) (λ f. refl))
