-- The edits of which calls are made: a relation that holds for each edit holds for each call.
use Rattle.turn_client_laws.proofs.Common.{◌≡◌, ℕ, Bool, true, false, not, ◌&&◌, ◌||◌, List, [], ◌∷◌, map, filter_map, Option, Some, None, Result, Ok, Err, refl, inl, inr, sym, subst, ◌∙◌, ⊤, is_some}
use Rattle.turn_client_laws.proofs.Common.{list_any, and_parts, not-false, not-true, or_parts, append_assoc, list_any-append, IpAddr, SocketAddr, socket_ip}
use Rattle.turn_client_laws.proofs.Machine.{TransportType, Tcp, same_address, State, later_by, Phase, Allocated, Grant, Allocation, Permission, Channel, Connect, Connection, DataConnection, Relay}
use Rattle.turn_client_laws.proofs.Machine.{Progress, Pending, Origin, ServerRequest, Purpose, ForAllocation, ForRefresh, ForPermission, ForChannel, ForConnect, ForBind, Queued, find_allocation_to}
use Rattle.turn_client_laws.proofs.Machine.{allocations, changed_allocation, family_of, family_of_ip, is_past, is_permission_of, has_active_permission, permission_state, same_transport, with_expired}
use Rattle.turn_client_laws.proofs.Machine.{with_grant, with_more_grants, without_grants, accepted_reply, request_started, fresh_id, replied, request_for, requested, waits_from, bind_time, connection_at}
use Rattle.turn_client_laws.proofs.Machine.{is_connected, is_connecting, all_expired, allocated_tcp_socket_step, bind_channel, bind_channel_step, bound_by, channel_numbers, channel_step, channels_to}
use Rattle.turn_client_laws.proofs.Machine.{connect_step, create_permission_step, delete_step, delete_text, deleted, free_number, in_allocation, is_allocated, is_closed, is_control, is_granted_in}
use Rattle.turn_client_laws.proofs.Machine.{is_in_progress, is_local_taken, is_number_taken, offer_origin, offer_taken, permission_step, protocol_error_step, reserved_from, send_to_step}
use Rattle.turn_client_laws.proofs.Machine.{socket_opened, socket_refused, socket_step, tcp_connect_step, with_stream, Socket5Tuple, tcp_closed_step, event_step, Leaves, state_after, Call, Delete}
use Rattle.turn_client_laws.proofs.Machine.{CreatePermission, BindChannel, TcpConnect, AllocatedTcpSocket, TcpClosed, SendTo, Recv, PollRecv, Poll, PollTransmit, PollEvent, RelayedAddresses}
use Rattle.turn_client_laws.proofs.Machine.{Permissions, HavePermission, ProtocolError, SetPermissionKept, SetChannelKept, same_address-self, Has, filter-has, has-found, has-left, has-right, map-has}
use Rattle.turn_client_laws.proofs.Machine.{allocation-there, keep_step, is_open_to, with_marks}
use Rattle.turn_client_api.specs.declared.error.BindChannelError.TheVariants as Bind
use Rattle.turn_client_laws.specs.LawsOrder.{IsBegun}
use Rattle.turn_client_laws.specs.LawsStates.{is_asked_by}
use Rattle.turn_client_laws.proofs.InAllocationLemmas.{allocation-room, Room, room-more, same_family-self}
use Rattle.turn_client_laws.proofs.GrantOriginLemmas.{has-mapped}
use Rattle.turn_client_laws.proofs.GrantOriginEffectLemmas.{same_ip-same}
use Rattle.turn_client_laws.proofs.DoubleLemmas.{no-connection, no-permission}
use Rattle.turn_client_laws.proofs.RunKeepLemmas.{poll_recv-kept, recv-kept}
use Rattle.turn_client_laws.proofs.MemoryLemmas.{leaves-kept}
use Rattle.turn_client_laws.proofs.Edits.{IsAskable, KeepsAllEdits, KeepsEdits, IgnoresAll, KeepsAccepted}
use Rattle.turn_client_laws.proofs.EditsOfReplies.{allocations-change, marked-alike, closed-walk, either, fail-walk, found, gone-walk, one-of, requested-walk, asked-walk, spelled-else, expired-alike}
use Rattle.turn_client_laws.proofs.EditsOfTime.{channel-asked, for-there, poll-walk, transmit-walk}
use Rattle.turn_client_laws.proofs.EditsOfMessages.{edits-IsKept}
use Rattle.turn_client_laws.proofs.CaseLemmas.{send_to-by}

-- ---- requests are for grants that exist

is_allocated-true : (p : Phase) → is_allocated p ≡ true → p ≡ Allocated
is_allocated-true Allocated e = refl
is_allocated-true p e = cc

allocated-begun : (p : Phase) → is_allocated p ≡ true → IsBegun p
allocated-begun p e = rw (is_allocated-true p e) tt

-- the grant that is added last
for-last : (p : Purpose) (g : Grant) (s : State) → is_asked_by p g ≡ true → IsAskable (with_grant g s) p
for-last p g s is = for-there p g (with_grant g s) (has-right g s.grants (g ∷ []) (inl refl)) is

-- all allocations are deleted
delete-askable : (now : ℕ) (s : State) (p : Purpose) → Has p (map (λ (a : Relay). ForRefresh (family_of a.relayed) 0) (allocations s)) → IsAskable (all_expired now (without_grants is_granted_in s)) p
delete-askable now s p there =
    let (a, listed, e) = has-mapped (λ (a : Relay). ForRefresh (family_of a.relayed) 0) p (allocations s) there in
    let kept = filter-has (λ g. not (is_granted_in g)) (Allocation a) s.grants (allocation-there a s.grants listed) refl in
    let expire = changed_allocation (λ a. true) (λ a. record a { expiry = now; is_expired = true }) in
    let t = all_expired now (without_grants is_granted_in s) in
    subst (IsAskable t) (sym e)
    (for-there (ForRefresh (family_of a.relayed) 0) (expire (Allocation a)) t (map-has expire (Allocation a) (without_grants is_granted_in s).grants kept)
    (same_family-self (family_of a.relayed) (family_of a.relayed) refl))

-- by a REFRESH
delete-other : (s : State) (p : Purpose) → Has p (map (λ (a : Relay). ForRefresh (family_of a.relayed) 0) (allocations s)) → p ≡ ForAllocation → ⊥
delete-other s p there f =
    let (a, listed, e) = has-mapped (λ (a : Relay). ForRefresh (family_of a.relayed) 0) p (allocations s) there in
    let no : ForRefresh (family_of a.relayed) 0 ≡ ForAllocation = sym e ∙ f in
    cc

-- the calls that process no input, open no stream, and delete nothing
abbrev pub IsQuiet : Call → Type 0
IsQuiet (Delete now) = ⊥
IsQuiet (AllocatedTcpSocket id tuple peer local now) = ⊥
IsQuiet (Recv packet now) = ⊥
IsQuiet (PollRecv now) = ⊥
IsQuiet _ = ⊤

module _ (R : State → State → Type 0) (k : KeepsEdits R) where
  then : (s t u : State) → R s t → R t u → R s u
  then s t u = k.trans s t u

  -- allocations are deleted
  abbrev Expires : Type 0
  Expires = (now : ℕ) (s : State) → R s (all_expired now s)

  -- ---- what the caller requests

  allocation-walk : {E : Type 0} (o : Option Relay) (ip : IpAddr) (now : ℕ) (refusal : E) (s : State) (otherwise : Result Unit E × State) → (is_some o ≡ true → R s otherwise.1)
      → R s (in_allocation o ip now refusal s otherwise).1
  allocation-walk None ip now refusal s otherwise r = k.same s
  allocation-walk (Some a) ip now refusal s otherwise r =
      either R k (is_past now a) s _ otherwise (λ e. k.ages (with_expired (family_of_ip ip) s).grants s (expired-alike (family_of_ip ip) s)) (λ e. r refl)

  deleted-walk : Expires → (now : ℕ) (s : State) → s.phase ≡ Allocated → R s (deleted now s)
  deleted-walk expires now s there =
      let begun : IsBegun s.phase = rw there tt in
      let a = without_grants is_granted_in s in
      let b = all_expired now a in
      let purposes = map (λ (r : Relay). ForRefresh (family_of r.relayed) 0) (allocations s) in
      let c = request_started (fresh_id s) (delete_text s) purposes (waits_from now s) b in
      let end = deleted now s in
      then s a end (k.removes is_granted_in s (λ r. refl))
      (then a b end (expires now a)
      (then b c end (k.asks (fresh_id s) (delete_text s) purposes (waits_from now s) b begun (delete-askable now s) (inl (there, delete-other s))) (k.queues end.queue c begun)))

  pub delete-walk : Expires → (now : ℕ) (s : State) → R s (delete_step now s).1
  delete-walk expires now s = either R k (is_allocated s.phase) s (Ok tt, deleted now s) _ (λ e. deleted-walk expires now s (is_allocated-true s.phase e)) (λ e. k.same s)

  permission-walk : (transport : TransportType) (ip : IpAddr) (now : ℕ) (s : State) → R s (create_permission_step transport ip now s).1
  permission-walk transport ip now s = allocation-walk (find_allocation_to transport ip s) ip now _ s (permission_step ip now s) by
    where
      t : State
      t = with_grant (Permission ip (Pending true)) s

      by : is_some (find_allocation_to transport ip s) ≡ true → R s (permission_step ip now s).1
      by room =
          either R k (is_some (permission_state ip s)) s _ _ (λ e. k.same s)
          (λ none. either R k (not (is_allocated s.phase)) s _ _ (λ e. k.same s)
          (λ there. then s t _ (k.permission ip s (is_allocated-true s.phase (not-false (is_allocated s.phase) there)) (allocation-room transport ip s room) (no-permission ip s.grants none))
          (requested-walk R k (fresh_id s) (ForPermission ip) now t (allocated-begun s.phase (not-false (is_allocated s.phase) there))
          (for-last (ForPermission ip) (Permission ip (Pending true)) s (same_ip-same ip))
          (spelled-else (fresh_id s) (request_for t (ForPermission ip) (fresh_id s)) (ForPermission ip) t (is_allocated-true s.phase (not-false (is_allocated s.phase) there)) (λ f. cc)))))

  -- the requested number is free
  bind_channel-walk : (number : ℕ) (peer : SocketAddr) (now : ℕ) (s : State) → s.phase ≡ Allocated → Room s.grants (family_of peer) → free_number s ≡ Some number → R s (bind_channel number peer now s)
  bind_channel-walk number peer now s there room free = by (permission_state (socket_ip peer) s) refl
    where
      begun : IsBegun s.phase
      begun = rw there tt

      ip : IpAddr
      ip = socket_ip peer

      channel : Grant
      channel = Channel number peer (Pending true)

      permission : Grant
      permission = Permission ip (Pending true)

      a : State
      a = with_grant channel s

      b : State
      b = with_more_grants (channel ∷ permission ∷ []) s

      first : R s a
      first =
          let is = has-found (λ n. not (is_number_taken n s)) number channel_numbers free in
          k.channel number peer s there room (not-true (is_number_taken number s) is.1) is.0

      none-behind : list_any (is_permission_of ip) s.grants ≡ false → list_any (is_permission_of ip) a.grants ≡ false
      none-behind none = rw (list_any-append (is_permission_of ip) s.grants (channel ∷ []), none) refl

      both : list_any (is_permission_of ip) s.grants ≡ false → R s b
      both none =
          let more = room-more s.grants a.grants (λ r here. has-left (Allocation r) s.grants (channel ∷ []) here) (family_of peer) room in
          subst (λ (gs : List Grant). R s (record s { grants = gs })) (append_assoc s.grants (channel ∷ []) (permission ∷ []))
          (then s a (with_grant permission a) first (k.permission ip a there more (none-behind none)))

      text : List ℕ
      text = request_for s (ForChannel number peer) (fresh_id s)

      of_channel : (t : State) → Has channel t.grants → IsAskable t (ForChannel number peer)
      of_channel t here = for-there (ForChannel number peer) channel t here (channel-asked number peer (Pending true))

      of_both : (p : Purpose) → Has p (ForChannel number peer ∷ ForPermission ip ∷ []) → IsAskable b p
      of_both p (inl e) = subst (IsAskable b) (sym e) (of_channel b (has-right channel s.grants (channel ∷ permission ∷ []) (inl refl)))
      of_both p (inr (inl e)) = subst (IsAskable b) (sym e) (for-there (ForPermission ip) permission b (has-right permission s.grants (channel ∷ permission ∷ []) (inr (inl refl))) (same_ip-same ip))
      of_both p (inr (inr none)) = absurd none

      both-other : (p : Purpose) → Has p (ForChannel number peer ∷ ForPermission ip ∷ []) → p ≡ ForAllocation → ⊥
      both-other p (inl e) f = let no : ForChannel number peer ≡ ForAllocation = sym e ∙ f in cc
      both-other p (inr (inl e)) f = let no : ForPermission ip ≡ ForAllocation = sym e ∙ f in cc
      both-other p (inr (inr none)) f = absurd none

      by : (o : Option Progress) → permission_state ip s ≡ o → R s (bind_channel number peer now s)
      by None e =
          let c = request_started (fresh_id s) text (ForChannel number peer ∷ ForPermission ip ∷ []) (waits_from now s) b in
          rw e (then s b _ (both (no-permission ip s.grants (rw e refl))) (then b c _
          (k.asks (fresh_id s) text (ForChannel number peer ∷ ForPermission ip ∷ []) (waits_from now s) b begun of_both (inl (there, both-other))) (k.queues (bind_channel number peer now s).queue c begun)))
      by (Some progress) e =
          let c = request_started (fresh_id s) text (ForChannel number peer ∷ []) (waits_from now s) a in
          rw e (then s a _ first (then a c _ (asked-walk R k (fresh_id s) text (ForChannel number peer) (waits_from now s) a begun (of_channel a (has-right channel s.grants (channel ∷ []) (inl refl)))
          (spelled-else (fresh_id s) text (ForChannel number peer) a there (λ f. cc))) (k.queues (bind_channel number peer now s).queue c begun)))

  bound_by-walk : (peer : SocketAddr) (now : ℕ) (s : State) → Room s.grants (family_of peer) → (l : List ℕ) (b : Bool) → is_allocated s.phase ≡ b → (o : Option ℕ) → free_number s ≡ o
      → R s (bound_by peer now s l b o).1
  bound_by-walk peer now s room [] true e (Some number) free = bind_channel-walk number peer now s (is_allocated-true s.phase e) room free
  bound_by-walk peer now s room l b e o free = k.same s

  channel-walk : (peer : SocketAddr) (now : ℕ) (s : State) → Room s.grants (family_of peer) → R s (channel_step peer now s).1
  channel-walk peer now s room =
      either R k (list_any is_in_progress (channels_to peer s)) s (Err Bind.AlreadyExists, s)
      (bound_by peer now s (filter_map (reserved_from now) (channels_to peer s)) (is_allocated s.phase) (free_number s)) (λ e. k.same s)
      (λ e. bound_by-walk peer now s room (filter_map (reserved_from now) (channels_to peer s)) (is_allocated s.phase) refl (free_number s) refl)

  bind-walk : (transport : TransportType) (peer : SocketAddr) (now : ℕ) (s : State) → R s (bind_channel_step transport peer now s).1
  bind-walk transport peer now s =
      allocation-walk (find_allocation_to transport (socket_ip peer) s) (socket_ip peer) now _ s (channel_step peer now s)
      (λ room. channel-walk peer now s (allocation-room transport (socket_ip peer) s room))

  connect-walk : (peer : SocketAddr) (now : ℕ) (s : State) → R s (tcp_connect_step peer now s).1
  connect-walk peer now s = allocation-walk (find_allocation_to Tcp (socket_ip peer) s) (socket_ip peer) now _ s (connect_step peer now s) by
    where
      t : State
      t = with_grant (Connect peer) s

      by : is_some (find_allocation_to Tcp (socket_ip peer) s) ≡ true → R s (connect_step peer now s).1
      by room =
          either R k (not (is_allocated s.phase)) s _ _ (λ e. k.same s)
          (λ there. either R k (not (has_active_permission (socket_ip peer) s)) s _ _ (λ e. k.same s)
          (λ permitted. either R k (is_connected peer s || is_connecting peer s) s _ _ (λ e. k.same s)
          (λ free. then s t _ (k.connect peer s (is_allocated-true s.phase (not-false (is_allocated s.phase) there)) (allocation-room Tcp (socket_ip peer) s room)
          (or_parts (is_connected peer s) (is_connecting peer s) free).1)
          (requested-walk R k (fresh_id s) (ForConnect peer) now t (allocated-begun s.phase (not-false (is_allocated s.phase) there))
          (for-last (ForConnect peer) (Connect peer) s (same_address-self peer))
          (spelled-else (fresh_id s) (request_for t (ForConnect peer) (fresh_id s)) (ForConnect peer) t (is_allocated-true s.phase (not-false (is_allocated s.phase) there)) (λ f. cc))))))

  opened-walk : IgnoresAll R → (id : ℕ) (peer local : SocketAddr) (origin : Origin) (now : ℕ) (s : State) → s.phase ≡ Allocated → offer_origin id peer s ≡ Some origin
      → is_some (connection_at local s) ≡ false → R s (socket_opened id peer local origin now s)
  opened-walk streams id peer local origin now s there offer none = by origin
    where
      c : DataConnection
      c = record { local = local; peer = peer; deadline = Some (later_by bind_time now) }

      a : State
      a = with_grant (Connection c) (offer_taken id peer s)

      begun : IsBegun s.phase
      begun = rw there tt

      -- whatever is queued
      opened : (queue : List Queued) → R s (with_stream local (requested (fresh_id s) (ForBind local peer id) now (record a { queue = queue })))
      opened queue =
          let b = record a { queue = queue } in
          let t = requested (fresh_id s) (ForBind local peer id) now b in
          let end = with_stream local t in
          then s a end (k.connection id c origin s there offer (no-connection local s.grants none) refl)
          (then a b end (k.queues queue a begun)
          (then b t end (requested-walk R k (fresh_id s) (ForBind local peer id) now b begun
          (for-there (ForBind local peer id) (Connection c) b (has-right (Connection c) (offer_taken id peer s).grants (Connection c ∷ []) (inl refl))
          (rw (same_address-self local, same_address-self peer) refl))
          (spelled-else (fresh_id s) (request_for b (ForBind local peer id) (fresh_id s)) (ForBind local peer id) b there (λ f. cc)))
          (streams t end.streams)))

      by : (from : Origin) → R s (socket_opened id peer local from now s)
      by (ServerRequest request) = opened (replied (accepted_reply s request) s).queue
      by from = opened s.queue

  refused-walk : (id : ℕ) (peer : SocketAddr) (origin : Origin) (s : State) → IsBegun s.phase → R s (socket_refused id peer origin s)
  refused-walk id peer (ServerRequest request) s begun =
      let t = offer_taken id peer s in
      let end = socket_refused id peer (ServerRequest request) s in
      then s t end (k.takes_offer id peer s) (k.queues end.queue t begun)
  refused-walk id peer origin s begun = k.takes_offer id peer s

  socket-walk : IgnoresAll R → (id : ℕ) (peer : SocketAddr) (local : Option SocketAddr) (origin : Origin) (now : ℕ) (s : State) → s.phase ≡ Allocated → offer_origin id peer s ≡ Some origin
      → R s (socket_step id peer local origin now s).1
  socket-walk streams id peer None origin now s there offer = refused-walk id peer origin s (rw there tt)
  socket-walk streams id peer (Some local) origin now s there offer =
      either R k (is_local_taken local s) s _ _ (λ e. k.same s)
      (λ free. opened-walk streams id peer local origin now s there offer (or_parts (same_address local s.local) (is_some (connection_at local s)) free).1)

  pub tcp_socket-walk : IgnoresAll R → (id : ℕ) (tuple : Socket5Tuple) (peer : SocketAddr) (local : Option SocketAddr) (now : ℕ) (s : State)
      → R s (allocated_tcp_socket_step id tuple peer local now s).1
  tcp_socket-walk streams id tuple peer local now s =
      either R k (same_transport s.config.allocation_transport Tcp && is_control tuple s && is_allocated s.phase) s _ _
      (λ e. found R k (λ origin. socket_step id peer local origin now s) (offer_origin id peer s) s _
      (λ origin offer. socket-walk streams id peer local origin now s (is_allocated-true s.phase
      (and_parts (same_transport s.config.allocation_transport Tcp && is_control tuple s) (is_allocated s.phase) e).1) offer) (k.same s))
      (λ e. k.same s)

  send-walk : (transport : TransportType) (peer : SocketAddr) (bytes : List ℕ) (now : ℕ) (s : State) → R s (send_to_step transport peer bytes now s).1
  send-walk transport peer bytes now s = send_to-by (R s) transport peer bytes now s (λ ids. k.aside s (record s { ids = ids }))

  tcp_closed-walk : (local remote : SocketAddr) (s : State) → R s (tcp_closed_step local remote s)
  tcp_closed-walk local remote s = one-of R k (same_transport s.transport Tcp && same_address remote s.remote) s _ s (gone-walk R k local s) (k.same s)

  keep-walk : (transport : TransportType) (which : Grant → Bool) (is_kept : Bool) (s : State) → R s (keep_step transport which is_kept s).1
  keep-walk transport which is_kept s = either R k (same_transport transport s.config.allocation_transport && list_any which s.grants) s _ _
      (λ e. k.ages (with_marks which is_kept s).grants s (marked-alike which is_kept s)) (λ e. k.same s)

  error-walk : (s : State) → R s (protocol_error_step s)
  error-walk s = one-of R k (is_closed s.phase) s s _ (k.same s) (fail-walk R k s)

  -- ---- the calls that process nothing

  pub quiet-walk : (call : Call) (s : State) → IsQuiet call → R s (state_after call s)
  quiet-walk (CreatePermission transport peer now) s quiet = permission-walk transport peer now s
  quiet-walk (BindChannel transport peer now) s quiet = bind-walk transport peer now s
  quiet-walk (TcpConnect peer now) s quiet = connect-walk peer now s
  quiet-walk (TcpClosed local remote now) s quiet = tcp_closed-walk local remote s
  quiet-walk (SendTo transport peer bytes now) s quiet = send-walk transport peer bytes now s
  quiet-walk (Poll now) s quiet = poll-walk R k now s
  quiet-walk (PollTransmit now) s quiet = transmit-walk R k now s
  quiet-walk PollEvent s quiet = k.aside s (event_step s).1
  quiet-walk RelayedAddresses s quiet = k.same s
  quiet-walk (Permissions transport relayed) s quiet = k.same s
  quiet-walk (HavePermission transport to) s quiet = k.same s
  quiet-walk (SetPermissionKept transport peer is_kept) s quiet = keep-walk transport (is_permission_of peer) is_kept s
  quiet-walk (SetChannelKept transport peer is_kept) s quiet = keep-walk transport (is_open_to peer) is_kept s
  quiet-walk ProtocolError s quiet = error-walk s
  quiet-walk call s none = absurd none

-- ---- all calls

pub expires-walk : (HasAccepted : Type 0) (R : State → State → Type 0) → KeepsAccepted HasAccepted R → (now : ℕ) (s : State) → R s (all_expired now s)
expires-walk HasAccepted R k now s = allocations-change HasAccepted R k (λ r. true) (λ r. record r { expiry = now; is_expired = true }) (λ r. refl) s

pub calls-walk : (R : State → State → Type 0) → KeepsAllEdits R → IgnoresAll R → (call : Call) (s : State) → R s (state_after call s)
calls-walk R k streams (Recv packet now) s = recv-kept R (edits-IsKept R k streams) packet.transport packet.from packet.to packet.payload now s
calls-walk R k streams (PollRecv now) s = poll_recv-kept R (edits-IsKept R k streams) now s
calls-walk R k streams (Delete now) s = delete-walk R k.edits (expires-walk ⊤ R k) now s
calls-walk R k streams (AllocatedTcpSocket id tuple peer local now) s = tcp_socket-walk R k.edits streams id tuple peer local now s
calls-walk R k streams call s = quiet-walk R k.edits call s tt

-- even if memory allocation fails
pub leaves-walk : (R : State → State → Type 0) → KeepsAllEdits R → IgnoresAll R → (call : Call) (s t : State) → Leaves call s t → R s t
leaves-walk R k streams = leaves-kept R (edits-IsKept R k streams) (closed-walk R k.edits) (calls-walk R k streams)
