-- Calls list a CONNECT alone under its ID.
use Rattle.turn_client_laws.proofs.Common.{◌≡◌, ℕ, Bool, true, false, not, ◌&&◌, ◌||◌, leb, List, [], ◌∷◌, map, filter_map, find, flat_map, reverse, Option, Some, None, Result, inl, inr, is_some}
use Rattle.turn_client_laws.proofs.Common.{slice_get, Contains, list_any, socket_ip, IpAddr, SocketAddr}
use Rattle.turn_client_laws.proofs.Machine.{Tcp, AddressFamily, due, same_address, timed_out_transaction, State, agent_of, Call, AllocatedTcpSocket, BindChannel, CreatePermission, Delete, Poll}
use Rattle.turn_client_laws.proofs.Machine.{PollRecv, PollTransmit, ProtocolError, Recv, SendTo, SetChannelKept, SetPermissionKept, TcpClosed, TcpConnect, Grant, Channel, Origin, ServerRequest}
use Rattle.turn_client_laws.proofs.Machine.{Active, Purpose, ForChannel, ForConnect, ForPermission, ForRefresh, Relay, TurnPollRet, Phase, Allocated, Authenticating, New, Requesting, bound_by}
use Rattle.turn_client_laws.proofs.Machine.{channel_step, channels_to, connect_step, free_number, in_allocation, is_allocated, is_closed, is_control, is_in_progress, is_local_taken, is_open_to}
use Rattle.turn_client_laws.proofs.Machine.{missing_permission, offer_origin, permission_step, reserved_from, socket_opened, socket_refused, socket_step, is_connected, is_connecting, has_event}
use Rattle.turn_client_laws.proofs.Machine.{has_reply, is_paused, keepalive_times, closed, transaction_ended, allocations, family_of, find_allocation_to, has_active_permission, is_of, is_past}
use Rattle.turn_client_laws.proofs.Machine.{is_permission_of, permission_state, same_transport, allocation_expires, answer_step, channel_expired, is_expired_channel, is_listed_for_allocation}
use Rattle.turn_client_laws.proofs.Machine.{expired_at, expired_allocation, expired_in, next_offer, poll_step, timed_out_purposes, timed_out_step, timed_step, state_after, idle_step, keepalive_step}
use Rattle.turn_client_laws.proofs.Machine.{next_queued, queue_step, refreshes_in, reply_step, transmit_step, Has, expired_in-does}
use Rattle.turn_client_laws.proofs.Laws.{Input, handled, answer-by, by_found, by_test, send_to-by, has-mapped, poll_recv-kept, recv-kept, before-kept}
use Rattle.turn_client_runs.proofs.LoneConnects.{HasLoneConnects, KeepsLone, KeepsLone-IsKept, asks-filtered, asks-lone, asks-one, fold-lone, gone-lone, lone-filter}

module _ (s : State) where
  abbrev Leaves : {A : Type 0} → A × State → Type 0
  Leaves x = KeepsLone s x.1

  same : KeepsLone s s
  same lone = lone

  -- ---- requests of the caller

  in-allocation : {E : Type 0} (o : Option Relay) (ip : IpAddr) (now : ℕ) (refusal : E) (otherwise : Result Unit E × State) → Leaves otherwise → Leaves (in_allocation o ip now refusal s otherwise)
  in-allocation None ip now refusal otherwise h = same
  in-allocation (Some a) ip now refusal otherwise h = by_test Leaves (is_past now a) _ otherwise (λ f. same) (λ f. h)

  permission-lone : (ip : IpAddr) (now : ℕ) → Leaves (permission_step ip now s)
  permission-lone ip now =
      by_test Leaves (is_some (permission_state ip s)) _ _ (λ f. same) (λ f. by_test Leaves (not (is_allocated s.phase)) _ _ (λ g. same) (λ g. asks-one s (ForPermission ip)))

  connect-lone : (peer : SocketAddr) (now : ℕ) → Leaves (connect_step peer now s)
  connect-lone peer now =
      by_test Leaves (not (is_allocated s.phase)) _ _ (λ f. same)
      (λ f. by_test Leaves (not (has_active_permission (socket_ip peer) s)) _ _ (λ g. same)
      (λ g. by_test Leaves (is_connected peer s || is_connecting peer s) _ _ (λ h. same) (λ h. asks-one s (ForConnect peer))))

  -- a channel and a permission are no CONNECT
  no-connect : (number : ℕ) (to : SocketAddr) (ips : List IpAddr) (peer : SocketAddr) → Has (ForConnect peer) (ForChannel number to ∷ map ForPermission ips)
      → ForChannel number to ∷ map ForPermission ips ≡ ForConnect peer ∷ []
  no-connect number to ips peer (inl e) = cc
  no-connect number to ips peer (inr there) = let (ip, among, e) = has-mapped ForPermission (ForConnect peer) ips there in cc

  channel-lone : (peer : SocketAddr) (now : ℕ) → Leaves (channel_step peer now s)
  channel-lone peer now =
      by_test Leaves (list_any is_in_progress (channels_to peer s)) _ _ (λ f. same) (λ f. by (filter_map (reserved_from now) (channels_to peer s)) (is_allocated s.phase) (free_number s))
    where
      by : (untils : List ℕ) (b : Bool) (o : Option ℕ) → Leaves (bound_by peer now s untils b o)
      by (until ∷ others) b o = same
      by [] false o = same
      by [] true None = same
      by [] true (Some number) = asks-lone s (ForChannel number peer ∷ map ForPermission (missing_permission peer s)) (no-connect number peer (missing_permission peer s))

  -- nor is a refresh
  no-refresh : (relays : List Relay) (peer : SocketAddr) → Has (ForConnect peer) (map (λ a. ForRefresh (family_of a.relayed) 0) relays)
      → map (λ a. ForRefresh (family_of a.relayed) 0) relays ≡ ForConnect peer ∷ []
  no-refresh relays peer there = let (a, among, e) = has-mapped (λ (a : Relay). ForRefresh (family_of a.relayed) 0) (ForConnect peer) relays there in cc

  opened-lone : (id : ℕ) (peer local : SocketAddr) (origin : Origin) (now : ℕ) → KeepsLone s (socket_opened id peer local origin now s)
  opened-lone id peer local (ServerRequest request) now = asks-one s _
  opened-lone id peer local origin now = asks-one s _

  refused-lone : (id : ℕ) (peer : SocketAddr) (origin : Origin) → KeepsLone s (socket_refused id peer origin s)
  refused-lone id peer (ServerRequest request) = same
  refused-lone id peer origin = same

  socket-lone : (id : ℕ) (peer : SocketAddr) (local : Option SocketAddr) (origin : Origin) (now : ℕ) → Leaves (socket_step id peer local origin now s)
  socket-lone id peer None origin now = refused-lone id peer origin
  socket-lone id peer (Some local) origin now = by_test Leaves (is_local_taken local s) _ _ (λ f. same) (λ f. opened-lone id peer local origin now)

  -- ---- packets

  idle-lone : (p : Phase) (now : ℕ) → Leaves (idle_step p now s)
  idle-lone New now = asks-one s _
  idle-lone Allocated now = by_found Leaves _ (slice_get (flat_map (refreshes_in now s) (allocations s)) 0) (keepalive_step now s) (λ purpose f. asks-one s purpose)
      (by_test Leaves (list_any (λ time. leb time now) (keepalive_times s)) _ (None, s) (λ f. same) (λ f. same))
  idle-lone p now = same

  transmit-lone : (now : ℕ) → Leaves (transmit_step now s)
  transmit-lone now =
      by_found Leaves _ (due (agent_of s) now) _ (λ t f. same)
      (by_test Leaves (is_paused now s) (reply_step s) (queue_step now s) (λ f. same)
      (λ f. by_found Leaves _ (next_queued now s) (idle_step s.phase now s) (λ q g. same) (idle-lone s.phase now)))

-- ---- time

channel-expires : (o : Option Grant) (s : State) → KeepsLone s (channel_expired o s)
channel-expires (Some (Channel number peer (Active lease))) s = lone-filter _ s.listed
channel-expires o s = λ lone. lone

expired_in-lone : (family : AddressFamily) (given : Option ℕ) (purposes : List Purpose) (now : ℕ) (s : State) → KeepsLone s (expired_in family given purposes now s)
expired_in-lone family given purposes now = expired_in-does KeepsLone family given purposes now (record {
  trans = λ s t u first second lone. second (first lone);
  channels = λ s. lone-filter _ s.listed;
  permissions = λ s. lone-filter _ s.listed;
  last_channel = λ s. channel-expires (find (λ g. is_of family g && is_expired_channel now g) (reverse s.grants)) s;
  expired_permissions = λ s. lone-filter _ s.listed;
  connects = λ s. lone-filter _ s.listed;
  connections = λ s. lone-filter _ s.listed;
  offers = λ s. lone-filter _ s.listed;
  refreshes = λ s. lone-filter _ s.listed;
  frees = λ s. lone-filter _ s.listed;
})

expired_at-lone : (given : Option ℕ) (now : ℕ) (s : State) → KeepsLone s (expired_at given now s)
expired_at-lone given now s =
    let purposes = timed_out_purposes given s in
    fold-lone (expired_allocation given purposes now)
    (λ t a. by_test (KeepsLone t) (allocation_expires purposes now t a) _ _ (λ is. lone-filter _ t.listed) (λ other. expired_in-lone (family_of a.relayed) given purposes now t)) (allocations s) s

answer-lone : (given : Option ℕ) (now : ℕ) (s t : State) → KeepsLone s t → KeepsLone s (answer_step given now t).1
answer-lone given now s t keeps = answer-by (KeepsLone s) given now t (λ closes. keeps)

timed-lone : (p : Phase) (given : Option ℕ) (now : ℕ) (s : State) → KeepsLone s (timed_step p given now s).1
timed-lone Requesting None now s = answer-lone None now s s (λ lone. lone)
timed-lone Requesting (Some id) now s = lone-filter _ s.listed
timed-lone Authenticating None now s = answer-lone None now s s (λ lone. lone)
timed-lone Authenticating (Some id) now s =
    by_test (λ (u : State). KeepsLone s (answer_step (Some id) now u).1) (is_listed_for_allocation id s) (closed s) s
    (λ f. answer-lone (Some id) now s (closed s) (lone-filter _ s.listed)) (λ f. answer-lone (Some id) now s s (λ lone. lone))
timed-lone Allocated given now s = answer-lone given now s (expired_at given now s) (expired_at-lone given now s)
timed-lone p given now s = λ lone. lone

poll-lone : (now : ℕ) (s : State) → KeepsLone s (poll_step now s).1
poll-lone now s =
    let Claim = λ (x : TurnPollRet × State). KeepsLone s x.1 in
    by_test Claim (has_event s || has_reply s) _ _ (λ f lone. lone)
    (λ f. by_found Claim _ (next_offer s) (timed_out_step now s) (λ offer is lone. lone)
    (by_found Claim _ (timed_out_transaction (agent_of s) now) (timed_step s.phase None now s)
    (λ x is. timed-lone s.phase (Some x.id) now (transaction_ended x.id s)) (timed-lone s.phase None now s)))

-- ---- all calls

pub call-lone : (call : Call) (s : State) → KeepsLone s (state_after call s)
call-lone (Recv packet now) s = recv-kept KeepsLone KeepsLone-IsKept packet.transport packet.from packet.to packet.payload now s
call-lone (PollRecv now) s = poll_recv-kept KeepsLone KeepsLone-IsKept now s
call-lone (Delete now) s =
    by_test (Leaves s) (is_allocated s.phase) _ _
    (λ f. asks-filtered s _ (map (λ a. ForRefresh (family_of a.relayed) 0) (allocations s)) (no-refresh s (allocations s))) (λ f. same s)
call-lone (CreatePermission transport ip now) s = in-allocation s (find_allocation_to transport ip s) ip now _ (permission_step ip now s) (permission-lone s ip now)
call-lone (BindChannel transport peer now) s = in-allocation s (find_allocation_to transport (socket_ip peer) s) (socket_ip peer) now _ (channel_step peer now s) (channel-lone s peer now)
call-lone (TcpConnect peer now) s = in-allocation s (find_allocation_to Tcp (socket_ip peer) s) (socket_ip peer) now _ (connect_step peer now s) (connect-lone s peer now)
call-lone (AllocatedTcpSocket id tuple peer local now) s =
    by_test (Leaves s) (same_transport s.config.allocation_transport Tcp && is_control tuple s && is_allocated s.phase) _ _
    (λ f. by_found (Leaves s) _ (offer_origin id peer s) _ (λ origin g. socket-lone s id peer local origin now) (same s)) (λ f. same s)
call-lone (TcpClosed local remote now) s = by_test (KeepsLone s) (same_transport s.transport Tcp && same_address remote s.remote) _ s (λ f. gone-lone local s) (λ f. same s)
call-lone (SendTo transport peer bytes now) s = send_to-by (KeepsLone s) transport peer bytes now s (λ ids. same s)
call-lone (Poll now) s = poll-lone now s
call-lone (PollTransmit now) s = transmit-lone s now
call-lone ProtocolError s = by_test (KeepsLone s) (is_closed s.phase) s _ (λ f. same s) (λ f. lone-filter _ s.listed)
call-lone (SetPermissionKept transport ip is_kept) s =
    by_test (Leaves s) (same_transport transport s.config.allocation_transport && list_any (is_permission_of ip) s.grants) _ _ (λ f. same s) (λ f. same s)
call-lone (SetChannelKept transport peer is_kept) s =
    by_test (Leaves s) (same_transport transport s.config.allocation_transport && list_any (is_open_to peer) s.grants) _ _ (λ f. same s) (λ f. same s)
call-lone call s = same s

-- when an input of a call is processed
pub input-lone : (call : Call) (s : State) (one : Input) → Contains (handled call s) one → HasLoneConnects s → HasLoneConnects one.before
input-lone call s one among lone = before-kept KeepsLone KeepsLone-IsKept call s one among lone
