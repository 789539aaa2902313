-- Which calls change when a client last sent a packet: `poll_transmit` alone.
use Rattle.turn_client_laws.proofs.Common.{◌≡◌, ◌∙◌, ℕ, Bool, true, false, cond, List, [], ◌∷◌, Option, Some, None, Result, refl, fold, find, reverse, leb, eqb, length, is_some, ◌&&◌, ◌||◌, ⊤, not, list_any, filter_map, socket_ip, option_map_or, IpAddr, SocketAddr}
use Rattle.turn_client_laws.proofs.Machine.{id_of, AddressFamily, Challenge, State, Phase, New, Requesting, Authenticating, Allocated, Closed, Grant, Channel, DataConnection, Relay}
use Rattle.turn_client_laws.proofs.Machine.{Progress, Pending, Active, Origin, ServerRequest, Purpose, ForRefresh, ForPermission, ForChannel, ForConnect, allocations, channel_at, first_in}
use Rattle.turn_client_laws.proofs.Machine.{permission_state, purposes_of, is_of, connection_id_in, lifetime_in, Judgement, Challenged, Fatal, ConnectionAttempt, SignedRequest, SignedSuccess}
use Rattle.turn_client_laws.proofs.Machine.{SignedError, judgement_of, bind_judgement, is_bind_of, closed, channel_answered, connect_answered, effect, permission_answered}
use Rattle.turn_client_laws.proofs.Machine.{permission_answered_for, prolonged, refreshed, allocate_denied, allocate_granted, retried, Ignored, answered_purposes, challenge_step, message_step}
use Rattle.turn_client_laws.proofs.Machine.{response_step, signed_step, wrong_step, attempt_indicated, bind_again, bind_answered, connection_at, connection_gone}
use Rattle.turn_client_laws.proofs.Machine.{in_allocation, permission_step, bound_by, channel_step, connect_step}
use Rattle.turn_client_laws.proofs.Machine.{socket_step, socket_opened, socket_refused, offer_origin, find_allocation_to, channel_expired, is_expired_channel, expired_at, expired_in, timed_out_purposes}
use Rattle.turn_client_laws.proofs.Machine.{answer_step, timed_step, poll_step, next_offer, is_listed_for_allocation, timed_out_transaction, agent_of, expired_in-does}
use Rattle.turn_client_laws.proofs.Machine.{TransportType, Tcp, same_transport, same_address, is_closed, fail_all, allocated, taken_addresses, relayed_in, min_lifetime, has_code, allocation_mismatch, family_not_supported, free_number, transaction_ended, state_after, Call, Delete, CreatePermission, BindChannel, TcpConnect, AllocatedTcpSocket, TcpClosed, SendTo, Recv}
use Rattle.turn_client_laws.proofs.Machine.{PollRecv, Poll, PollTransmit, ProtocolError, SetPermissionKept, SetChannelKept}
use Rattle.turn_client_laws.proofs.Machine.{is_allocated, is_in_progress, channels_to, reserved_from, has_active_permission, is_connected, is_connecting, is_control, is_local_taken, is_permission_of, is_open_to, keep_step}
use Rattle.turn_client_api.specs.declared.error.BindChannelError.TheVariants as Bind
use Rattle.turn_client_api.specs.declared.error.CreatePermissionError.TheVariants as Create
use Rattle.turn_client_api.specs.declared.error.TcpConnectError.TheVariants as Join
use Rattle.turn_client_laws.proofs.Laws.{IsKept, by_accepted, by_found, by_test, bind-by, indicated-by, requested-by, answer-by, send_to-by, all-expire, recv-kept, poll_recv-kept}

abbrev Same : State → State → Type 0
Same s t = t.last_send ≡ s.last_send

trans : (s t u : State) → Same s t → Same t u → Same s u
trans s t u first later = later ∙ first

one-of : (b : Bool) (s t u : State) → Same s t → Same s u → Same s (cond b t u)
one-of true s t u p q = p
one-of false s t u p q = q

-- of a pair
either : {A : Type 0} (b : Bool) (s : State) (x y : A × State) → Same s x.1 → Same s y.1 → Same s (cond b x y).1
either true s x y p q = p
either false s x y p q = q

found : {A X : Type 0} (f : X → A × State) (o : Option X) (s : State) (y : A × State) → ((x : X) → Same s (f x).1) → Same s y.1 → Same s (option_map_or f o y).1
found f None s y p q = q
found f (Some x) s y p q = p x

each : {X : Type 0} (f : State → X → State) → ((t : State) (x : X) → Same t (f t x)) → (xs : List X) (s : State) → Same s (fold f s xs)
each f step [] s = refl
each f step (x ∷ xs) s = each f step xs (f s x) ∙ step s x

-- ---- the effects of replies

permission-same : (ip : IpAddr) (is_granted : Bool) (now : ℕ) (s : State) → Same s (permission_answered ip is_granted now s)
permission-same ip is_granted now s = by (permission_state ip s) refl is_granted
  where
    by : (o : Option Progress) → permission_state ip s ≡ o → (g : Bool) → Same s (permission_answered ip g now s)
    by (Some (Pending is_kept)) e true = rw e refl
    by (Some (Pending is_kept)) e false = rw e refl
    by (Some (Active lease)) e true = rw e refl
    by (Some (Active lease)) e false = rw e refl
    by o e g = rw e refl

listed-same : (is_granted : Bool) (now : ℕ) (t : State) (p : Purpose) → Same t (permission_answered_for is_granted now t p)
listed-same is_granted now t (ForPermission ip) = permission-same ip is_granted now t
listed-same is_granted now t p = refl

channel-same : (number id : ℕ) (is_granted : Bool) (now : ℕ) (s : State) → Same s (channel_answered number id is_granted now s)
channel-same number id is_granted now s = by (first_in (channel_at number) s) refl is_granted
  where
    by : (o : Option (SocketAddr × Progress)) → first_in (channel_at number) s ≡ o → (g : Bool) → Same s (channel_answered number id g now s)
    by (Some (peer, Pending is_kept)) e true = rw e (each (permission_answered_for true now) (listed-same true now) (purposes_of id s) s)
    by (Some (peer, Pending is_kept)) e false = rw e refl
    by (Some (peer, Active lease)) e true = rw e refl
    by (Some (peer, Active lease)) e false = rw e refl
    by o e g = rw e refl

connect-same : (peer : SocketAddr) (o : Option ℕ) (s : State) → Same s (connect_answered peer o s)
connect-same peer (Some id) s = refl
connect-same peer None s = refl

prolonged-same : (family : AddressFamily) (lifetime now : ℕ) (s : State) → Same s (prolonged family lifetime now s)
prolonged-same family lifetime now s = one-of (leb min_lifetime lifetime) s _ s refl refl

refreshed-same : (family : AddressFamily) (lifetime : ℕ) (is_granted : Bool) (message : List ℕ) (now : ℕ) (s : State) → Same s (refreshed family lifetime is_granted message now s)
refreshed-same family lifetime is_granted message now s =
    one-of (eqb lifetime 0) s _ _ (one-of (is_granted || has_code allocation_mismatch message) s _ s refl refl)
    (one-of is_granted s _ s (by_found (Same s) (λ granted. prolonged family granted now s) (lifetime_in message) s (λ granted e. prolonged-same family granted now s) refl) refl)

effect-same : (id : ℕ) (is_granted : Bool) (message : List ℕ) (now : ℕ) (s : State) (p : Purpose) → Same s (effect id is_granted message now s p)
effect-same id is_granted message now s (ForRefresh family lifetime) = refreshed-same family lifetime is_granted message now s
effect-same id is_granted message now s (ForPermission ip) = permission-same ip is_granted now s
effect-same id is_granted message now s (ForChannel number peer) = channel-same number id is_granted now s
effect-same id is_granted message now s (ForConnect peer) = connect-same peer (cond is_granted (connection_id_in message) None) s
effect-same id is_granted message now s p = refl

-- ---- messages

granted-same : (message : List ℕ) (now : ℕ) (s : State) → Same s (allocate_granted message now s)
granted-same message now s =
    by_found (Same s) (λ lifetime. allocated lifetime (taken_addresses s.families (relayed_in message)) now s) (lifetime_in message) (closed (fail_all s)) (λ lifetime e. refl) refl

denied-same : (fresh : ℕ) (message : List ℕ) (now : ℕ) (s : State) → Same s (allocate_denied fresh message now s)
denied-same fresh message now s = one-of (has_code family_not_supported message && leb 2 (length s.families)) s _ (closed (fail_all s)) refl refl

response-same : (is_granted : Bool) (message : List ℕ) (now : ℕ) (s : State) → Same s (response_step is_granted message now s).1
response-same is_granted message now s =
    each (effect (id_of message) is_granted message now) (effect-same (id_of message) is_granted message now) (answered_purposes message s) (transaction_ended (id_of message) s)

signed-same : (p : Phase) (is_granted : Bool) (message : List ℕ) (now : ℕ) (s : State) → Same s (signed_step is_granted message now (record s { phase = p })).1
signed-same Authenticating true message now s = granted-same message now (transaction_ended (id_of message) (record s { phase = Authenticating }))
signed-same Authenticating false message now s =
    denied-same _ message now (transaction_ended (id_of message) (record s { phase = Authenticating }))
signed-same p g message now s = response-same g message now (record s { phase = p })

challenge-same : (message : List ℕ) (d : Challenge) (now : ℕ) (s : State) → Same s (challenge_step message d now s).1
challenge-same message d now s = either _ s _ _ (found _ (retried (purposes_of (id_of message) s)) s (Ignored, s) (λ purpose. refl) refl) refl

wrong-same : (p : Phase) (message : List ℕ) (s : State) → Same s (wrong_step message (record s { phase = p })).1
wrong-same Requesting message s = refl
wrong-same p message s = refl

message-same : (message : List ℕ) (now : ℕ) (s : State) → Same s (message_step message now s).1
message-same message now s = by (judgement_of s message) refl
  where
    by : (j : Judgement) → judgement_of s message ≡ j → Same s (message_step message now s).1
    by (Challenged d) e = rw e (challenge-same message d now s)
    by Fatal e = rw e (wrong-same s.phase message s)
    by ConnectionAttempt e = rw e (by_accepted (Same s) (attempt_indicated message s) s (indicated-by (Same s) message s (λ id peer accepts. refl)) refl)
    by SignedRequest e = rw e (either _ s _ _ (requested-by (Same s) message s (λ queue. refl) (λ id peer room free. refl)) refl)
    by SignedSuccess e = rw e (signed-same s.phase true message now s)
    by SignedError e = rw e (signed-same s.phase false message now s)
    by j e = rw e refl

again-same : (c : DataConnection) (id : ℕ) (d : Challenge) (now : ℕ) (s : State) → Same s (bind_again c id d now s)
again-same c id d now s = by (find (is_bind_of c.local) (purposes_of id s)) refl
  where
    by : (o : Option Purpose) → find (is_bind_of c.local) (purposes_of id s) ≡ o → Same s (bind_again c id d now s)
    by None e = rw e refl
    by (Some purpose) e = rw e refl

answered-same : (c : DataConnection) (message : List ℕ) (now : ℕ) (s : State) → Same s (bind_answered c message now s)
answered-same c message now s = by (bind_judgement s c.local message) refl
  where
    by : (j : Judgement) → bind_judgement s c.local message ≡ j → Same s (bind_answered c message now s)
    by (Challenged d) e = rw e (again-same c (id_of message) d now s)
    by SignedSuccess e = rw e refl
    by SignedError e = rw e refl
    by j e = rw e refl

gone-same : (local : SocketAddr) (s : State) → Same s (connection_gone local s)
gone-same local s = one-of (is_some (connection_at local s)) s _ s refl refl

kept : IsKept Same
kept = record {
  same = λ s. refl;
  trans = trans;
  streams = λ s streams. refl;
  message = message-same;
  binds = λ local message now s. bind-by (Same s) local message now s refl (λ c allocated there method. answered-same c message now s);
  gone = gone-same;
}

-- ---- as time passes

expired-same : (o : Option Grant) (s : State) → Same s (channel_expired o s)
expired-same (Some (Channel number peer (Active lease))) s = refl
expired-same o s = refl

expired_in-same : (family : AddressFamily) (given : Option ℕ) (purposes : List Purpose) (now : ℕ) (s : State) → Same s (expired_in family given purposes now s)
expired_in-same family given purposes now =
    expired_in-does Same family given purposes now (record {
      trans = trans;
      channels = λ t. refl;
      permissions = λ t. refl;
      last_channel = λ t. expired-same (find (λ g. is_of family g && is_expired_channel now g) (reverse t.grants)) t;
      expired_permissions = λ t. refl;
      connects = λ t. refl;
      connections = λ t. refl;
      offers = λ t. refl;
      refreshes = λ t. refl;
      frees = λ t. refl;
    })

expired_at-same : (given : Option ℕ) (now : ℕ) (s : State) → Same s (expired_at given now s)
expired_at-same given now s =
    all-expire Same (λ t. refl) trans given (timed_out_purposes given s) now (λ family t. refl)
    (λ family t. expired_in-same family given (timed_out_purposes given s) now t) (allocations s) s

answer-same : (given : Option ℕ) (now : ℕ) (s : State) → Same s (answer_step given now s).1
answer-same given now s = answer-by (Same s) given now s (λ closes. refl)

timed-same : (p : Phase) (given : Option ℕ) (now : ℕ) (s : State) → Same s (timed_step p given now s).1
timed-same New given now s = refl
timed-same Requesting None now s = answer-same None now s
timed-same Requesting (Some id) now s = refl
timed-same Authenticating None now s = answer-same None now s
timed-same Authenticating (Some id) now s = by_test (λ (t : State). Same s (answer_step (Some id) now t).1) (is_listed_for_allocation id s) (closed s) s
    (λ e. answer-same (Some id) now (closed s)) (λ e. answer-same (Some id) now s)
timed-same Allocated given now s = answer-same given now (expired_at given now s) ∙ expired_at-same given now s
timed-same Closed given now s = refl

poll-same : (now : ℕ) (s : State) → Same s (poll_step now s).1
poll-same now s =
    either _ s _ _ refl
    (found _ (next_offer s) s _ (λ offer. refl)
    (found _ (timed_out_transaction (agent_of s) now) s _ (λ x. timed-same s.phase (Some x.id) now (transaction_ended x.id s)) (timed-same s.phase None now s)))

-- ---- what the caller requests

allocation-same : {E : Type 0} (o : Option Relay) (ip : IpAddr) (now : ℕ) (refusal : E) (s : State) (otherwise : Result Unit E × State) → Same s otherwise.1
    → Same s (in_allocation o ip now refusal s otherwise).1
allocation-same None ip now refusal s otherwise p = refl
allocation-same (Some a) ip now refusal s otherwise p = either _ s _ otherwise refl p

bound_by-same : (peer : SocketAddr) (now : ℕ) (s : State) (l : List ℕ) (b : Bool) (o : Option ℕ) → Same s (bound_by peer now s l b o).1
bound_by-same peer now s (until ∷ others) b o = refl
bound_by-same peer now s [] false o = refl
bound_by-same peer now s [] true None = refl
bound_by-same peer now s [] true (Some number) = refl

permission_step-same : (ip : IpAddr) (now : ℕ) (s : State) → Same s (permission_step ip now s).1
permission_step-same ip now s = either (is_some (permission_state ip s)) s _ _ refl (either (not (is_allocated s.phase)) s _ _ refl refl)

channel_step-same : (peer : SocketAddr) (now : ℕ) (s : State) → Same s (channel_step peer now s).1
channel_step-same peer now s =
    either (list_any is_in_progress (channels_to peer s)) s _ _ refl
    (bound_by-same peer now s (filter_map (reserved_from now) (channels_to peer s)) (is_allocated s.phase) (free_number s))

connect_step-same : (peer : SocketAddr) (now : ℕ) (s : State) → Same s (connect_step peer now s).1
connect_step-same peer now s =
    either (not (is_allocated s.phase)) s _ _ refl
    (either (not (has_active_permission (socket_ip peer) s)) s _ _ refl (either (is_connected peer s || is_connecting peer s) s _ _ refl refl))

opened-same : (id : ℕ) (peer local : SocketAddr) (origin : Origin) (now : ℕ) (s : State) → Same s (socket_opened id peer local origin now s)
opened-same id peer local (ServerRequest request) now s = refl
opened-same id peer local origin now s = refl

refused-same : (id : ℕ) (peer : SocketAddr) (origin : Origin) (s : State) → Same s (socket_refused id peer origin s)
refused-same id peer (ServerRequest request) s = refl
refused-same id peer origin s = refl

socket-same : (id : ℕ) (peer : SocketAddr) (local : Option SocketAddr) (origin : Origin) (now : ℕ) (s : State) → Same s (socket_step id peer local origin now s).1
socket-same id peer None origin now s = refused-same id peer origin s
socket-same id peer (Some local) origin now s = either (is_local_taken local s) s _ _ refl (opened-same id peer local origin now s)

keep-same : (transport : TransportType) (which : Grant → Bool) (is_kept : Bool) (s : State) → Same s (keep_step transport which is_kept s).1
keep-same transport which is_kept s = either (same_transport transport s.config.allocation_transport && list_any which s.grants) s _ _ refl refl

-- ---- all calls

-- the call sends no packets of the client's own
abbrev pub SendsNone : Call → Type 0
SendsNone (PollTransmit now) = ⊥
SendsNone call = ⊤

pub others-same : (call : Call) (s : State) → SendsNone call → (state_after call s).last_send ≡ s.last_send
others-same (Delete now) s none = either (is_allocated s.phase) s _ _ refl refl
others-same (CreatePermission transport ip now) s none =
    allocation-same (find_allocation_to transport ip s) ip now Create.NoAllocation s (permission_step ip now s) (permission_step-same ip now s)
others-same (BindChannel transport peer now) s none =
    allocation-same (find_allocation_to transport (socket_ip peer) s) (socket_ip peer) now Bind.NoAllocation s (channel_step peer now s) (channel_step-same peer now s)
others-same (TcpConnect peer now) s none =
    allocation-same (find_allocation_to Tcp (socket_ip peer) s) (socket_ip peer) now Join.NoAllocation s (connect_step peer now s) (connect_step-same peer now s)
others-same (AllocatedTcpSocket id tuple peer local now) s none =
    either (same_transport s.config.allocation_transport Tcp && is_control tuple s && is_allocated s.phase) s _ _
    (found (λ origin. socket_step id peer local origin now s) (offer_origin id peer s) s _ (λ origin. socket-same id peer local origin now s) refl) refl
others-same (TcpClosed local remote now) s none = one-of (same_transport s.transport Tcp && same_address remote s.remote) s (connection_gone local s) s (gone-same local s) refl
others-same (SendTo transport peer bytes now) s none = send_to-by (Same s) transport peer bytes now s (λ ids. refl)
others-same (Recv packet now) s none = recv-kept Same kept packet.transport packet.from packet.to packet.payload now s
others-same (PollRecv now) s none = poll_recv-kept Same kept now s
others-same (Poll now) s none = poll-same now s
others-same (PollTransmit now) s none = absurd none
others-same ProtocolError s none = one-of (is_closed s.phase) s s (closed (fail_all s)) refl refl
others-same (SetPermissionKept transport ip is_kept) s none = keep-same transport (is_permission_of ip) is_kept s
others-same (SetChannelKept transport peer is_kept) s none = keep-same transport (is_open_to peer) is_kept s
others-same call s none = refl
