-- A stream that waits to be bound has no bound data connection.
use Rattle.turn_client_laws.proofs.Common.{◌≡◌, ◌⊎◌, ◌∙◌, ℕ, Bool, true, false, cond, not, ◌&&◌, List, [], ◌∷◌, ◌++◌, map, filter, Option, Some, None, Result, refl, sym, subst, ap, inl, inr, is_some}
use Rattle.turn_client_laws.proofs.Common.{Contains, list_any, cases_Bool, or_parts, none-some, same_Some, SocketAddr}
use Rattle.turn_client_laws.proofs.Machine.{TransportType, Tcp, same_address, Config, State, initial, later_by, Call, AllocatedTcpSocket, Delete, PollRecv, Recv, TcpAllocateError, DataConnection}
use Rattle.turn_client_laws.proofs.Machine.{Grant, Channel, Connection, Permission, Origin, ServerRequest, Pending, Bound, Broken, Waiting, Stream, is_allocated, is_control, is_local_taken}
use Rattle.turn_client_laws.proofs.Machine.{is_offer_of, offer_origin, socket_opened, socket_refused, socket_step, without_first, bind_step, connection_at, is_connection_from, same_transport}
use Rattle.turn_client_laws.proofs.Machine.{without_grants, is_message, message_step, connection_gone, bind_time, state_after, broken_at, with_bytes, without_stream, same_address-self, Has}
use Rattle.turn_client_laws.proofs.Machine.{has-append, has-filter}
use Rattle.turn_client_laws.proofs.Laws.{Input, handled, processed, IsConnectedBy, IsOverControl, by_found, by_test, no-connection, delete-walk, quiet-walk, Binds, BindsOrLeaves, bind-leaves}
use Rattle.turn_client_laws.proofs.Laws.{has-mapped, bringing, deadline-has, has-any, on_choice, input-by, Covers, Leaves, contains-has, covers-has, has-contains, was-first, Same, Same-KeepsEdits}
use Rattle.turn_client_laws.proofs.Laws.{message-same}
use Rattle.turn_client_laws.proofs.BoundStreamLemmas.{leaves-connection}
use Rattle.turn_client_runs.proofs.BoundLemmas.{not_both}
use Rattle.turn_client_runs.proofs.StreamWalk.{IsThere, KeepsStreams, input-goes}

-- no connection from this local address is bound
abbrev pub IsUnbound : SocketAddr → State → Type 0
IsUnbound local s = (c : DataConnection) → Has (Connection c) s.grants → c.local ≡ local → c.deadline ≡ None → ⊥

-- this holds of each stream that waits
abbrev pub AreUnbound : State → Type 0
AreUnbound s = (x : Stream) → Has x s.streams → x.mode ≡ Waiting → IsUnbound x.local s

-- and of the one that an input came over
abbrev pub ComesUnbound : Input → Type 0
ComesUnbound one = (x : Stream) → one.stream ≡ Some x → x.mode ≡ Waiting → IsUnbound x.local one.before

-- ---- streams alone

-- a stream that waits then waited before
abbrev WaitsBack : List Stream → List Stream → Type 0
WaitsBack xs ys = (y : Stream) → Has y ys → y.mode ≡ Waiting → (x : Stream) × Has x xs × (x.local ≡ y.local) × (x.mode ≡ Waiting)

-- no connection is bound anew
abbrev BoundBack : State → State → Type 0
BoundBack s t = (c : DataConnection) → Has (Connection c) t.grants → c.deadline ≡ None → Has (Connection c) s.grants

still-unbound : (s t : State) → WaitsBack s.streams t.streams → BoundBack s t → AreUnbound s → AreUnbound t
still-unbound s t waits bound unbound y there waiting c here at none =
    let (x, before, same, waited) = waits y there waiting in
    unbound x before waited c (bound c here none) (at ∙ sym same) none

same-waits : (xs ys : List Stream) → ys ≡ xs → WaitsBack xs ys
same-waits xs ys same y there waiting = (y, subst (Has y) same there, refl, waiting)

same-bound : (s : State) → BoundBack s s
same-bound s c there none = there

abbrev WaitedSo : Stream → Stream → Type 0
WaitedSo x y = y.mode ≡ Waiting → (x.local ≡ y.local) × (x.mode ≡ Waiting)

map-waits : (f : Stream → Stream) → ((x : Stream) → WaitedSo x (f x)) → (xs : List Stream) → WaitsBack xs (map f xs)
map-waits f each xs y there waiting =
    let (x, before, e) = has-mapped f y xs there in
    let (same, waited) = each x (rw e at waiting) in
    (x, before, same ∙ sym (ap (λ (z : Stream). z.local) e), waited)

bytes-unbound : (local : SocketAddr) (bytes : List ℕ) (s t : State) → t.streams ≡ map (λ x. cond (same_address x.local local) (record x { bytes = bytes }) x) s.streams → t.grants ≡ s.grants
    → AreUnbound s → AreUnbound t
bytes-unbound local bytes s t streams grants =
    let f = λ (x : Stream). cond (same_address x.local local) (record x { bytes = bytes }) x in
    still-unbound s t
    (subst (WaitsBack s.streams) (sym streams) (map-waits f (λ x. on_choice (WaitedSo x) (same_address x.local local) (record x { bytes = bytes }) x (λ e. (refl, e)) (λ e. (refl, e))) s.streams))
    (λ c there none. subst (Has (Connection c)) grants there)

broken-unbound : (local : SocketAddr) (s t : State) → t.streams ≡ map (λ x. cond (same_address x.local local) (record x { mode = Broken; bytes = [] }) x) s.streams → t.grants ≡ s.grants
    → AreUnbound s → AreUnbound t
broken-unbound local s t streams grants =
    let f = λ (x : Stream). cond (same_address x.local local) (record x { mode = Broken; bytes = [] }) x in
    still-unbound s t
    (subst (WaitsBack s.streams) (sym streams) (map-waits f (λ x. on_choice (WaitedSo x) (same_address x.local local) (record x { mode = Broken; bytes = [] }) x (λ e. cc) (λ e. (refl, e))) s.streams))
    (λ c there none. subst (Has (Connection c)) grants there)

filter-waits : (p : Stream → Bool) (xs : List Stream) → WaitsBack xs (filter p xs)
filter-waits p xs y there waiting = (y, (has-filter p y xs there).0, refl, waiting)

gone-unbound : (local : SocketAddr) (s : State) → AreUnbound s → AreUnbound (connection_gone local s)
gone-unbound local s =
    by_test (λ (t : State). AreUnbound s → AreUnbound t) (is_some (connection_at local s)) gone s
    (λ is. still-unbound s gone (same-waits s.streams s.streams refl) (λ c there none. (has-filter (λ g. not (is_connection_from local g)) (Connection c) s.grants there).0)) (λ none h. h)
  where
    gone : State
    gone = record (without_grants (is_connection_from local) s) { closes = local ∷ s.closes }

-- ---- inputs

-- a bound connection is kept as itself
covered-there : (gs : List Grant) (c : DataConnection) → Covers gs (Connection c) → Has (Connection c) gs
covered-there gs c (Connection d, there, (same, none)) = subst (λ (x : DataConnection). Has (Connection x) gs) same there
covered-there gs c (Permission ip (Pending is_kept), there, k) = absurd k
covered-there gs c (Channel number peer (Pending is_kept), there, k) = absurd k
covered-there gs c (was, there, k) = absurd k

leaves-back : (s t : State) → Leaves s t → BoundBack s t
leaves-back s t leaves c there none = covered-there s.grants c (leaves (Connection c) there none)

message-unbound : (one : Input) → IsOverControl one → is_message one.bytes ≡ true → AreUnbound one.before → AreUnbound (message_step one.bytes one.time one.before).1
message-unbound one over whole =
    still-unbound s t (same-waits s.streams t.streams (message-same one.bytes one.time s))
    (λ c there none. elim ((bringing (Connection c)).message one over whole (covers-has t.grants (Connection c) there none)) [
      | inl covers ↦ covered-there s.grants c covers
      | inr (peer, is) ↦ absurd (not_both c.local one over is.over)
    ])
  where
    s : State
    s = one.before

    t : State
    t = (message_step one.bytes one.time s).1

-- the stream that is bound waits no more
binds-unbound : (local : SocketAddr) (message : List ℕ) (s t : State) → Binds local message s t → AreUnbound s → AreUnbound t
binds-unbound local message s t b unbound y there waiting c here at none =
    let (x, before, e) = has-mapped f y s.streams (subst (Has y) b.streams there) in
    let (g, was, d) = has-mapped _ (Connection c) s.grants (subst (Has (Connection c)) b.grants here) in
    of x before e (cases_Bool (same_address x.local b.c.local)) g was (deadline-has b.c.local (Connection c) g d)
  where
    f : Stream → Stream
    f x = cond (same_address x.local b.c.local) (record x { mode = Bound b.c.peer }) x

    alike : (a d : DataConnection) → Connection a ≡ Connection d → a ≡ d
    alike a d same = cc

    of : (x : Stream) → Has x s.streams → y ≡ f x → (same_address x.local b.c.local ≡ true) ⊎ (same_address x.local b.c.local ≡ false)
        → (g : Grant) → Has g s.grants → (Connection c ≡ g) ⊎ ((d : DataConnection) × (Connection c ≡ Connection d) × (d.local ≡ b.c.local)) → ⊥
    of x before e (inl is) g was same =
        let bound : y.mode ≡ Bound b.c.peer = ap (λ (z : Stream). z.mode) e ∙ rw is refl in
        cc (sym bound ∙ waiting)
    of x before e (inr other) g was (inl same) =
        let alone : y ≡ x = e ∙ rw other refl in
        unbound x before (subst (λ (z : Stream). z.mode ≡ Waiting) alone waiting) c (subst (λ (h : Grant). Has h s.grants) (sym same) was)
        (at ∙ ap (λ (z : Stream). z.local) alone) none
    of x before e (inr other) g was (inr (d, same, ends)) =
        let alone : y ≡ x = e ∙ rw other refl in
        let here : x.local ≡ b.c.local = sym (ap (λ (z : Stream). z.local) alone) ∙ (sym at ∙ (ap (λ (z : DataConnection). z.local) (alike c d same) ∙ ends)) in
        let clash : true ≡ false = sym (subst (λ (a : SocketAddr). same_address x.local a ≡ true) here (same_address-self x.local)) ∙ other in
        cc

bind-unbound : (local : SocketAddr) (message : List ℕ) (now : ℕ) (s : State) → AreUnbound s → AreUnbound (bind_step local message now s)
bind-unbound local message now s = by (bind-leaves local message now s)
  where
    t : State
    t = bind_step local message now s

    by : BindsOrLeaves local message s t → AreUnbound s → AreUnbound t
    by (inl b) = binds-unbound local message s t b
    by (inr (leaves, same)) = still-unbound s t (same-waits s.streams t.streams same) (leaves-back s t leaves)

input-unbound : (one : Input) → AreUnbound one.before → AreUnbound (processed one).1
input-unbound one =
    input-by (λ (t : State). AreUnbound one.before → AreUnbound t) one (λ h. h) (λ over whole. message-unbound one over whole)
    (λ stream of waits whole. bind-unbound stream.local one.bytes one.time one.before)

frame-unbound : (stream : Stream) (s t : State) → t.grants ≡ s.grants → IsThere stream s → AreUnbound s → (x : Stream) → Some stream ≡ Some x → x.mode ≡ Waiting → IsUnbound x.local t
frame-unbound stream s t grants (z, there, ends, mode) unbound x same waiting c here at none =
    let is : stream ≡ x = same_Some stream x same in
    unbound z there (mode ∙ subst (λ (y : Stream). y.mode ≡ Waiting) (sym is) waiting) c (subst (Has (Connection c)) grants here)
    (at ∙ (ap (λ (y : Stream). y.local) (sym is) ∙ sym ends)) none

walk : KeepsStreams AreUnbound ComesUnbound
walk = record {
  bytes = λ local bytes s. bytes-unbound local bytes s (with_bytes local bytes s) refl refl;
  broken = λ local s. broken-unbound local s (broken_at local s) refl refl;
  dropped = λ local s. still-unbound s (without_stream local s) (filter-waits (λ x. not (same_address x.local local)) s.streams) (same-bound s);
  gone = gone-unbound;
  input = λ one fine. input-unbound one;
  frame = λ is_lent stream bytes now s there h. frame-unbound stream s (with_bytes stream.local [] s) refl there h;
  datagram = λ bytes now s h x none. absurd (none-some x none);
}

-- ---- calls

-- a connection is opened where there is none
module _ (s t : State) (local : SocketAddr) (time : ℕ) (c : DataConnection) (which : Grant → Bool) where
  opens : (list_any (is_connection_from local) s.grants ≡ false) → c.local ≡ local → c.deadline ≡ Some time → t.grants ≡ without_first which s.grants ++ Connection c ∷ []
      → t.streams ≡ filter (λ x. not (same_address x.local local)) s.streams ++ record { local = local; mode = Waiting; bytes = [] } ∷ [] → AreUnbound s → AreUnbound t
  opens free ends waits grants streams unbound y there waiting d here at none =
      by (has-append y (filter (λ x. not (same_address x.local local)) s.streams) _ (subst (Has y) streams there))
      (has-append (Connection d) (without_first which s.grants) _ (subst (Has (Connection d)) grants here))
    where
      new : Connection d ≡ Connection c → ⊥
      new same =
          let alike : d ≡ c = cc in
          none-some time (sym none ∙ (ap (λ (x : DataConnection). x.deadline) alike ∙ waits))

      by : Has y (filter (λ x. not (same_address x.local local)) s.streams) ⊎ Has y (record { local = local; mode = Waiting; bytes = [] } ∷ [])
          → Has (Connection d) (without_first which s.grants) ⊎ Has (Connection d) (Connection c ∷ []) → ⊥
      by old (inr (inl same)) = new same
      by old (inr (inr never)) = absurd never
      by (inl old) (inl was) = unbound y (has-filter (λ x. not (same_address x.local local)) y s.streams old).0 waiting d (was-first which (Connection d) s.grants was) at none
      by (inr (inl same)) (inl was) =
          let from : same_address d.local local ≡ true =
          subst (λ (a : SocketAddr). same_address d.local a ≡ true) (at ∙ ap (λ (x : Stream). x.local) same) (same_address-self d.local) in
          let some = has-any (is_connection_from local) (Connection d) s.grants (was-first which (Connection d) s.grants was) from in
          let clash : true ≡ false = sym some ∙ free in
          cc
      by (inr (inr never)) (inl was) = absurd never

abbrev opened_for : SocketAddr → SocketAddr → ℕ → DataConnection
opened_for local peer now = record { local = local; peer = peer; deadline = Some (later_by bind_time now) }

none-from : (local : SocketAddr) (s : State) → is_local_taken local s ≡ false → list_any (is_connection_from local) s.grants ≡ false
none-from local s free = no-connection local s.grants (or_parts (same_address local s.local) (is_some (connection_at local s)) free).1

opened-unbound : (id : ℕ) (peer local : SocketAddr) (origin : Origin) (now : ℕ) (s : State) → is_local_taken local s ≡ false → AreUnbound s → AreUnbound (socket_opened id peer local origin now s)
opened-unbound id peer local (ServerRequest request) now s free =
    opens s (socket_opened id peer local (ServerRequest request) now s) local (later_by bind_time now) (opened_for local peer now) (is_offer_of id peer) (none-from local s free) refl refl refl refl
opened-unbound id peer local origin now s free =
    opens s (socket_opened id peer local origin now s) local (later_by bind_time now) (opened_for local peer now) (is_offer_of id peer) (none-from local s free) refl refl refl refl

refused-unbound : (id : ℕ) (peer : SocketAddr) (origin : Origin) (s : State) → AreUnbound s → AreUnbound (socket_refused id peer origin s)
refused-unbound id peer (ServerRequest request) s =
    still-unbound s (socket_refused id peer (ServerRequest request) s) (same-waits s.streams s.streams refl) (λ c there none. was-first (is_offer_of id peer) (Connection c) s.grants there)
refused-unbound id peer origin s =
    still-unbound s (socket_refused id peer origin s) (same-waits s.streams s.streams refl) (λ c there none. was-first (is_offer_of id peer) (Connection c) s.grants there)

socket-unbound : (id : ℕ) (peer : SocketAddr) (local : Option SocketAddr) (origin : Origin) (now : ℕ) (s : State) → AreUnbound s → AreUnbound (socket_step id peer local origin now s).1
socket-unbound id peer None origin now s = refused-unbound id peer origin s
socket-unbound id peer (Some local) origin now s =
    by_test (λ (x : Result Unit TcpAllocateError × State). AreUnbound s → AreUnbound x.1) (is_local_taken local s) _ _ (λ f h. h) (λ f. opened-unbound id peer local origin now s f)

-- a call that processes no input binds nothing
nothing-bound : (call : Call) (s : State) → handled call s ≡ [] → BoundBack s (state_after call s)
nothing-bound call s nothing c there none = by (leaves-connection call s (state_after call s) c (inl refl) (has-contains (Connection c) (state_after call s).grants there, none))
  where
    by : IsConnectedBy c call s → Has (Connection c) s.grants
    by (inl (before, is)) = contains-has (Connection c) s.grants before
    by (inr (one, among, did)) = absurd (contains-has one [] (subst (λ (inputs : List Input). Contains inputs one) nothing among))

pub call-unbound : (call : Call) (s : State) → AreUnbound s → AreUnbound (state_after call s)
call-unbound (Recv packet now) s h = (input-goes AreUnbound ComesUnbound walk (Recv packet now) s tt h).0
call-unbound (PollRecv now) s h = (input-goes AreUnbound ComesUnbound walk (PollRecv now) s tt h).0
call-unbound (Delete now) s h =
    let t = state_after (Delete now) s in
    still-unbound s t (same-waits s.streams t.streams (delete-walk Same Same-KeepsEdits (λ now s. refl) now s)) (nothing-bound (Delete now) s refl) h
call-unbound (AllocatedTcpSocket id tuple peer local now) s h =
    let Claim = λ (x : Result Unit TcpAllocateError × State). AreUnbound s → AreUnbound x.1 in
    by_test Claim (same_transport s.config.allocation_transport Tcp && is_control tuple s && is_allocated s.phase) _ _
    (λ f. by_found Claim _ (offer_origin id peer s) _ (λ origin g. socket-unbound id peer local origin now s) (λ k. k)) (λ f k. k) h
call-unbound call s h =
    still-unbound s (state_after call s) (same-waits s.streams (state_after call s).streams (quiet-walk Same Same-KeepsEdits call s tt)) (nothing-bound call s refl) h

pub first-unbound : (transport : TransportType) (local remote : SocketAddr) (config : Config) (seed : List ℕ) → AreUnbound (initial transport local remote config seed)
first-unbound transport local remote config seed x there waiting c none at deadline = absurd none

-- each input of a call comes over such a stream
pub input-unbound-at : (call : Call) (s : State) (one : Input) → Contains (handled call s) one → AreUnbound s → ComesUnbound one
input-unbound-at (Recv packet now) s one among h =
    (input-goes AreUnbound ComesUnbound walk (Recv packet now) s tt h).1 one (contains-has one (handled (Recv packet now) s) among)
input-unbound-at (PollRecv now) s one among h =
    (input-goes AreUnbound ComesUnbound walk (PollRecv now) s tt h).1 one (contains-has one (handled (PollRecv now) s) among)
input-unbound-at call s one among h = absurd (contains-has one [] among)
