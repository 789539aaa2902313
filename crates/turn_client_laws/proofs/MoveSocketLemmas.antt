-- What is requested and removed with data connections, with data, and when allocations are deleted.
use Rattle.turn_client_laws.proofs.Common.{◌≡◌, ◌⊎◌, ℕ, Bool, true, not, ◌&&◌, List, [], ◌∷◌, ◌++◌, map, filter, Option, Some, None, refl, ◌∙◌, inl, inr, arith, cases_Bool, is_some, option_map_or}
use Rattle.turn_client_laws.proofs.Common.{SocketAddr}
use Rattle.turn_client_laws.proofs.Machine.{TransportType, Tcp, AddressFamily, IPV4, first_sent, same_address, Transaction, State, later_by, Grant, Connection, Listing, Origin, OwnConnect}
use Rattle.turn_client_laws.proofs.Machine.{ServerRequest, Purpose, ForRefresh, ForBind, Relay, allocations, changed_allocation, family_of, is_connection_from, same_transport, with_grant}
use Rattle.turn_client_laws.proofs.Machine.{accepted_reply, fresh_id, listings, request_for, requested, waits_from, bind_time, connection_at, connection_gone, tcp_closed_step, without_stream}
use Rattle.turn_client_laws.proofs.Machine.{allocated_tcp_socket_step, answered_with, delete_step, delete_text, deleted, is_allocated, is_closed, is_control, is_granted_in, is_local_taken}
use Rattle.turn_client_laws.proofs.Machine.{is_offer_of, offer_origin, offer_taken, protocol_error_step, send_to_step, socket_opened, socket_refused, socket_step, with_stream, without_first}
use Rattle.turn_client_laws.proofs.Machine.{Socket5Tuple, Call, Delete, AllocatedTcpSocket, TcpClosed, SendTo, ProtocolError, Has, map-has}
use Rattle.turn_client_laws.specs.LawsRequests.{IsMade}
use Rattle.turn_client_laws.specs.LawsGone.{IsTakenBy, grant_identity}
use Rattle.turn_client_laws.proofs.MoveLemmas.{Loses, Never, Remains, Settles, adds-filter, adds-more, adds-one, adds-same, by_test, loses-filter, loses-more, loses-same, on_test, settles-same}
use Rattle.turn_client_laws.proofs.MoveLemmas.{adds-never, loses-cons, loses-one}
use Rattle.turn_client_laws.proofs.MoveCallLemmas.{Does, ListedAt, MadeAt, does-same, does-settled}
use Rattle.turn_client_laws.proofs.MoveMessageLemmas.{each-listing, made-of, request_made}
use Rattle.turn_client_laws.proofs.GrantOriginLemmas.{has-mapped}
use Rattle.turn_client_laws.proofs.CaseLemmas.{send_to-by}

-- a pair by the result of a look-up
pub by_found : {A X : Type 0} (P : State → Type 0) (f : X → A × State) (o : Option X) (y : A × State) → ((x : X) → o ≡ Some x → P (f x).1) → P y.1 → P (option_map_or f o y).1
by_found P f None y k l = l
by_found P f (Some x) y k l = k x refl

-- ---- a data connection ends

gone-does : (call : Call) (local : SocketAddr) (s : State) → ((g : Grant) → is_connection_from local g ≡ true → IsTakenBy call s g) → Does call s (connection_gone local s)
gone-does call local s takes =
    on_test (Does call s) (is_some (connection_at local s)) _ s
    (does-settled call s _ (adds-same Never s.transactions, adds-filter Never _ s.listed, loses-filter (IsTakenBy call s) (is_connection_from local) s.grants takes))
    (does-same call s)

-- the same, with its stream
pub gone-settles : (local : SocketAddr) (s : State) → Settles (λ g. is_connection_from local g ≡ true) s (without_stream local (connection_gone local s))
gone-settles local s =
    let Taken = λ (g : Grant). is_connection_from local g ≡ true in
    on_test (Settles Taken s) (is_some (connection_at local s)) _ s
    (adds-same Never s.transactions, adds-filter Never _ s.listed, loses-filter Taken (is_connection_from local) s.grants (λ g is. is))
    (settles-same Taken s)

pub closed-does : (local remote : SocketAddr) (now : ℕ) (s : State) → Does (TcpClosed local remote now) s (tcp_closed_step local remote s)
closed-does local remote now s =
    on_test (Does (TcpClosed local remote now) s) (same_transport s.transport Tcp && same_address remote s.remote) _ s
    (gone-does (TcpClosed local remote now) local s (λ g e. e)) (does-same (TcpClosed local remote now) s)

-- ---- an offer is removed

loses-first : (Taken : Grant → Type 0) (which : Grant → Bool) (gs : List Grant) → ((g : Grant) → which g ≡ true → Taken g) → Loses Taken gs (without_first which gs)
loses-first Taken which [] takes = loses-same Taken []
loses-first Taken which (x ∷ gs) takes = elim (cases_Bool (which x)) [
  | inl e ↦ rw e (loses-one Taken x gs (takes x e))
  | inr e ↦ rw e (loses-cons Taken x x gs (without_first which gs) refl (loses-first Taken which gs takes))
]

module _ (id : ℕ) (tuple : Socket5Tuple) (peer : SocketAddr) (now : ℕ) (s : State) where
  abbrev taking : Option SocketAddr → Call
  taking local = AllocatedTcpSocket id tuple peer local now

  taken-loses : (local : Option SocketAddr) → Loses (IsTakenBy (taking local) s) s.grants (offer_taken id peer s).grants
  taken-loses local = loses-first (IsTakenBy (taking local) s) (is_offer_of id peer) s.grants (λ g e. e)

  refused-does : (origin : Origin) → Does (taking None) s (socket_refused id peer origin s)
  refused-does OwnConnect = does-settled (taking None) s _ (adds-same Never s.transactions, adds-same Never s.listed, taken-loses None)
  refused-does origin = does-settled (taking None) s _ (adds-same Never s.transactions, adds-same Never s.listed, taken-loses None)

  opened-does : (local : SocketAddr) (origin : Origin) → Does (taking (Some local)) s (socket_opened id peer local origin now s)
  opened-does local origin = by origin
    where
      call : Call
      call = taking (Some local)

      purpose : Purpose
      purpose = ForBind local peer id

      c : Grant
      c = Connection (record { local = local; peer = peer; deadline = Some (later_by bind_time now) })

      lost : Loses (IsTakenBy call s) s.grants ((offer_taken id peer s).grants ++ c ∷ [])
      lost = loses-more (IsTakenBy call s) s.grants (offer_taken id peer s).grants (c ∷ []) (taken-loses (Some local))

      -- in whatever state it is requested
      asked : (u : State) → waits_from now u ≡ waits_from now s → Settles (IsTakenBy call s) s u → Does call s (with_stream local (requested (fresh_id s) purpose now u))
      asked u same (made, listed, lost) =
          let t = with_stream local (requested (fresh_id s) purpose now u) in
          let is : IsMade purpose (waits_from now u) s t = made-of purpose (waits_from now u) s t (request_for u purpose (fresh_id s)) (inl refl) u.transactions refl in (
            adds-one (MadeAt call s t) s.transactions u.transactions (request_made purpose now s u) (adds-never _ s.transactions u.transactions made)
                (inr (purpose, waits_from now u, (same, refl), (is, refl))),
            adds-one (ListedAt call s t) s.listed u.listed (record { id = fresh_id s; purpose = purpose }) (adds-never _ s.listed u.listed listed)
                (purpose, waits_from now u, (same, refl), inl refl, (is, refl)),
            lost,
          )

      by : (origin : Origin) → Does call s (socket_opened id peer local origin now s)
      by (ServerRequest request) =
          asked (with_grant c (answered_with (accepted_reply (offer_taken id peer s)) (ServerRequest request) (offer_taken id peer s))) refl
          (adds-same Never s.transactions, adds-same Never s.listed, lost)
      by origin = asked (with_grant c (offer_taken id peer s)) refl (adds-same Never s.transactions, adds-same Never s.listed, lost)

  socket-does : (local : Option SocketAddr) (origin : Origin) → Does (taking local) s (socket_step id peer local origin now s).1
  socket-does None origin = refused-does origin
  socket-does (Some local) origin =
      by_test (Does (taking (Some local)) s) (is_local_taken local s) _ _ (does-same (taking (Some local)) s) (opened-does local origin)

  pub taken-does : (local : Option SocketAddr) → Does (taking local) s (allocated_tcp_socket_step id tuple peer local now s).1
  taken-does local =
      by_test (Does (taking local) s) (same_transport s.config.allocation_transport Tcp && is_control tuple s && is_allocated s.phase) _ _
      (by_found (Does (taking local) s) (λ origin. socket_step id peer local origin now s) (offer_origin id peer s) _ (λ origin e. socket-does local origin) (does-same (taking local) s))
      (does-same (taking local) s)

-- ---- allocations are deleted

all-grant_identity : (now : ℕ) (g : Grant) → grant_identity g ≡ grant_identity (changed_allocation (λ a. true) (λ a. record a { expiry = now; is_expired = true }) g)
all-grant_identity now g = grind arith

module _ (now : ℕ) (s : State) where
  left : List Grant
  left = filter (λ g. not (is_granted_in g)) s.grants

  -- what is removed, and then all allocations are expired
  expired-loses : Loses (IsTakenBy (Delete now) s) s.grants (map (changed_allocation (λ a. true) (λ a. record a { expiry = now; is_expired = true })) left)
  unfolding left
  expired-loses g h = by (loses-filter (IsTakenBy (Delete now) s) is_granted_in s.grants (λ g e. e) g h)
    where
      change : Grant → Grant
      change = changed_allocation (λ a. true) (λ a. record a { expiry = now; is_expired = true })

      by : Remains g left ⊎ (is_granted_in g ≡ true) → Remains g (map change left) ⊎ (is_granted_in g ≡ true)
      by (inl (is, there, same)) = inl (change is, map-has change is left there, same ∙ all-grant_identity now is)
      by (inr taken) = inr taken

  deleted-does : Does (Delete now) s (deleted now s)
  unfolding left
  deleted-does = (
    adds-one (MadeAt (Delete now) s t) s.transactions s.transactions x (adds-same _ s.transactions) (inr (ForRefresh IPV4 0, waits_from now s, (refl, (IPV4, refl)), (made IPV4, refl))),
    adds-more (ListedAt (Delete now) s t) s.listed _ _ (adds-filter _ _ s.listed) listed,
    expired-loses,
  )
    where
      t : State
      t = deleted now s

      x : Transaction
      x = first_sent (fresh_id s) s.remote (waits_from now s) (delete_text s)

      made : (family : AddressFamily) → IsMade (ForRefresh family 0) (waits_from now s) s t
      made family = made-of (ForRefresh family 0) (waits_from now s) s t (delete_text s) (inl refl) s.transactions refl

      refresh_of : Relay → Purpose
      refresh_of a = ForRefresh (family_of a.relayed) 0

      listed : (l : Listing) → Has l (listings (fresh_id s) (map refresh_of (allocations s))) → ListedAt (Delete now) s t l
      listed = each-listing (ListedAt (Delete now) s t) (fresh_id s) (map refresh_of (allocations s)) (λ p h.
          let (a, there, e) = has-mapped refresh_of p (allocations s) h in
          (p, waits_from now s, (refl, (family_of a.relayed, e)), inl refl, (rw e (made (family_of a.relayed)), refl)))

  pub delete-does : Does (Delete now) s (delete_step now s).1
  delete-does = by_test (Does (Delete now) s) (is_allocated s.phase) _ _ deleted-does (does-same (Delete now) s)

-- ---- data and errors

pub send-does : (transport : TransportType) (peer : SocketAddr) (bytes : List ℕ) (now : ℕ) (s : State) → Does (SendTo transport peer bytes now) s (send_to_step transport peer bytes now s).1
send-does transport peer bytes now s =
    let call = SendTo transport peer bytes now in
    send_to-by (Does call s) transport peer bytes now s (λ ids. does-settled call s _ (settles-same (IsTakenBy call s) s))

pub error-does : (s : State) → Does ProtocolError s (protocol_error_step s)
error-does s =
    on_test (Does ProtocolError s) (is_closed s.phase) s _ (does-same ProtocolError s)
    (does-settled ProtocolError s _ (adds-same Never s.transactions, adds-filter Never _ s.listed, loses-same (IsTakenBy ProtocolError s) s.grants))
