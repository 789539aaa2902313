-- What each call requests, and what it removes.
use Rattle.turn_client_laws.proofs.Common.{◌≡◌, ◌⊎◌, ℕ, Bool, true, false, not, cond, ◌||◌, List, [], ◌∷◌, map, Option, Some, None, Result, Err, refl, inl, inr, arith, ◌&&◌, filter_map, is_some}
use Rattle.turn_client_laws.proofs.Common.{is_none, list_any, socket_ip, IpAddr, SocketAddr}
use Rattle.turn_client_laws.proofs.Machine.{TransportType, Tcp, AddressFamily, first_sent, Transaction, State, Grant, Permission, Connect, Relay, Listing, Pending, Purpose, ForPermission, ForChannel}
use Rattle.turn_client_laws.proofs.Machine.{ForConnect, find_allocation_to, changed_allocation, family_of_ip, is_of_family, is_past, has_active_permission, permission_state, with_expired, with_grant}
use Rattle.turn_client_laws.proofs.Machine.{fresh_id, listings, request_for, requested, waits_from, is_connected, is_connecting, bind_channel, bind_channel_step, bound_by, channel_step, channels_to, connect_step}
use Rattle.turn_client_laws.proofs.Machine.{create_permission_step, free_number, in_allocation, is_allocated, is_in_progress, missing_permission, permission_step, reserved_from, tcp_connect_step}
use Rattle.turn_client_laws.proofs.Machine.{Call, CreatePermission, BindChannel, TcpConnect, Has, keep_step, marked_if, with_marks, same_transport}
use Rattle.turn_client_api.specs.declared.error.BindChannelError.TheVariants as Bind
use Rattle.turn_client_laws.specs.LawsRequests.{AsksFor, IsListedAs, IsListedFor, IsMade, IsMadeAs, IsSentAgain}
use Rattle.turn_client_laws.specs.LawsGone.{IsTakenBy, grant_identity}
use Rattle.turn_client_laws.proofs.MoveLemmas.{Moves, Never, Settles, adds-more, adds-one, adds-never, adds-same, by_test, loses-map, loses-more, loses-same, settles-moves, settles-same}
use Rattle.turn_client_laws.proofs.MoveMessageLemmas.{each-listing, made-of, request_made, requested-made}
use Rattle.turn_client_laws.proofs.GrantOriginLemmas.{has-mapped}

-- what the call makes, if it leaves this state
abbrev pub MadeAt : Call → State → State → Transaction → Type 0
MadeAt call s t x = IsSentAgain call s x ⊎ ((purpose : Purpose) × (at : ℕ) × AsksFor call s purpose at × IsMadeAs purpose at s t x)

abbrev pub ListedAt : Call → State → State → Listing → Type 0
ListedAt call s t l = (purpose : Purpose) × (at : ℕ) × AsksFor call s purpose at × IsListedFor purpose l.purpose × IsListedAs purpose at s t l

-- the call may leave this state
abbrev pub Does : Call → State → State → Type 0
Does call s t = Moves (MadeAt call s t) (ListedAt call s t) (IsTakenBy call s) s t

pub does-settled : (call : Call) (s t : State) → Settles (IsTakenBy call s) s t → Does call s t
does-settled call s t settles = settles-moves (MadeAt call s t) (ListedAt call s t) (IsTakenBy call s) s t settles

pub does-same : (call : Call) (s : State) → Does call s s
does-same call s = does-settled call s s (settles-same (IsTakenBy call s) s)

-- one request is made, in a state that differs from the first by what the call removes
pub does-requested : (call : Call) (purpose : Purpose) (now : ℕ) (s u : State) → AsksFor call s purpose (waits_from now u) → Settles (IsTakenBy call s) s u → Does call s (requested (fresh_id s) purpose now u)
does-requested call purpose now s u asks (made, listed, lost) = (
  adds-one (MadeAt call s t) s.transactions u.transactions (request_made purpose now s u) (adds-never (MadeAt call s t) s.transactions u.transactions made)
      (inr (purpose, waits_from now u, asks, (requested-made purpose now s u, refl))),
  adds-one (ListedAt call s t) s.listed u.listed _ (adds-never (ListedAt call s t) s.listed u.listed listed)
      (purpose, waits_from now u, asks, inl refl, (requested-made purpose now s u, refl)),
  lost,
)
  where
    t : State
    t = requested (fresh_id s) purpose now u

-- ---- calls that need an allocation

expired-grant_identity : (family : AddressFamily) (g : Grant) → grant_identity g ≡ grant_identity (changed_allocation (λ a. is_of_family family a.relayed) (λ a. record a { is_expired = true }) g)
expired-grant_identity family g = grind arith

does-in : {E : Type 0} (call : Call) (o : Option Relay) (ip : IpAddr) (now : ℕ) (refusal : E) (s : State) (otherwise : Result Unit E × State) → Does call s otherwise.1
    → Does call s (in_allocation o ip now refusal s otherwise).1
does-in call None ip now refusal s otherwise k = does-same call s
does-in call (Some a) ip now refusal s otherwise k =
    by_test (Does call s) (is_past now a) _ otherwise
    (does-settled call s (with_expired (family_of_ip ip) s) (adds-same Never s.transactions, adds-same Never s.listed, loses-map _ _ s.grants (expired-grant_identity (family_of_ip ip))))
    k

-- what is kept from now on, or not, stays
marked-grant_identity : (which : Grant → Bool) (is_kept : Bool) (g : Grant) → grant_identity g ≡ grant_identity (marked_if which is_kept g)
marked-grant_identity which is_kept g = grind arith

pub keep-does : (call : Call) (transport : TransportType) (which : Grant → Bool) (is_kept : Bool) (s : State) → Does call s (keep_step transport which is_kept s).1
keep-does call transport which is_kept s =
    by_test (Does call s) (same_transport transport s.config.allocation_transport && list_any which s.grants) _ _
    (does-settled call s (with_marks which is_kept s) (adds-same Never s.transactions, adds-same Never s.listed, loses-map _ _ s.grants (marked-grant_identity which is_kept)))
    (does-same call s)

with_grant-settles : (Taken : Grant → Type 0) (g : Grant) (s : State) → Settles Taken s (with_grant g s)
with_grant-settles Taken g s = (adds-same Never s.transactions, adds-same Never s.listed, loses-more Taken s.grants s.grants (g ∷ []) (loses-same Taken s.grants))

pub permission-does : (transport : TransportType) (ip : IpAddr) (now : ℕ) (s : State) → Does (CreatePermission transport ip now) s (create_permission_step transport ip now s).1
permission-does transport ip now s =
    does-in call (find_allocation_to transport ip s) ip now _ s (permission_step ip now s)
    (by_test (Does call s) (is_some (permission_state ip s)) _ _ (does-same call s)
    (by_test (Does call s) (not (is_allocated s.phase)) _ _ (does-same call s)
    (does-requested call (ForPermission ip) now s (with_grant (Permission ip (Pending true)) s) (refl, refl) (with_grant-settles _ (Permission ip (Pending true)) s))))
  where
    call : Call
    call = CreatePermission transport ip now

pub connect-does : (peer : SocketAddr) (now : ℕ) (s : State) → Does (TcpConnect peer now) s (tcp_connect_step peer now s).1
connect-does peer now s =
    does-in call (find_allocation_to Tcp (socket_ip peer) s) (socket_ip peer) now _ s (connect_step peer now s)
    (by_test (Does call s) (not (is_allocated s.phase)) _ _ (does-same call s)
    (by_test (Does call s) (not (has_active_permission (socket_ip peer) s)) _ _ (does-same call s)
    (by_test (Does call s) (is_connected peer s || is_connecting peer s) _ _ (does-same call s)
    (does-requested call (ForConnect peer) now s (with_grant (Connect peer) s) (refl, refl) (with_grant-settles _ (Connect peer) s)))))
  where
    call : Call
    call = TcpConnect peer now

-- ---- channels

module _ (transport : TransportType) (peer : SocketAddr) (now : ℕ) (s : State) where
  abbrev binding : Call
  binding = BindChannel transport peer now

  -- a permission is requested with the channel
  listed-with : (number : ℕ) (ips : List IpAddr) (b : Bool) → ips ≡ cond b (socket_ip peer ∷ []) [] → (p : Purpose) → Has p (ForChannel number peer ∷ map ForPermission ips)
      → IsListedFor (ForChannel number peer) p
  listed-with number ips b e p (inl is) = inl is
  listed-with number ips b e p (inr h) = by (has-mapped ForPermission p ips h)
    where
      one : (c : Bool) (ip : IpAddr) → Has ip (cond c (socket_ip peer ∷ []) []) → ip ≡ socket_ip peer
      one true ip (inl is) = is
      one true ip (inr none) = absurd none
      one false ip none = absurd none

      by : (ip : IpAddr) × Has ip ips × (p ≡ ForPermission ip) → IsListedFor (ForChannel number peer) p
      by (ip, there, is) = rw is (inr (one b ip (rw e at there)))

  bound-does : (number : ℕ) → free_number s ≡ Some number → Does binding s (bind_channel number peer now s)
  bound-does number free = (
    adds-one (MadeAt binding s t) s.transactions s.transactions x (adds-same _ s.transactions) (inr (purpose, waits_from now s, asks, (made, refl))),
    adds-more (ListedAt binding s t) s.listed s.listed _ (adds-same _ s.listed) listed,
    loses-more _ s.grants s.grants _ (loses-same _ s.grants),
  )
    where
      t : State
      t = bind_channel number peer now s

      purpose : Purpose
      purpose = ForChannel number peer

      asks : AsksFor binding s purpose (waits_from now s)
      asks = (refl, (number, free, refl))

      x : Transaction
      x = first_sent (fresh_id s) s.remote (waits_from now s) (request_for s purpose (fresh_id s))

      made : IsMade purpose (waits_from now s) s t
      made = made-of purpose (waits_from now s) s t (request_for s purpose (fresh_id s)) (inl refl) s.transactions refl

      listed : (l : Listing) → Has l (listings (fresh_id s) (purpose ∷ map ForPermission (missing_permission peer s))) → ListedAt binding s t l
      listed =
          each-listing (ListedAt binding s t) (fresh_id s) (purpose ∷ map ForPermission (missing_permission peer s))
          (λ p h. (purpose, waits_from now s, asks, listed-with number (missing_permission peer s) (is_none (permission_state (socket_ip peer) s)) refl p h, (made, refl)))

  bound_by-does : (l : List ℕ) (b : Bool) (o : Option ℕ) → free_number s ≡ o → Does binding s (bound_by peer now s l b o).1
  bound_by-does [] true (Some number) e = bound-does number e
  bound_by-does l b o e = does-same binding s

  pub channel-does : Does binding s (bind_channel_step transport peer now s).1
  channel-does =
      does-in binding (find_allocation_to transport (socket_ip peer) s) (socket_ip peer) now _ s (channel_step peer now s)
      (by_test (Does binding s) (list_any is_in_progress (channels_to peer s)) (Err Bind.AlreadyExists, s)
      (bound_by peer now s (filter_map (reserved_from now) (channels_to peer s)) (is_allocated s.phase) (free_number s)) (does-same binding s)
      (bound_by-does (filter_map (reserved_from now) (channels_to peer s)) (is_allocated s.phase) (free_number s) refl))
