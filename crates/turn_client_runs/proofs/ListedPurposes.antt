-- A CONNECT, and a request that binds a data connection, were asked for by a call of the caller that was accepted.
use Rattle.turn_client_laws.proofs.Common.{◌≡◌, ◌⊎◌, ◌∙◌, ℕ, not, leb, ltb, ◌&&◌, ◌||◌, List, [], ◌∷◌, Option, Some, None, Result, Ok, Err, refl, subst, sym, ap, inl, inr, ⊤, slice_get, flat_map}
use Rattle.turn_client_laws.proofs.Common.{Contains, socket_ip, option_map_or, SocketAddr, cases_Bool, none-some, same_Some}
use Rattle.turn_client_laws.proofs.Machine.{id_of, Tcp, State, Call, Delete, CreatePermission, BindChannel, TcpConnect, AllocatedTcpSocket, PollTransmit, TcpAllocateError, TcpConnectError, Grant}
use Rattle.turn_client_laws.proofs.Machine.{Allocation, Permission, Channel, Origin, Active, Purpose, ForPermission, ForChannel, ForConnect, ForBind, Relay, Socket5Tuple, allocated_tcp_socket_step}
use Rattle.turn_client_laws.proofs.Machine.{connect_step, is_allocated, is_control, is_local_taken, offer_origin, socket_opened, socket_step, tcp_connect_step, is_connected, is_connecting}
use Rattle.turn_client_laws.proofs.Machine.{allocations, find_allocation_to, has_active_permission, is_past, purposes_of, same_transport, state_after, refresh_purpose, refreshes_in, Has}
use Rattle.turn_client_laws.proofs.Laws.{Input, handled, processed, DiffersInStreams, InputsLead, ProcessesInputs, AsksFor, IsListedFor, by_found, by_test, listing, input-moves, gone-settles}
use Rattle.turn_client_laws.proofs.Laws.{listings-made, contains-has, has-contains, calls-do, purpose-with}
use Rattle.turn_client_api.specs.declared.error.TcpAllocateError.TheVariants as Socket
use Rattle.turn_client_runs.proofs.LastingTransmits.{next-of}
use Rattle.turn_client_runs.proofs.TogetherLemmas.{listing-here}
use Rattle.turn_client_runs.proofs.InputsOfRuns.{leads-or}

-- ---- inputs list nothing new

-- some request is listed for the purpose
abbrev pub IsListed : Purpose → State → Type 0
IsListed p s = (id : ℕ) × Has (listing id p) s.listed

module _ (p : Purpose) where
  pub answered-listed : (message : List ℕ) (s : State) → Contains (purposes_of (id_of message) s) p → IsListed p s
  answered-listed message s listed = (id_of message, purpose-with (id_of message) p s (contains-has p (purposes_of (id_of message) s) listed))

  -- a request that is made again is for what the old one was for
  processed-listed : (one : Input) → IsListed p (processed one).1 → IsListed p one.before
  processed-listed one (id, there) = elim ((input-moves one).1 (listing id p) there) [
    | inl old ↦ (id, old)
    | inr (purpose, answers, wanted, is) ↦ answered-listed one.bytes one.before wanted
  ]

  differs-listed : (s t : State) → DiffersInStreams s t → IsListed p t → IsListed p s
  differs-listed s t differs (id, there) = (id, subst (λ (u : State). Has (listing id p) u.listed) differs.others there)

  lead-listed : (inputs : List Input) (s t : State) → InputsLead inputs s t → IsListed p t → IsListed p s
  lead-listed [] s t differs h = differs-listed s t differs h
  lead-listed (one ∷ inputs) s t (first, lead) h = differs-listed s one.before first (processed-listed one (lead-listed inputs (processed one).1 t lead h))

  each-listed : (inputs : List Input) (s t : State) → InputsLead inputs s t → (one : Input) → Has one inputs → IsListed p one.before → IsListed p s
  each-listed [] s t lead one none h = absurd none
  each-listed (x ∷ inputs) s t (first, lead) one (inl is) h = differs-listed s x.before first (subst (λ (y : Input). IsListed p y.before) is h)
  each-listed (x ∷ inputs) s t (first, lead) one (inr there) h =
      differs-listed s x.before first (processed-listed x (each-listed inputs (processed x).1 t lead one there h))

  -- what an input answers was listed before its call
  pub input-listed : (call : Call) (s : State) (one : Input) → Contains (handled call s) one → IsListed p one.before → IsListed p s
  input-listed call s one among h = elim (leads-or call s) [
    | inl lead ↦ each-listed (handled call s) s (state_after call s) lead one (contains-has one (handled call s) among) h
    | inr nothing ↦ absurd (contains-has one [] (subst (λ (inputs : List Input). Contains inputs one) nothing among))
  ]

  -- a call lists it only if it asks for it itself
  abbrev IsAskedBy : Call → State → Type 0
  IsAskedBy call s = (purpose : Purpose) × (at : ℕ) × AsksFor call s purpose at × IsListedFor purpose p

  call-listed : (call : Call) (s : State) → IsListed p (state_after call s) → IsListed p s ⊎ IsAskedBy call s
  call-listed call s (id, there) = elim (listing-here call s) [
    | inl takes ↦ inl (does (calls-do call s takes))
    | inr own ↦ elim (listings-made call s (state_after call s) (listing id p) (inl refl) (has-contains (listing id p) (state_after call s).listed there)) [
      | inl old ↦ inl (id, contains-has (listing id p) s.listed old)
      | inr is ↦ let (purpose, at, asks, for, made) = own (listing id p) is in inr (purpose, at, asks, for)
    ]
  ]
    where
      does : ProcessesInputs call s → IsListed p s
      does (inl lead) = lead-listed (handled call s) s (state_after call s) lead (id, there)
      does (inr end) = elim ((gone-settles end.local s).1 (listing id p) (subst (λ (t : State). Has (listing id p) t.listed) end.gone there)) [
        | inl old ↦ (id, old)
        | inr none ↦ absurd none
      ]

-- ---- which calls ask for a connection

-- no refresh is for a connection
abbrev IsForConnection : Purpose → Type 0
IsForConnection (ForConnect peer) = ⊤
IsForConnection (ForBind local peer id) = ⊤
IsForConnection p = ⊥

-- the two are not the same
none-of : (q p : Purpose) → IsForConnection p → (IsForConnection q → ⊥) → Some q ≡ Some p → ⊥
none-of q p is other e = other (subst IsForConnection (sym (same_Some q p e)) is)

refresh-none : (now : ℕ) (g : Grant) (p : Purpose) → IsForConnection p → refresh_purpose now g ≡ Some p → ⊥
refresh-none now (Allocation a) p is e = elim (cases_Bool (leb now a.expiry)) [
  | inl f ↦ none-of _ p is (λ h. h) (rw f at e)
  | inr f ↦ none-some p (rw f at e)
]
refresh-none now (Permission ip (Active lease)) p is e = elim (cases_Bool (ltb now lease.expiry)) [
  | inl f ↦ none-of _ p is (λ h. h) (rw f at e)
  | inr f ↦ none-some p (rw f at e)
]
refresh-none now (Channel number peer (Active lease)) p is e = elim (cases_Bool (ltb now lease.expiry)) [
  | inl f ↦ none-of _ p is (λ h. h) (rw f at e)
  | inr f ↦ none-some p (rw f at e)
]
refresh-none now g p is e = none-some p e

next-none : (now : ℕ) (s : State) (p : Purpose) → IsForConnection p → slice_get (flat_map (refreshes_in now s) (allocations s)) 0 ≡ Some p → ⊥
next-none now s p is e = let next = next-of now s p e in refresh-none now next.grant p is next.gives

asks-connect : (peer : SocketAddr) (call : Call) (s : State) (at : ℕ) → AsksFor call s (ForConnect peer) at → (now : ℕ) × (call ≡ TcpConnect peer now)
asks-connect peer (Delete now) s at (e, (family, f)) = cc
asks-connect peer (CreatePermission transport ip now) s at (e, f) = cc
asks-connect peer (BindChannel transport to now) s at (e, (number, free, f)) = cc
asks-connect peer (TcpConnect to now) s at (e, f) = (now, cc)
asks-connect peer (AllocatedTcpSocket id tuple to (Some local) now) s at (e, f) = cc
asks-connect peer (PollTransmit now) s at (e, inl (new, f)) = cc
asks-connect peer (PollTransmit now) s at (e, inr (phase, f)) = absurd (next-none now s (ForConnect peer) tt f)
asks-connect peer call s at asks = absurd asks

asks-bind : (id : ℕ) (local peer : SocketAddr) (call : Call) (s : State) (at : ℕ) → AsksFor call s (ForBind local peer id) at
    → (tuple : Socket5Tuple) × (now : ℕ) × (call ≡ AllocatedTcpSocket id tuple peer (Some local) now)
asks-bind id local peer (Delete now) s at (e, (family, f)) = cc
asks-bind id local peer (CreatePermission transport ip now) s at (e, f) = cc
asks-bind id local peer (BindChannel transport to now) s at (e, (number, free, f)) = cc
asks-bind id local peer (TcpConnect to now) s at (e, f) = cc
asks-bind id local peer (AllocatedTcpSocket other tuple to (Some from) now) s at (e, f) = (tuple, now, cc)
asks-bind id local peer (PollTransmit now) s at (e, inl (new, f)) = cc
asks-bind id local peer (PollTransmit now) s at (e, inr (phase, f)) = absurd (next-none now s (ForBind local peer id) tt f)
asks-bind id local peer call s at asks = absurd asks

for-connection : (purpose p : Purpose) → IsForConnection p → IsListedFor purpose p → p ≡ purpose
for-connection purpose p is (inl e) = e
for-connection (ForChannel number peer) (ForPermission ip) is (inr e) = absurd is
for-connection purpose p is (inr e) = absurd e

-- ---- a call that is refused lists nothing

connect-accepted : (peer : SocketAddr) (now : ℕ) (s : State) → ((tcp_connect_step peer now s).0 ≡ Ok tt) ⊎ ((tcp_connect_step peer now s).1.listed ≡ s.listed)
connect-accepted peer now s = by (find_allocation_to Tcp (socket_ip peer) s) refl
  where
    Fits : Result Unit TcpConnectError × State → Type 0
    Fits x = (x.0 ≡ Ok tt) ⊎ (x.1.listed ≡ s.listed)

    connects : Fits (connect_step peer now s)
    connects =
        by_test Fits (not (is_allocated s.phase)) _ _ (λ e. inr refl)
        (λ e. by_test Fits (not (has_active_permission (socket_ip peer) s)) _ _ (λ f. inr refl)
        (λ f. by_test Fits (is_connected peer s || is_connecting peer s) _ _ (λ g. inr refl) (λ g. inl refl)))

    by : (o : Option Relay) → find_allocation_to Tcp (socket_ip peer) s ≡ o → Fits (tcp_connect_step peer now s)
    by None e = rw e (inr refl)
    by (Some a) e = rw e (by_test Fits (is_past now a) _ (connect_step peer now s) (λ f. inr refl) (λ f. connects))

-- the step of an `allocated_tcp_socket` that opened a connection took an offer of this origin
pub record Opens (id : ℕ) (tuple : Socket5Tuple) (local peer : SocketAddr) (now : ℕ) (s : State) : Type 0 where
  pub origin : Origin
  pub found : offer_origin id peer s ≡ Some origin
  pub step : allocated_tcp_socket_step id tuple peer (Some local) now s ≡ (Ok tt, socket_opened id peer local origin now s)

socket-accepted : (id : ℕ) (tuple : Socket5Tuple) (local peer : SocketAddr) (now : ℕ) (s : State) → Opens id tuple local peer now s
    ⊎ ((allocated_tcp_socket_step id tuple peer (Some local) now s).1.listed ≡ s.listed)
socket-accepted id tuple local peer now s = reported (by_test Fits (same_transport s.config.allocation_transport Tcp && is_control tuple s && is_allocated s.phase) _ _ (λ e. found) (λ e. inr refl))
  where
    Fits : Result Unit TcpAllocateError × State → Type 0
    Fits x = ((origin : Origin) × (offer_origin id peer s ≡ Some origin) × (x ≡ (Ok tt, socket_opened id peer local origin now s))) ⊎ (x.1.listed ≡ s.listed)

    found : Fits (option_map_or (λ origin. socket_step id peer (Some local) origin now s) (offer_origin id peer s) (Err Socket.NoAllocation, s))
    found = by_found Fits (λ origin. socket_step id peer (Some local) origin now s) (offer_origin id peer s) _
        (λ origin e. by_test Fits (is_local_taken local s) _ _ (λ f. inr refl) (λ f. inl (origin, e, refl))) (inr refl)

    reported : Fits (allocated_tcp_socket_step id tuple peer (Some local) now s) → Opens id tuple local peer now s
        ⊎ ((allocated_tcp_socket_step id tuple peer (Some local) now s).1.listed ≡ s.listed)
    reported (inl (origin, e, f)) = inl (record { origin = origin; found = e; step = f })
    reported (inr same) = inr same

-- ---- the call that asked for it

-- the call is an accepted `tcp_connect` to this peer
abbrev pub IsConnectTo : SocketAddr → Call → State → Type 0
IsConnectTo peer call s = (now : ℕ) × (call ≡ TcpConnect peer now) × ((tcp_connect_step peer now s).0 ≡ Ok tt)

pub connect-listed : (peer : SocketAddr) (call : Call) (s : State) → IsListed (ForConnect peer) (state_after call s) → IsListed (ForConnect peer) s ⊎ IsConnectTo peer call s
connect-listed peer call s h = elim (call-listed (ForConnect peer) call s h) [
  | inl old ↦ inl old
  | inr (purpose, at, asks, for) ↦
      let same = for-connection purpose (ForConnect peer) tt for in
      let (now, named) = asks-connect peer call s at (subst (λ (q : Purpose). AsksFor call s q at) (sym same) asks) in
      elim (connect-accepted peer now s) [
        | inl accepted ↦ inr (now, named, accepted)
        | inr unlisted ↦
            let before : (state_after call s).listed ≡ s.listed = ap (λ (c : Call). (state_after c s).listed) named ∙ unlisted in
            inl (h.0, subst (Has (listing h.0 (ForConnect peer))) before h.1)
      ]
]

-- the call is an accepted `allocated_tcp_socket` for such a connection
abbrev pub IsOpening : ℕ → SocketAddr → SocketAddr → Call → State → Type 0
IsOpening id local peer call s =
    (tuple : Socket5Tuple) × (now : ℕ) × (call ≡ AllocatedTcpSocket id tuple peer (Some local) now) × Opens id tuple local peer now s

pub bind-listed : (id : ℕ) (local peer : SocketAddr) (call : Call) (s : State) → IsListed (ForBind local peer id) (state_after call s) → IsListed (ForBind local peer id) s
    ⊎ IsOpening id local peer call s
bind-listed id local peer call s h = elim (call-listed (ForBind local peer id) call s h) [
  | inl old ↦ inl old
  | inr (purpose, at, asks, for) ↦
      let same = for-connection purpose (ForBind local peer id) tt for in
      let (tuple, now, named) = asks-bind id local peer call s at (subst (λ (q : Purpose). AsksFor call s q at) (sym same) asks) in
      elim (socket-accepted id tuple local peer now s) [
        | inl opens ↦ inr (tuple, now, named, opens)
        | inr unlisted ↦
            let before : (state_after call s).listed ≡ s.listed = ap (λ (c : Call). (state_after c s).listed) named ∙ unlisted in
            inl (h.0, subst (Has (listing h.0 (ForBind local peer id))) before h.1)
      ]
]
