-- What holds in each case of a step holds of the step.
use Rattle.turn_client_laws.proofs.Common.{◌≡◌, ℕ, Bool, true, false, cond, not, eqb, List, Option, Some, None, refl, inr, inl, [], ◌∷◌, leb, fold, is_some, IfSome, Ok, Err, filter_map, find}
use Rattle.turn_client_laws.proofs.Common.{option_map_or, socket_ip, cases_Bool, eqb-true, SocketAddr}
use Rattle.turn_client_laws.proofs.Machine.{id_of, Tcp, Udp, AddressFamily, State, Phase, Allocated, Queued, DataConnection, ServerIndication, ServerRequest, Purpose, find_allocation_to, allocations}
use Rattle.turn_client_laws.proofs.Machine.{family_of, is_of, without_grants, as_connection, connection_bind_method, to_server, connection_id_in, method_in, peer_in, with_offer, accepts_attempt}
use Rattle.turn_client_laws.proofs.Machine.{attempt_indicated, attempt_requested, bind_answered, bind_step, connection_at, is_connected, Outcome, Handled, Ignored, Source, active_channel}
use Rattle.turn_client_laws.proofs.Machine.{as_indication, bound_to, can_send_to, on_channel, on_connection, send_over, send_to_step, channel_frame, TransportType, allocation_expires, answer_step}
use Rattle.turn_client_laws.proofs.Machine.{answer_by, expired_allocation, expired_in, Relay, cases_Option, has-found, same_address, same_address-true}
use Rattle.turn_client_api.specs.declared.error.SendError.TheVariants as Send

-- ---- a test and a look-up

pub by_test : {X : Type 0} (P : X → Type 0) (b : Bool) (x y : X) → (b ≡ true → P x) → (b ≡ false → P y) → P (cond b x y)
by_test P true x y p q = p refl
by_test P false x y p q = q refl

pub by_found : {A X : Type 0} (P : X → Type 0) (f : A → X) (o : Option A) (x : X) → ((a : A) → o ≡ Some a → P (f a)) → P x → P (option_map_or f o x)
by_found P f None x p q = q
by_found P f (Some a) x p q = p a refl

-- ---- the server requests a connection

module _ (P : State → Type 0) (message : List ℕ) (s : State) where
  -- a reply is queued, or an offer is added
  pub requested-by : ((queue : List Queued) → P (record s { queue = queue }))
      → ((id : ℕ) (peer : SocketAddr) → is_some (find_allocation_to Tcp (socket_ip peer) s) ≡ true → is_connected peer s ≡ false → P (with_offer id peer (ServerRequest (id_of message)) s))
      → P (attempt_requested message s)
  requested-by replies offers = elim (cases_Option (connection_id_in message)) [
    | inl e ↦ rw e (replies _)
    | inr (id, e) ↦ elim (cases_Option (peer_in message)) [
      | inl f ↦ rw (e, f) (replies _)
      | inr (peer, f) ↦ elim (cases_Bool (is_some (find_allocation_to Tcp (socket_ip peer) s))) [
        | inl room ↦ elim (cases_Bool (is_connected peer s)) [ inl is ↦ rw (e, f, room, is) (replies _) | inr free ↦ rw (e, f, room, free) (offers id peer room free) ]
        | inr none ↦ rw (e, f, none) (replies _)
      ]
    ]
  ]

  pub indicated-by : ((id : ℕ) (peer : SocketAddr) → accepts_attempt peer s ≡ true → P (with_offer id peer ServerIndication s)) → IfSome (attempt_indicated message s) P
  indicated-by offers = elim (cases_Option (connection_id_in message)) [
    | inl e ↦ rw e tt
    | inr (id, e) ↦ elim (cases_Option (peer_in message)) [
      | inl f ↦ rw (e, f) tt
      | inr (peer, f) ↦ elim (cases_Bool (accepts_attempt peer s)) [ inl is ↦ rw (e, f, is) (offers id peer is) | inr not ↦ rw (e, f, not) tt ]
    ]
  ]

-- what is ignored changes nothing
pub by_accepted : (P : State → Type 0) (o : Option State) (s : State) → IfSome o P → P s → P (option_map_or {T = State} {U = Outcome × State} (λ t. (Handled, t)) o (Ignored, s)).1
by_accepted P None s p q = q
by_accepted P (Some t) s p q = p

-- ---- a message of a connection

pub found-local : (local : SocketAddr) (c : DataConnection) (cs : List DataConnection) → find (λ (d : DataConnection). same_address d.local local) cs ≡ Some c → c.local ≡ local
found-local local c cs e = same_address-true c.local local (has-found (λ (d : DataConnection). same_address d.local local) c cs e).1

bind_in_phase : (P : State → Type 0) (p : Phase) (local : SocketAddr) (message : List ℕ) (now : ℕ) (s : State) → P (record s { phase = p })
    → ((c : DataConnection) → p ≡ Allocated → connection_at local s ≡ Some c → method_in message ≡ connection_bind_method → P (bind_answered c message now (record s { phase = p })))
    → P (bind_step local message now (record s { phase = p }))
bind_in_phase P Allocated local message now s rest binds = elim (cases_Option (connection_at local s)) [
  | inl e ↦ rw e rest
  | inr (c, e) ↦ elim (cases_Bool (eqb (method_in message) connection_bind_method)) [
    | inl f ↦ rw (e, f) (binds c refl e (eqb-true (method_in message) connection_bind_method f))
    | inr f ↦ rw (e, f) rest
  ]
]
bind_in_phase P p local message now s rest binds = rest

-- it is for a connection that exists, or changes nothing
pub bind-by : (P : State → Type 0) (local : SocketAddr) (message : List ℕ) (now : ℕ) (s : State) → P s
    → ((c : DataConnection) → s.phase ≡ Allocated → connection_at local s ≡ Some c → method_in message ≡ connection_bind_method → P (bind_answered c message now s))
    → P (bind_step local message now s)
bind-by P local message now s = bind_in_phase P s.phase local message now s

-- ---- data for a peer

-- data for a peer uses an ID at most
pub send_to-by : (P : State → Type 0) (transport : TransportType) (peer : SocketAddr) (bytes : List ℕ) (now : ℕ) (s : State) → ((ids : Source) → P (record s { ids = ids }))
    → P (send_to_step transport peer bytes now s).1
send_to-by P transport peer bytes now s each = by (can_send_to transport (socket_ip peer) s) transport
  where
    channel : (xs : List (ℕ × ℕ)) → P (on_channel xs peer bytes now s).1
    channel [] = each _
    channel ((number, expiry) ∷ xs) = for (leb now expiry)
      where
        for : (b : Bool) → P (cond b (Ok (to_server s s.local (channel_frame number bytes)), s) (as_indication peer bytes s)).1
        for true = each s.ids
        for false = each _

    connection : (o : Option DataConnection) → P (on_connection o bytes s).1
    connection None = each s.ids
    connection (Some c) = each s.ids

    by : (b : Bool) (t : TransportType) → P (cond b (send_over t peer bytes now s) (Err Send.NoPermission, s)).1
    by false t = each s.ids
    by true Udp = channel (filter_map (active_channel peer) s.grants)
    by true Tcp = connection (find (bound_to peer) (filter_map as_connection s.grants))

-- ---- what a poll returns

-- at most a connection to close is taken from the list
pub answer-by : (P : State → Type 0) (given : Option ℕ) (now : ℕ) (s : State) → ((closes : List SocketAddr) → P (record s { closes = closes })) → P (answer_step given now s).1
answer-by P given now s each = by s.closes s.phase (allocations s)
  where
    by : (closes : List SocketAddr) (p : Phase) (relays : List Relay) → P (answer_by closes p relays given now s).1
    by (local ∷ others) p relays = each others
    by [] Allocated [] = each s.closes
    by [] Allocated (a ∷ relays) = each s.closes
    by closes p relays = each s.closes

-- ---- time passes in all allocations

module _ (R : State → State → Type 0) (same : (s : State) → R s s) (trans : (s t u : State) → R s t → R t u → R s u) (given : Option ℕ) (purposes : List Purpose) (now : ℕ)
    (removes : (family : AddressFamily) (s : State) → R s (without_grants (is_of family) s))
    (stays : (family : AddressFamily) (s : State) → R s (expired_in family given purposes now s)) where
  one-expires : (s : State) (a : Relay) → R s (expired_allocation given purposes now s a)
  one-expires s a = by_test (R s) (allocation_expires purposes now s a) _ _ (λ e. removes (family_of a.relayed) s) (λ e. stays (family_of a.relayed) s)

  pub all-expire : (relays : List Relay) (s : State) → R s (fold (expired_allocation given purposes now) s relays)
  all-expire [] s = same s
  all-expire (a ∷ relays) s =
      let t = expired_allocation given purposes now s a in
      trans s t (fold (expired_allocation given purposes now) t relays) (one-expires s a) (all-expire relays t)
