-- The two places where a call or a message concerns a stream: one is opened, or is bound to its peer.
use Rattle.turn_client_laws.proofs.Common.{◌≡◌, ℕ, Bool, true, false, cond, ◌&&◌, List, filter_map, Option, Some, None, refl, ap, eqb, subst, inl, inr, find, Result, Ok, cases_Bool, SocketAddr}
use Rattle.turn_client_laws.proofs.Machine.{id_of, Tcp, Challenge, find-passes, same_address, same_address-true, cases_Option, allocated_tcp_socket_step, is_allocated, is_control, is_local_taken}
use Rattle.turn_client_laws.proofs.Machine.{offer_origin, socket_opened, socket_refused, socket_step, with_stream, bind_again, bind_answered, bind_step, connection_at, as_connection, purposes_of}
use Rattle.turn_client_laws.proofs.Machine.{same_transport, Judgement, Challenged, SignedSuccess, bind_judgement, is_bind_of, method_in, connection_bind_method, State, TcpAllocateError}
use Rattle.turn_client_laws.proofs.Machine.{DataConnection, Origin, OwnConnect, ServerIndication, ServerRequest, Socket5Tuple, Phase, Allocated, Stream}
use Rattle.turn_client_laws.proofs.AnyStreamsLemmas.{with_streams}
use Rattle.turn_client_laws.specs.StreamEffects.{binds_if, binds_to, opens_at, opens_for, with_stream_bound, with_stream_at}

-- ---- a stream is opened

-- the result of the call, with these streams and the one that was opened
abbrev pub opened_in : List Stream → Option SocketAddr → Result Unit TcpAllocateError × State → Result Unit TcpAllocateError × State
opened_in x o p = (p.0, with_stream_at o (with_streams x p.1))

module _ (x : List Stream) where
  opened-alike : (id : ℕ) (peer local : SocketAddr) (origin : Origin) (now : ℕ) (s : State)
      → socket_opened id peer local origin now (with_streams x s) ≡ with_stream local (with_streams x (socket_opened id peer local origin now s))
  opened-alike id peer local OwnConnect now s = refl
  opened-alike id peer local (ServerRequest request) now s = refl
  opened-alike id peer local ServerIndication now s = refl

  refused-alike : (id : ℕ) (peer : SocketAddr) (origin : Origin) (s : State)
      → socket_refused id peer origin (with_streams x s) ≡ with_streams x (socket_refused id peer origin s)
  refused-alike id peer OwnConnect s = refl
  refused-alike id peer (ServerRequest request) s = refl
  refused-alike id peer ServerIndication s = refl

  taken-alike : (b : Bool) (id : ℕ) (peer local : SocketAddr) (origin : Origin) (now : ℕ) (s : State) → is_local_taken local s ≡ b
      → socket_step id peer (Some local) origin now (with_streams x s)
      ≡ opened_in x (cond b None (Some local)) (socket_step id peer (Some local) origin now s)
  taken-alike true id peer local origin now s e = rw e refl
  taken-alike false id peer local origin now s e = rw e (ap (λ (t : State). (Ok tt, t)) (opened-alike id peer local origin now s))

  pub socket-alike : (id : ℕ) (tuple : Socket5Tuple) (peer : SocketAddr) (local : Option SocketAddr) (now : ℕ) (s : State)
      → allocated_tcp_socket_step id tuple peer local now (with_streams x s)
      ≡ opened_in x (opens_at id tuple peer local s) (allocated_tcp_socket_step id tuple peer local now s)
  socket-alike id tuple peer local now s = elim (cases_Bool (same_transport s.config.allocation_transport Tcp && is_control tuple s && is_allocated s.phase)) [
    | inr e ↦ rw e refl
    | inl e ↦ elim (cases_Option (offer_origin id peer s)) [ inl f ↦ rw (e, f) refl | inr (origin, f) ↦ rw (e, f) (by origin local) ]
  ]
    where
      by : (origin : Origin) (o : Option SocketAddr) → socket_step id peer o origin now (with_streams x s) ≡ opened_in x (opens_for o s) (socket_step id peer o origin now s)
      by origin None = ap (λ (t : State). (Ok tt, t)) (refused-alike id peer origin s)
      by origin (Some at) = taken-alike (is_local_taken at s) id peer at origin now s refl

-- ---- a stream is bound

module _ (x : List Stream) where
  again-alike : (c : DataConnection) (id : ℕ) (d : Challenge) (now : ℕ) (s : State) → bind_again c id d now (with_streams x s) ≡ with_streams x (bind_again c id d now s)
  again-alike c id d now s = elim (cases_Option (find (is_bind_of c.local) (purposes_of id s))) [ inl f ↦ rw f refl | inr (purpose, f) ↦ rw f refl ]

  answered-alike : (c : DataConnection) (message : List ℕ) (now : ℕ) (s : State)
      → bind_answered c message now (with_streams x s)
      ≡ with_stream_bound c.local (binds_if c (bind_judgement s c.local message)) (with_streams x (bind_answered c message now s))
  answered-alike c message now s = by (bind_judgement s c.local message) refl
    where
      by : (j : Judgement) → bind_judgement s c.local message ≡ j
          → bind_answered c message now (with_streams x s) ≡ with_stream_bound c.local (binds_if c j) (with_streams x (bind_answered c message now s))
      by (Challenged d) e = rw e (again-alike c (id_of message) d now s)
      by SignedSuccess e = rw e refl
      by j e = rw e refl

  bind_in_phase : (p : Phase) (local : SocketAddr) (message : List ℕ) (now : ℕ) (s : State)
      → bind_step local message now (with_streams x (record s { phase = p }))
      ≡ with_stream_bound local (binds_to local message (record s { phase = p })) (with_streams x (bind_step local message now (record s { phase = p })))
  bind_in_phase Allocated local message now s = by (connection_at local s) refl (eqb (method_in message) connection_bind_method) refl
    where
      u : State
      u = record s { phase = Allocated }

      at_local : (c : DataConnection) → connection_at local s ≡ Some c → c.local ≡ local
      at_local c e = same_address-true c.local local (find-passes (λ (d : DataConnection). same_address d.local local) (filter_map as_connection s.grants) c e)

      by : (o : Option DataConnection) → connection_at local s ≡ o → (b : Bool) → eqb (method_in message) connection_bind_method ≡ b
          → bind_step local message now (with_streams x u) ≡ with_stream_bound local (binds_to local message u) (with_streams x (bind_step local message now u))
      by None e b f = rw e refl
      by (Some c) e false f = rw (e, f) refl
      by (Some c) e true f =
          rw (e, f)
          (subst (λ a. bind_answered c message now (with_streams x u) ≡ with_stream_bound a (binds_if c (bind_judgement u c.local message)) (with_streams x (bind_answered c message now u)))
          (at_local c e) (answered-alike c message now u))
  bind_in_phase p local message now s = refl

  pub bind-alike : (local : SocketAddr) (message : List ℕ) (now : ℕ) (s : State)
      → bind_step local message now (with_streams x s) ≡ with_stream_bound local (binds_to local message s) (with_streams x (bind_step local message now s))
  bind-alike local message now s = bind_in_phase s.phase local message now s
