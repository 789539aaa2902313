-- What a message and a data connection change in the control machine, they change in the client with its streams.
use Rattle.std.proofs.Common.{◌≡◌, ℕ, ◌∙◌, Bool, true, false, ◌&&◌, List, Option, Some, None, ap, inl, inr, refl, sym}
use Rattle.std.specs.Prelude.{Result, Ok, Err, is_some}
use Rattle.std.specs.declared.net.socket_addr.SocketAddr.{SocketAddr}
use Rattle.turn_client_api.proofs.HasLemmas.{cases_Option}
use Rattle.turn_client_api.specs.Answers.{TakesSocket}
use Rattle.turn_client_api.specs.Calls.{allocated_tcp_socket_step, is_allocated, is_control, is_local_taken, offer_origin, socket_step}
use Rattle.turn_client_api.specs.Connections.{accepts_attempt, attempt_indicated, connection_at}
use Rattle.turn_client_api.specs.Judgement as J
use Rattle.turn_client_api.specs.Judgement.{Judgement, connection_id_in, judgement_of, peer_in}
use Rattle.turn_client_api.specs.Memory.{bind_takes_memory, message_takes_memory, packet_takes_memory}
use Rattle.turn_client_api.specs.Payloads.{is_message, message_step}
use Rattle.turn_client_api.specs.State.{State}
use Rattle.turn_client_api.specs.Streams.{control_frame_step}
use Rattle.turn_client_api.specs.declared.error.TcpAllocateError.{TcpAllocateError}
use Rattle.turn_client_api.specs.declared.error.TcpAllocateError.TheVariants as Socket
use Rattle.turn_client_api.specs.declared.grant.Origin.{Origin}
use Rattle.turn_client_api.specs.declared.poll.Socket5Tuple.{Socket5Tuple}
use Rattle.turn_client_api.specs.declared.state.Stream.{Stream}
use Rattle.turn_client_api.specs.Grants.{same_transport}
use Rattle.turn_client_core.specs.Apart.{apart_from_streams}
use Rattle.turn_client_core.specs.ProtocolRecv.{IsPart}
use Rattle.turn_client_core.specs.declared.protocol_recv.TurnProtocolRecv.{TurnProtocolRecv}
use Rattle.turn_client_core.specs.declared.protocol_recv.TurnProtocolRecv.TheVariants as T
use Rattle.turn_client_laws.proofs.AnyStreamsEffects.{opened_in}
use Rattle.turn_client_laws.proofs.AnyStreamsLemmas.{both_with, message-alike, with_streams}
use Rattle.turn_client_laws.specs.StreamEffects.{opens_at, opens_for, with_stream_at}
use Rattle.turn_stun.specs.declared.transport.TransportType.TheVariants.{Tcp}
use Rattle.turn_types.specs.Frames.{begins_message}

module _ (x : List Stream) (was s : State) where
  -- ---- what a message told: data changes nothing of both parts

  pub part-with : (m : List ℕ) (reported : TurnProtocolRecv) → IsPart m was s reported → IsPart m (with_streams x was) (with_streams x s) reported
  part-with m (T.PeerData transport peer range) (a, b, e) = (a, b, ap (with_streams x) e)
  part-with m reported p = tt

  -- ---- a data connection that the caller opened

  -- which opens no stream
  pub takes-with : (r : Result Unit TcpAllocateError) (said : Result Unit TcpAllocateError × State) → TakesSocket r was s (apart_from_streams was said)
      → TakesSocket r (with_streams x was) (with_streams x s) (opened_in x None said)
  takes-with (Err Socket.OutOfMemory) said (e, f) = (e, ap (with_streams x) f)
  takes-with r said (e, f) = (e, ap (with_streams x) f)

  -- which opens one, and is not refused: only memory allocation can fail
  pub fails-with : (o : Option SocketAddr) (error : TcpAllocateError) (said : Result Unit TcpAllocateError × State) → said.0 ≡ Ok tt → TakesSocket (Err error) was s (apart_from_streams was said)
      → TakesSocket (Err error) (with_streams x was) (with_streams x s) (opened_in x o said)
  fails-with o Socket.OutOfMemory said ok (e, f) = (ok, ap (with_streams x) f)
  fails-with o error said ok (e, f) = absurd (let clash : Result.Err error ≡ Ok tt = e ∙ ok in cc)

  pub opens-with : (o : Option SocketAddr) (said : Result Unit TcpAllocateError × State) → TakesSocket (Ok tt) was s (apart_from_streams was said)
      → TakesSocket (Ok tt) (with_streams x was) (with_stream_at o (with_streams x s)) (opened_in x o said)
  opens-with o said (e, f) = (e, ap (λ t. with_stream_at o (with_streams x t)) f)

-- a call that opens a stream is not refused
opened-ok : (id : ℕ) (peer : SocketAddr) (local : Option SocketAddr) (origin : Origin) (now : ℕ) (s : State) (at : SocketAddr) → opens_for local s ≡ Some at
    → (socket_step id peer local origin now s).0 ≡ Ok tt
opened-ok id peer None origin now s at opened = refl
opened-ok id peer (Some local) origin now s at opened = by (is_local_taken local s) refl opened
  where
    by : (b : Bool) → is_local_taken local s ≡ b → opens_for (Some local) s ≡ Some at → (socket_step id peer (Some local) origin now s).0 ≡ Ok tt
    by true e = rw e (λ opened. cc)
    by false e = rw e (λ opened. refl)

pub opens-ok : (id : ℕ) (tuple : Socket5Tuple) (peer : SocketAddr) (local : Option SocketAddr) (now : ℕ) (s : State) (at : SocketAddr) → opens_at id tuple peer local s ≡ Some at
    → (allocated_tcp_socket_step id tuple peer local now s).0 ≡ Ok tt
opens-ok id tuple peer local now s at = by (same_transport s.config.allocation_transport Tcp && is_control tuple s && is_allocated s.phase) refl
  where
    by : (b : Bool) → (same_transport s.config.allocation_transport Tcp && is_control tuple s && is_allocated s.phase) ≡ b → opens_at id tuple peer local s ≡ Some at
        → (allocated_tcp_socket_step id tuple peer local now s).0 ≡ Ok tt
    by false e = rw e (λ opened. cc)
    by true e = elim (cases_Option (offer_origin id peer s)) [
      | inl f ↦ rw (e, f) (λ opened. cc)
      | inr (origin, f) ↦ rw (e, f) (opened-ok id peer local origin now s at)
    ]

-- ---- whether a message allocates memory is independent of the streams

module _ (x : List Stream) where
  attempt-alike : (message : List ℕ) (s : State) → is_some (attempt_indicated message (with_streams x s)) ≡ is_some (attempt_indicated message s)
  attempt-alike message s = by (connection_id_in message) (peer_in message) refl refl
    where
      accepted : (peer : SocketAddr) (id : ℕ) → connection_id_in message ≡ Some id → peer_in message ≡ Some peer → (b : Bool) → accepts_attempt peer s ≡ b
          → is_some (attempt_indicated message (with_streams x s)) ≡ is_some (attempt_indicated message s)
      accepted peer id e f true h = rw (e, f, h) refl
      accepted peer id e f false h = rw (e, f, h) refl

      by : (id : Option ℕ) (peer : Option SocketAddr) → connection_id_in message ≡ id → peer_in message ≡ peer
          → is_some (attempt_indicated message (with_streams x s)) ≡ is_some (attempt_indicated message s)
      by None peer e f = rw e refl
      by (Some id) None e f = rw (e, f) refl
      by (Some id) (Some peer) e f = accepted peer id e f (accepts_attempt peer s) refl

  pub memory-alike : (message : List ℕ) (s : State) → message_takes_memory message (with_streams x s) ≡ message_takes_memory message s
  memory-alike message s = by (judgement_of s message) refl
    where
      by : (j : Judgement) → judgement_of s message ≡ j → message_takes_memory message (with_streams x s) ≡ message_takes_memory message s
      by J.ConnectionAttempt e = rw e (attempt-alike message s)
      by j e = rw e refl

  pub bind_memory-alike : (local : SocketAddr) (message : List ℕ) (s : State) → bind_takes_memory local message (with_streams x s) ≡ bind_takes_memory local message s
  bind_memory-alike local message s = elim (cases_Option (connection_at local s)) [ inl e ↦ rw e refl | inr (c, e) ↦ rw e refl ]

  -- ---- a frame that is a message

  -- what the control machine does by it, with the streams beside it
  pub message-frame : (m frame : List ℕ) (now : ℕ) (was s : State) → m ≡ frame → is_message frame ≡ true → begins_message frame ≡ true → with_streams x was ≡ s
      → both_with x (message_step m now was) ≡ control_frame_step frame now s
  message-frame m frame now was s e is begins v =
      ap (λ bytes. both_with x (message_step bytes now was)) e ∙ (sym (message-alike x frame now was) ∙ (ap (message_step frame now) v ∙ rw (begins, is) refl))

  pub message-memory : (m frame : List ℕ) (was s : State) → m ≡ frame → is_message frame ≡ true → with_streams x was ≡ s → message_takes_memory m was ≡ true
      → packet_takes_memory frame s ≡ true
  message-memory m frame was s e is v takes =
      rw is (sym (ap (message_takes_memory frame) v) ∙ (memory-alike frame was ∙ (sym (ap (λ bytes. message_takes_memory bytes was) e) ∙ takes)))
