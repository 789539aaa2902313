-- Calls keep the local addresses of the streams distinct: most leave the streams unchanged.
use Rattle.turn_client_laws.proofs.Common.{◌≡◌, ◌⊎◌, ℕ, ◌&&◌, List, [], Option, Some, None, Err, refl, sym, subst, inl, inr, arith, IsDistinct, option_map_or, All-nil, All-cons, SocketAddr}
use Rattle.turn_client_laws.proofs.Machine.{TransportType, Udp, Tcp, Config, State, initial, Control, Origin, same_transport, allocated_tcp_socket_step, is_allocated, is_control, is_local_taken}
use Rattle.turn_client_laws.proofs.Machine.{offer_origin, socket_opened, socket_refused, socket_step, with_stream, Socket5Tuple, state_after, Call, Delete, AllocatedTcpSocket, Recv, PollRecv}
use Rattle.turn_client_api.specs.declared.error.TcpAllocateError.TheVariants as Socket
use Rattle.turn_client_laws.specs.LawsHandled.{TakesInput}
use Rattle.turn_client_laws.specs.LawsStreams.{AreApart, IsEmptyIfBroken}
use Rattle.turn_client_laws.proofs.MoveLemmas.{by_test}
use Rattle.turn_client_laws.proofs.StreamApartLemmas.{Apart, new-apart}
use Rattle.turn_client_laws.proofs.StreamMessageLemmas.{Same, Same-KeepsEdits}
use Rattle.turn_client_laws.proofs.EditsOfCalls.{delete-walk, quiet-walk}
use Rattle.turn_client_laws.proofs.StreamStepLemmas.{StayApart, poll_recv-apart, recv-apart, same-apart}

pub initial-apart : (transport : TransportType) (local remote : SocketAddr) (config : Config) (seed : List ℕ) → AreApart (initial transport local remote config seed)
unfolding IsDistinct
initial-apart Udp local remote config seed = (tt, All-nil IsEmptyIfBroken)
initial-apart Tcp local remote config seed = ((tt, tt), All-cons IsEmptyIfBroken (record { local = local; mode = Control; bytes = [] }) [] (λ e. refl) (All-nil IsEmptyIfBroken))

-- ---- the caller opened a data connection

-- the streams stay, or one is added, which waits
abbrev pub IsOpened : State → State → Type 0
IsOpened s t = Same s t ⊎ ((local : SocketAddr) × (t.streams ≡ (with_stream local s).streams))

opened-one : (id : ℕ) (peer local : SocketAddr) (origin : Origin) (now : ℕ) (s : State) → (socket_opened id peer local origin now s).streams ≡ (with_stream local s).streams
opened-one id peer local origin now s = grind arith

refused-same : (id : ℕ) (peer : SocketAddr) (origin : Origin) (s : State) → Same s (socket_refused id peer origin s)
refused-same id peer origin s = grind arith

socket-opened : (id : ℕ) (peer : SocketAddr) (local : Option SocketAddr) (origin : Origin) (now : ℕ) (s : State) → IsOpened s (socket_step id peer local origin now s).1
socket-opened id peer None origin now s = inl (refused-same id peer origin s)
socket-opened id peer (Some local) origin now s =
    by_test (IsOpened s) (is_local_taken local s) _ _ (inl refl) (inr (local, opened-one id peer local origin now s))

pub tcp_socket-opened : (id : ℕ) (tuple : Socket5Tuple) (peer : SocketAddr) (local : Option SocketAddr) (now : ℕ) (s : State) → IsOpened s (allocated_tcp_socket_step id tuple peer local now s).1
tcp_socket-opened id tuple peer local now s =
    by_test (IsOpened s) (same_transport s.config.allocation_transport Tcp && is_control tuple s && is_allocated s.phase) _ _ (by (offer_origin id peer s))
    (inl refl)
  where
    by : (o : Option Origin) → IsOpened s (option_map_or (λ origin. socket_step id peer local origin now s) o (Err Socket.NoAllocation, s)).1
    by None = inl refl
    by (Some origin) = socket-opened id peer local origin now s

opened-apart : (s t : State) → IsOpened s t → StayApart s t
opened-apart s t (inl same) h = same-apart s t same h
opened-apart s t (inr (local, is)) h = subst Apart (sym is) (new-apart local s.streams h)

-- ---- all of them

delete-same : (now : ℕ) (s : State) → Same s (state_after (Delete now) s)
delete-same now s = delete-walk Same Same-KeepsEdits (λ now s. refl) now s

pub call-apart : (call : Call) (s : State) → StayApart s (state_after call s)
call-apart (Recv packet now) s = recv-apart packet.transport packet.from packet.to packet.payload now s
call-apart (PollRecv now) s = poll_recv-apart now s
call-apart (Delete now) s = same-apart s (state_after (Delete now) s) (delete-same now s)
call-apart (AllocatedTcpSocket id tuple peer local now) s = opened-apart s (state_after (AllocatedTcpSocket id tuple peer local now) s) (tcp_socket-opened id tuple peer local now s)
call-apart call s = same-apart s (state_after call s) (quiet-walk Same Same-KeepsEdits call s tt)

-- a call that processes no input
pub others-opened : (call : Call) (s : State) → (TakesInput call → ⊥) → IsOpened s (state_after call s)
others-opened (Recv packet now) s other = absurd (other tt)
others-opened (PollRecv now) s other = absurd (other tt)
others-opened (Delete now) s other = inl (delete-same now s)
others-opened (AllocatedTcpSocket id tuple peer local now) s other = tcp_socket-opened id tuple peer local now s
others-opened call s other = inl (quiet-walk Same Same-KeepsEdits call s tt)
