-- A client over UDP gets no streams, and without them nothing is read.
use Rattle.std.proofs.Common.{◌≡◌, ◌∙◌, ℕ, zero, suc, Bool, true, false, cond, List, [], ◌∷◌, Option, None, ap, inl, inr, refl, subst, sym}
use Rattle.std.specs.declared.net.socket_addr.SocketAddr.{SocketAddr}
use Rattle.turn_agent.specs.Agent.{same_address}
use Rattle.turn_stun.specs.declared.transport.TransportType.{TransportType}
use Rattle.turn_stun.specs.declared.transport.TransportType.TheVariants.{Udp, Tcp}
use Rattle.turn_client_api.specs.Answers.{EndsAfterSteps, RecvEnds}
use Rattle.turn_client_api.specs.Effect.{closed}
use Rattle.turn_client_api.specs.Payloads.{Ignored, Payload, channel_sent, datagram_step, is_channel_frame, is_message, message_step}
use Rattle.turn_client_api.specs.Receive.{is_from_server, recv_step}
use Rattle.turn_client_api.specs.State.{State}
use Rattle.turn_client_api.specs.Steps.{EndsWithoutMemory, Leaves, state_after}
use Rattle.turn_client_api.specs.Streams.{broken_at, max_steps, poll_recv_step, steps_until_payload}
use Rattle.turn_client_api.specs.declared.call.Call.{Call}
use Rattle.turn_client_api.specs.declared.call.Call.TheVariants.{AllocatedTcpSocket, Delete, HavePermission, Permissions, Poll, PollEvent, PollRecv, PollTransmit, ProtocolError, Recv}
use Rattle.turn_client_api.specs.declared.call.Call.TheVariants.{RelayedAddresses, SendTo, TcpClosed}
use Rattle.turn_client_api.specs.declared.state.Stream.{Stream}
use Rattle.turn_client_tcp.specs.Lent.{IsReadIfAny, Returns}
use Rattle.turn_client_laws.proofs.EditsOfCalls.{delete-walk, quiet-walk}
use Rattle.turn_client_laws.proofs.StreamMessageLemmas.{Same, Same-KeepsEdits, message-same}
use Rattle.turn_client_api.specs.declared.call.Call.TheVariants.{SetPermissionKept, SetChannelKept}

-- ---- nothing is read

no-steps : (n now : ℕ) (s : State) → s.streams ≡ [] → steps_until_payload n now s ≡ (None, s)
unfolding steps_until_payload
no-steps zero now s none = refl
no-steps (suc n) now s none = rw none refl

pub no-poll_recv : (now : ℕ) (s : State) → s.streams ≡ [] → poll_recv_step now s ≡ (None, s)
no-poll_recv now s none = no-steps (max_steps s) now s none

pub none-read : {R : Type 0} (returns : Returns R) (now : ℕ) (s : State) → s.streams ≡ [] → IsReadIfAny returns (poll_recv_step now s).0 None
none-read returns now s none = rw (ap (λ (p : Option Payload × State). p.0) (no-poll_recv now s none)) tt

never-ends : (now : ℕ) (s t : State) → s.streams ≡ [] → EndsAfterSteps now s t → ⊥
never-ends now s t none (u, (n, led), broken) =
    let same : u ≡ s = ap (λ (p : Option Payload × State). p.1) (sym led ∙ no-steps n now s none) in
    let empty : u.streams ≡ [] = ap (λ (x : State). x.streams) same ∙ none in
    rw empty at broken

-- no stream exists that could be broken
broken-none : (to : SocketAddr) (s : State) → s.streams ≡ [] → broken_at to s ≡ s
broken-none to s none = by s.streams none
  where
    by : (streams : List Stream) → streams ≡ [] → broken_at to (record s { streams = streams }) ≡ record s { streams = streams }
    by [] e = refl
    by (x ∷ xs) e = cc

-- ---- no stream is added

one-of : {A : Type 0} (b : Bool) (s : State) (x y : A × State) → Same s x.1 → Same s y.1 → Same s (cond b x y).1
one-of true s x y p q = p
one-of false s x y p q = q

datagram-same : (bytes : List ℕ) (now : ℕ) (s : State) → Same s (datagram_step bytes now s).1
datagram-same bytes now s =
    one-of (is_message bytes) s (message_step bytes now s) _ (message-same bytes now s)
    (one-of (is_channel_frame bytes) s (channel_sent s bytes, s) (Ignored, s) refl refl)

recv-same : (transport : TransportType) (from to : SocketAddr) (bytes : List ℕ) (now : ℕ) (s : State) → s.transport ≡ Udp → Same s (recv_step transport from to bytes now s).1
recv-same transport from to bytes now s udp = subst (λ (carrier : TransportType). StaysOver carrier) (sym udp) over_udp
  where
    StaysOver : TransportType → Type 0
    StaysOver carrier = Same (record s { transport = carrier }) (recv_step transport from to bytes now (record s { transport = carrier })).1

    u : State
    u = record s { transport = Udp }

    over_udp : StaysOver Udp
    over_udp =
        one-of (is_from_server transport from u) u _ (Ignored, u)
        (one-of (same_address to u.local) u (datagram_step bytes now u) (Ignored, u) (datagram-same bytes now u) refl) refl

-- a client over UDP, whose allocations relay over UDP, opens no data connection
call-same : (call : Call) (s : State) → s.transport ≡ Udp → s.config.allocation_transport ≡ Udp → s.streams ≡ [] → Same s (state_after call s)
call-same (Recv packet now) s carrier relays none = recv-same packet.transport packet.from packet.to packet.payload now s carrier
call-same (PollRecv now) s carrier relays none = ap (λ (p : Option Payload × State). p.1.streams) (no-poll_recv now s none)
call-same (Delete now) s carrier relays none = delete-walk Same Same-KeepsEdits (λ now s. refl) now s
call-same (AllocatedTcpSocket id tuple peer local now) s carrier relays none = rw relays refl
call-same call s carrier relays none = quiet-walk Same Same-KeepsEdits call s tt

closed-same : (s t : State) → t ≡ closed s → Same s t
closed-same s t e = ap (λ (x : State). x.streams) e

recv_ends-same : (to : SocketAddr) (bytes : List ℕ) (now : ℕ) (s t : State) → s.transport ≡ Udp → s.streams ≡ [] → RecvEnds to bytes now s t → Same s t
recv_ends-same to bytes now s t carrier none (inl e) = closed-same s t (e ∙ ap closed (broken-none to s none))
recv_ends-same to bytes now s t carrier none (inr (tcp, some, others)) = let clash : Udp ≡ Tcp = sym carrier ∙ tcp in cc

ends-same : (call : Call) (s t : State) → s.transport ≡ Udp → s.streams ≡ [] → EndsWithoutMemory call s t → Same s t
ends-same (Recv packet now) s t carrier none (free, ends) = recv_ends-same packet.to packet.payload now s t carrier none ends
ends-same (PollRecv now) s t carrier none ends = absurd (never-ends now s t none ends)
ends-same (Poll now) s t carrier none ends = closed-same s t ends
ends-same (PollTransmit now) s t carrier none ends = closed-same s t ends
ends-same ProtocolError s t carrier none ends = closed-same s t ends
ends-same (TcpClosed local remote now) s t carrier none ends = absurd ends
ends-same (SendTo transport peer bytes now) s t carrier none ends = absurd ends
ends-same PollEvent s t carrier none ends = absurd ends
ends-same RelayedAddresses s t carrier none ends = absurd ends
ends-same (Permissions transport relayed) s t carrier none ends = absurd ends
ends-same (HavePermission transport to) s t carrier none ends = absurd ends
ends-same (SetPermissionKept transport peer is_kept) s t carrier none ends = absurd ends
ends-same (SetChannelKept transport peer is_kept) s t carrier none ends = absurd ends
ends-same call s t carrier none ends = ap (λ (x : State). x.streams) ends

-- even if memory allocation fails
pub leaves-no_streams : (call : Call) (s t : State) → Leaves call s t → s.transport ≡ Udp → s.config.allocation_transport ≡ Udp → s.streams ≡ [] → t.streams ≡ []
leaves-no_streams call s t (inl e) carrier relays none = ap (λ (x : State). x.streams) e ∙ (call-same call s carrier relays none ∙ none)
leaves-no_streams call s t (inr ends) carrier relays none = ends-same call s t carrier none ends ∙ none
