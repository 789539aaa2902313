-- An answer shows that a call was made.
use Rattle.std.proofs.Common.{◌≡◌, ℕ, List, Option, None, Result, inl, refl, sym, ap, subst}
use Rattle.std.specs.declared.net.socket_addr.SocketAddr.{SocketAddr}
use Rattle.turn_stun.specs.declared.transport.TransportType.{TransportType}
use Rattle.turn_stun.specs.declared.transport.Transmit.{Transmit}
use Rattle.turn_client_api.specs.Calls.{send_to_step}
use Rattle.turn_client_api.specs.Payloads.{Ignored, Outcome, Payload}
use Rattle.turn_client_api.specs.State.{State}
use Rattle.turn_client_api.specs.Steps.{packet_step}
use Rattle.turn_client_api.specs.Streams.{poll_recv_step}
use Rattle.turn_client_api.specs.Transmit.{transmit_step}
use Rattle.turn_client_api.specs.declared.call.Call.{Call}
use Rattle.turn_client_api.specs.declared.call.Call.TheVariants as Calls
use Rattle.turn_client_api.specs.declared.error.SendError.{SendError}
use Rattle.turn_client_calls.specs.Plain.{IsPlainCall}
use Rattle.turn_client_calls.specs.Run.{poll_recv_reply, recv_reply, reply_of, step}
use Rattle.turn_client_calls.specs.declared.reply.Reply.TheVariants as Replies
use Rattle.turn_client_calls.specs.declared.reply.Reply.{Reply}
use Rattle.turn_c_calls.specs.Answer.{IsPlain, answer_to, of_kind, reply_bytes}
use Rattle.turn_c_calls.specs.Arms.{MakesPlain}
use Rattle.turn_c_calls.specs.Buffer.{PutsIfAny}
use Rattle.turn_c_calls.specs.Held.{held}
use Rattle.turn_c_calls.specs.Step.{IsMade, Shows, passed_in}
use Rattle.turn_c_calls.specs.declared.answer.Answer.{Answer}
use Rattle.turn_c_calls.specs.declared.code.TheConstants.{IGNORED}

abbrev pub Answered : Reply → State → State → Call → Type 0
Answered reply s t call = ◌≡◌ {A = Reply × State} (reply, t) (step s call)

-- the answer shows the reply of the call
pub made_so : (call : Call) (s t : State) (reply : Reply) (index : ℕ) (was now buffer after : List ℕ) (a b : Answer)
    → Answered reply s t call → Shows reply index (passed_in call) was buffer after now a b
    → IsMade call index (held s was) (held t now) buffer after a b
made_so call s t reply index was now buffer after a b e shows = record {
  client = ap (λ (p : Reply × State). p.1) e;
  shows = subst (λ (r : Reply). Shows r index (passed_in call) was buffer after now a b) (ap (λ (p : Reply × State). p.0) e) shows;
}

pub made : (call : Call) (s t : State) (reply : Reply) (index : ℕ) (was now buffer after : List ℕ) (a b : Answer)
    → Answered reply s t call → PutsIfAny (reply_bytes reply) was (answer_to index reply a) buffer after now b
    → IsMade call index (held s was) (held t now) buffer after a b
made call s t reply index was now buffer after a b e puts = made_so call s t reply index was now buffer after a b e (inl puts)

-- a reply that carries no bytes
pub bare_made : (call : Call) (s t : State) (reply : Reply) (index : ℕ) (a b : Answer)
    → Answered reply s t call → reply_bytes reply ≡ None → b ≡ answer_to index reply a → MakesPlain call index s t a b
bare_made call s t reply index a b e none says unread buffer =
    made call s t reply index unread unread buffer buffer a b e
    (subst (λ (o : Option (List ℕ)). PutsIfAny o unread (answer_to index reply a) buffer buffer unread b) (sym none)
    (record { says = says; buffer_is = refl; unread_is = refl }))

-- ---- a reply to a plain call is plain

plain_bare : (reply : Reply) → IsPlain reply → reply_bytes reply ≡ None
plain_bare (Replies.Poll returned) h = refl
plain_bare (Replies.Transmit packet) h = absurd h
plain_bare (Replies.Event event) h = refl
plain_bare Replies.Handled h = refl
plain_bare Replies.Ignored h = refl
plain_bare (Replies.PeerData sent) h = absurd h
plain_bare (Replies.PeerIcmp transport peer icmp_type icmp_code icmp_data) h = refl
plain_bare Replies.NoData h = refl
plain_bare (Replies.SendTo result) h = absurd h
plain_bare (Replies.CreatePermission result) h = refl
plain_bare (Replies.BindChannel result) h = refl
plain_bare (Replies.TcpConnect result) h = refl
plain_bare (Replies.AllocatedTcpSocket result) h = refl
plain_bare (Replies.Delete result) h = refl
plain_bare (Replies.RelayedAddresses relayed) h = refl
plain_bare (Replies.Permissions ips) h = refl
plain_bare (Replies.HavePermission found) h = absurd h
plain_bare (Replies.SetPermissionKept result) h = refl
plain_bare (Replies.SetChannelKept result) h = refl
plain_bare Replies.Done h = refl

plain_reply_of : (call : Call) (s : State) → IsPlainCall call → IsPlain (reply_of call s)
plain_reply_of (Calls.Delete now) s h = tt
plain_reply_of (Calls.CreatePermission transport peer now) s h = tt
plain_reply_of (Calls.BindChannel transport peer now) s h = tt
plain_reply_of (Calls.TcpConnect peer now) s h = tt
plain_reply_of (Calls.AllocatedTcpSocket id tuple peer local now) s h = tt
plain_reply_of (Calls.TcpClosed local remote now) s h = tt
plain_reply_of (Calls.SendTo transport peer bytes now) s h = absurd h
plain_reply_of (Calls.Recv packet now) s h = absurd h
plain_reply_of (Calls.PollRecv now) s h = absurd h
plain_reply_of (Calls.Poll now) s h = absurd h
plain_reply_of (Calls.PollTransmit now) s h = absurd h
plain_reply_of Calls.PollEvent s h = absurd h
plain_reply_of Calls.ProtocolError s h = tt
plain_reply_of Calls.RelayedAddresses s h = absurd h
plain_reply_of (Calls.Permissions transport relayed) s h = absurd h
plain_reply_of (Calls.HavePermission transport to) s h = absurd h
plain_reply_of (Calls.SetPermissionKept transport peer is_kept) s h = tt
plain_reply_of (Calls.SetChannelKept transport peer is_kept) s h = tt

pub plain_reply : (call : Call) (s t : State) (reply : Reply) → Answered reply s t call → IsPlainCall call → IsPlain reply
plain_reply call s t reply e h = subst IsPlain (sym (ap (λ (p : Reply × State). p.0) e)) (plain_reply_of call s h)

pub plain_made : (call : Call) (s t : State) (reply : Reply) (a b : Answer)
    → Answered reply s t call → IsPlainCall call → b ≡ answer_to 0 reply a → MakesPlain call 0 s t a b
plain_made call s t reply a b e h says = bare_made call s t reply 0 a b e (plain_bare reply (plain_reply call s t reply e h)) says

-- ---- the steps of single calls

pub transmitted : (packet : Option (Transmit (List ℕ))) (now : ℕ) (s t : State) → packet ≡ (transmit_step now s).0
    → t ≡ (transmit_step now s).1 → Answered (Replies.Transmit packet) s t (Calls.PollTransmit now)
transmitted packet now s t a b = λ i. (Replies.Transmit (a i), b i)

pub drained : (given : Option Payload) (now : ℕ) (s t : State) → given ≡ (poll_recv_step now s).0 → t ≡ (poll_recv_step now s).1
    → Answered (poll_recv_reply given) s t (Calls.PollRecv now)
drained given now s t a b = λ i. (poll_recv_reply (a i), b i)

pub received : (outcome : Outcome) (packet : Transmit (List ℕ)) (now : ℕ) (s t : State) → outcome ≡ (packet_step packet now s).0
    → t ≡ (packet_step packet now s).1 → Answered (recv_reply outcome) s t (Calls.Recv packet now)
received outcome packet now s t a b = λ i. (recv_reply (a i), b i)

pub sent : (said : Result (Transmit (List ℕ)) SendError) (transport : TransportType) (to : SocketAddr) (bytes : List ℕ) (now : ℕ) (s t : State)
    → said ≡ (send_to_step transport to bytes now s).0 → t ≡ (send_to_step transport to bytes now s).1
    → Answered (Replies.SendTo said) s t (Calls.SendTo transport to bytes now)
sent said transport to bytes now s t a b = λ i. (Replies.SendTo (a i), b i)

-- ---- an input that is ignored

pub ignored_made : (packet : Transmit (List ℕ)) (now : ℕ) (s : State) (was buffer : List ℕ) (a : Answer)
    → packet_step packet now s ≡ (Ignored, s) → IsMade (Calls.Recv packet now) 0 (held s was) (held s was) buffer buffer a (of_kind IGNORED a)
ignored_made packet now s was buffer a e =
    made (Calls.Recv packet now) s s Replies.Ignored 0 was was buffer buffer a (of_kind IGNORED a)
    (received Ignored packet now s s (sym (ap (λ (p : Outcome × State). p.0) e)) (sym (ap (λ (p : Outcome × State). p.1) e)))
    (record { says = refl; buffer_is = refl; unread_is = refl })
