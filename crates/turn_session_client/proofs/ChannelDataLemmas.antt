-- ChannelData is no message, so over UDP a client neither handles nor changes by it (RFC 8656, section 12.4).
use Rattle.std.proofs.Common.{◌≡◌, ◌≤◌, ◌&&◌, ◌||◌, ℕ, zero, nat_lt, Bool, true, false, not, List, length, Option, Some, None, ap, arith, inl, refl, sym}
use Rattle.std.proofs.lemmas.Bool.{and_parts, and_right, le-ltb, leb-true, or_right}
use Rattle.std.specs.Prelude.{if◌then◌else◌, is_none, is_some, slice_index}
use Rattle.std.specs.Option.{option_map_or}
use Rattle.std.specs.declared.net.socket_addr.SocketAddr.{SocketAddr}
use Rattle.turn_stun.specs.Message.{fault_of}
use Rattle.turn_stun.specs.Number.{u16_at}
use Rattle.turn_stun.specs.declared.error.ParseError.{ParseError}
use Rattle.turn_stun.specs.declared.transport.TransportType.{TransportType}
use Rattle.turn_stun.specs.declared.transport.TransportType.TheVariants.{Udp, Tcp}
use Rattle.turn_types.specs.Channel.{channel_data_at}
use Rattle.turn_client_api.specs.Answers.{takes_no_memory}
use Rattle.turn_client_api.specs.Grants.{channel_peer, first_in}
use Rattle.turn_client_api.specs.Memory.{packet_takes_memory}
use Rattle.turn_client_api.specs.Payloads.{Ignored, Outcome, channel_sent, data_of, datagram_step, is_channel_frame, is_message}
use Rattle.turn_client_api.specs.Receive.{is_from_server, recv_step}
use Rattle.turn_client_api.specs.State.{State}
use Rattle.turn_session_book.specs.Keys.{same_peer}
use Rattle.turn_session_book.specs.declared.replies.ErrorReply.{ErrorReply}
use Rattle.turn_session_life.specs.declared.life.Phase.{Phase}
use Rattle.turn_session_life.specs.declared.life.Phase.TheVariants.{Opening, Open, Leaving, Over}
use Rattle.turn_session_client.specs.Answering.{is_channel_data}
use Rattle.turn_session_client.specs.Reading.{IsReadingFrom, is_foreign}
use Rattle.turn_session_client.specs.Drain.{DrainsSome}
use Rattle.turn_session_client.specs.NotedState.{NotedState}
use Rattle.turn_session_client.specs.Receiving.{Receives, answers_nothing, heard_step, is_taken, reply_for, with_reply}

-- ---- the first two bits of a message are 00, and those of ChannelData 01

least : (bytes : List ℕ) → is_channel_data bytes ≡ true → 0x4000 ≤ u16_at bytes 0
least bytes channel =
    let from : 64 ≤ slice_index bytes 0 = leb-true 64 (slice_index bytes 0) (and_parts _ (nat_lt (slice_index bytes 0) 128) channel).0 in omega arith

pub no-message : (bytes : List ℕ) → is_channel_data bytes ≡ true → is_message bytes ≡ false
unfolding fault_of
no-message bytes channel = by (nat_lt (length bytes) 20) refl
  where
    other : nat_lt (u16_at bytes 0) 0x4000 ≡ false
    other = le-ltb _ _ (least bytes channel)

    by : (short : Bool) → nat_lt (length bytes) 20 ≡ short → is_message bytes ≡ false
    by true e = rw e refl
    by false e = rw (e, other) refl

-- nor does it answer a request by another method
pub no-answer : (to : SocketAddr) (bytes : List ℕ) (client : State) → is_channel_data bytes ≡ true → answers_nothing to bytes client ≡ false
no-answer to bytes client channel =
    let no : is_foreign bytes client ≡ false = rw channel refl in and_right (same_peer to client.local) (is_foreign bytes client) no

-- ---- a datagram of it

-- the client does not handle it, and is in the same state
abbrev Keeps : State → Outcome × State → Type 0
Keeps s step = (is_taken step.0 ≡ false) × (step.1 ≡ s)

keeps-either : (b : Bool) (x y : Outcome × State) (s : State) → Keeps s x → Keeps s y → Keeps s (if b then x else y)
keeps-either true x y s first second = first
keeps-either false x y s first second = second

data-untaken : (s : State) (part : List ℕ) (found : Option SocketAddr)
    → is_taken (option_map_or (λ peer. data_of s peer 0 part) found Ignored) ≡ false
data-untaken s part None = refl
data-untaken s part (Some peer) = refl

keeps-datagram : (bytes : List ℕ) (now : ℕ) (s : State) → is_channel_data bytes ≡ true → Keeps s (datagram_step bytes now s)
keeps-datagram bytes now s channel =
    let channel_data = channel_data_at bytes in
    rw (no-message bytes channel) (keeps-either (is_channel_frame bytes) (channel_sent s bytes, s) (Ignored, s) s
    (data-untaken s channel_data.payload (first_in (channel_peer channel_data.id) s), refl) (refl, refl))

abbrev over : TransportType → State → State
over transport s = record s { transport = transport }

keeps-over : (transport : TransportType) (from to : SocketAddr) (bytes : List ℕ) (now : ℕ) (s : State) → is_channel_data bytes ≡ true
    → Keeps (over transport s) (recv_step Udp from to bytes now (over transport s))
keeps-over Udp from to bytes now s channel =
    let t = over Udp s in
    keeps-either (is_from_server Udp from t) _ (Ignored, t) t
    (keeps-either _ (datagram_step bytes now t) (Ignored, t) t (keeps-datagram bytes now t channel) (refl, refl)) (refl, refl)
keeps-over Tcp from to bytes now s channel = (refl, refl)

pub untaken : (from to : SocketAddr) (bytes : List ℕ) (now : ℕ) (s : State) → is_channel_data bytes ≡ true
    → is_taken (recv_step Udp from to bytes now s).0 ≡ false
untaken from to bytes now s channel = (keeps-over s.transport from to bytes now s channel).0

pub unchanged : (from to : SocketAddr) (bytes : List ℕ) (now : ℕ) (s : State) → is_channel_data bytes ≡ true
    → (recv_step Udp from to bytes now s).1 ≡ s
unchanged from to bytes now s channel = (keeps-over s.transport from to bytes now s channel).1

-- ---- nor does it take memory

free-over : (transport : TransportType) (from to : SocketAddr) (bytes : List ℕ) (s : State) → is_message bytes ≡ false
    → takes_no_memory Udp from to bytes (over transport s) ≡ true
free-over Udp from to bytes s none =
    let t = over Udp s in
    let free : not (packet_takes_memory bytes t) ≡ true = rw none refl in
    or_right (not (is_from_server Udp from t)) _ (or_right _ (not (packet_takes_memory bytes t)) free)
free-over Tcp from to bytes s none = refl

pub free : (from to : SocketAddr) (bytes : List ℕ) (s : State) → is_channel_data bytes ≡ true → takes_no_memory Udp from to bytes s ≡ true
free from to bytes s channel = free-over s.transport from to bytes s (no-message bytes channel)

-- ---- nothing of it is noted

quiet : (taken : Bool) (reply : Option ErrorReply) (client : State) (s : NotedState) → taken ≡ false → client ≡ s.client
    → with_reply taken reply (record s { client = client }) ≡ s
quiet taken reply client s none same = rw (none, same) refl

unheard : (from to : SocketAddr) (bytes : List ℕ) (now : ℕ) (s : NotedState) → is_channel_data bytes ≡ true
    → DrainsSome now (heard_step Udp from to bytes None now s) s
unheard from to bytes now s channel =
    let step = recv_step Udp from to bytes now s.client in
    record {
      count = zero;
      is = inl (sym (quiet (is_taken step.0) (reply_for None s) step.1 s (untaken from to bytes now s.client channel)
          (unchanged from to bytes now s.client channel)));
    }

pub unread : (is_servers : Bool) (bytes : List ℕ) (client : State) → is_channel_data bytes ≡ true → IsReadingFrom is_servers bytes client None
unread true bytes client channel = inl channel
unread false bytes client channel = refl

unread-at : (from : SocketAddr) (bytes : List ℕ) (client : State) → is_channel_data bytes ≡ true
    → IsReadingFrom (is_from_server Udp from client) bytes client None
unread-at from bytes client channel = unread (is_from_server Udp from client) bytes client channel

abbrev at : Phase → NotedState → NotedState
at phase s = record s { life = record s.life { phase = phase } }

stays-at : (phase : Phase) (from to : SocketAddr) (bytes : List ℕ) (now : ℕ) (s : NotedState) → is_channel_data bytes ≡ true
    → Receives Udp from to bytes now (at phase s) (at phase s)
stays-at Opening from to bytes now s channel =
    rw (no-answer to bytes s.client channel) (None, unread-at from bytes s.client channel, unheard from to bytes now (at Opening s) channel)
stays-at Open from to bytes now s channel =
    rw (no-answer to bytes s.client channel) (None, unread-at from bytes s.client channel, unheard from to bytes now (at Open s) channel)
stays-at (Leaving leave) from to bytes now s channel =
    let t = at (Leaving leave) s in sym (ap (λ (c : State). record t { client = c }) (unchanged from to bytes now t.client channel))
stays-at (Over why) from to bytes now s channel = refl

pub stays : (from to : SocketAddr) (bytes : List ℕ) (now : ℕ) (s : NotedState) → is_channel_data bytes ≡ true → Receives Udp from to bytes now s s
stays from to bytes now s channel = stays-at s.life.phase from to bytes now s channel
