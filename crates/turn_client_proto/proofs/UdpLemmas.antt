-- What a client over UDP does with a packet.
use Rattle.std.proofs.Common.{◌≡◌, ◌≤◌, ◌∙◌, ◌&&◌, ℕ, nat_lt, Bool, true, false, not, List, [], length, Option, Some, None, ap, refl, subst, sym}
use Rattle.std.proofs.lemmas.Bool.{and_parts, le-ltb}
use Rattle.std.specs.Option.{option_map_or}
use Rattle.std.specs.declared.net.socket_addr.SocketAddr.{SocketAddr}
use Rattle.std.specs.declared.ops.Range.{Range}
use Rattle.turn_agent.specs.Agent.{same_address}
use Rattle.turn_stun.specs.Message.{fault_of}
use Rattle.turn_stun.specs.Number.{u16_at}
use Rattle.turn_stun.specs.declared.transport.TransportType.{TransportType}
use Rattle.turn_stun.specs.declared.transport.TransportType.TheVariants.{Udp}
use Rattle.turn_client_api.specs.Answers.{takes_no_memory}
use Rattle.turn_client_api.specs.Memory.{packet_takes_memory}
use Rattle.turn_client_api.specs.Payloads.{Ignored, Outcome, Payload, PeerData, channel_sent, data_of, datagram_step, is_channel_frame, is_message}
use Rattle.turn_client_api.specs.Grants.{channel_peer, first_in}
use Rattle.turn_client_api.specs.Receive.{is_from_server, recv_step}
use Rattle.turn_client_api.specs.State.{State}
use Rattle.turn_client_laws.proofs.AnyStreamsLemmas.{both_with, message-alike, pair-cond}
use Rattle.turn_client_core.specs.ProtocolRecv.{outcome_in}
use Rattle.turn_client_core.specs.declared.protocol_recv.TurnProtocolRecv.{TurnProtocolRecv}
use Rattle.turn_client_core.specs.declared.protocol_recv.TurnProtocolRecv.TheVariants as T
use Rattle.turn_client_tcp.proofs.CallLemmas.{memory-alike}
use Rattle.turn_types.specs.Channel.{IsChannel, channel_data_at}
use Rattle.turn_types.proofs.ChannelLemmas.{IsChannel-ReadsChannel, PassesTests-no_fault}
use Rattle.turn_client_proto.proofs.ControlLemmas.{Follows, follows, left, same}

-- ---- a datagram of the server

module _ (transport : TransportType) (from to : SocketAddr) (bytes : List ℕ) (s : State) where
  -- it comes from the server to the client's own address
  pub own-datagram : (now : ℕ) → s.transport ≡ Udp → (is_from_server transport from s && same_address to s.local) ≡ true → recv_step transport from to bytes now s ≡ datagram_step bytes now s
  own-datagram now udp own =
      let (first, second) = and_parts (is_from_server transport from s) (same_address to s.local) own in
      rw (first, udp, second) refl

  pub datagram-takes : s.transport ≡ Udp → (is_from_server transport from s && same_address to s.local) ≡ true → takes_no_memory transport from to bytes s ≡ not (packet_takes_memory bytes s)
  datagram-takes udp own =
      let (first, second) = and_parts (is_from_server transport from s) (same_address to s.local) own in
      rw (first, udp, second) refl

-- ---- a ChannelData message

-- is no message: the first two bits of one are 00, and those of the number of a channel 01
no-message : (bytes : List ℕ) → 0x4000 ≤ u16_at bytes 0 → is_message bytes ≡ false
unfolding fault_of
no-message bytes least = by (nat_lt (length bytes) 20) refl
  where
    other : nat_lt (u16_at bytes 0) 0x4000 ≡ false
    other = le-ltb _ _ least

    by : (short : Bool) → nat_lt (length bytes) 20 ≡ short → is_message bytes ≡ false
    by true e = rw e refl
    by false e = rw (e, other) refl

pub own-frame : (transport : TransportType) (from to : SocketAddr) (bytes : List ℕ) (s : State) (now id : ℕ) (payload rest : List ℕ) → s.transport ≡ Udp
    → (is_from_server transport from s && same_address to s.local) ≡ true → IsChannel bytes id payload rest
    → recv_step transport from to bytes now s ≡ (channel_sent s bytes, s)
own-frame transport from to bytes s now id payload rest udp own is =
    let tests = (IsChannel-ReadsChannel bytes id payload rest is).tests in
    own-datagram transport from to bytes s now udp own ∙ rw (no-message bytes tests.least, PassesTests-no_fault bytes tests) refl

-- it is data of a peer, or ignored
module _ (bytes : List ℕ) (s : State) where
  ignored : (part : List ℕ) (found : Option SocketAddr) (outcome : Outcome) → outcome ≡ option_map_or (λ peer. data_of s peer 0 part) found Ignored
      → ((payload : Payload) → outcome ≡ PeerData payload → ⊥) → outcome ≡ Ignored
  ignored part None outcome e not = e
  ignored part (Some peer) outcome e not = absurd (not _ e)

  other : (sent : TurnProtocolRecv) → ((transport : TransportType) (peer : SocketAddr) (place : Range ℕ) → sent ≡ T.PeerData transport peer place → ⊥)
      → (payload : Payload) → outcome_in bytes sent ≡ PeerData payload → ⊥
  other T.Handled not payload e = cc
  other T.Ignored not payload e = cc
  other (T.PeerData transport peer place) not payload e = not transport peer place refl
  other (T.PeerIcmp transport peer icmp) not payload e = cc

  pub frame-ignored : (sent : TurnProtocolRecv) → outcome_in bytes sent ≡ channel_sent s bytes
      → ((transport : TransportType) (peer : SocketAddr) (place : Range ℕ) → sent ≡ T.PeerData transport peer place → ⊥) → channel_sent s bytes ≡ Ignored
  frame-ignored sent e not =
      let channel = channel_data_at bytes in
      sym e ∙ ignored channel.payload (first_in (channel_peer channel.id) s) (outcome_in bytes sent) e (other sent not)

-- ---- what the control machine does with a datagram

-- which goes on without streams beside it
pub without-streams : {s was : State} → record was { streams = [] } ≡ s → (t : State) → Follows s was t (record t { streams = [] })
without-streams view t = follows view refl refl

module _ {s was t u : State} (led : Follows s was t u) (bytes : List ℕ) where
  alike : (now : ℕ) → datagram_step bytes now (record was { streams = s.streams }) ≡ both_with s.streams (datagram_step bytes now was)
  alike now = pair-cond s.streams (is_message bytes) _ _ _ _ (message-alike s.streams bytes now was) (pair-cond s.streams (is_channel_frame bytes) _ _ _ _ refl refl)

  pub datagram-said : (outcome : Outcome) (now : ℕ) → outcome ≡ (datagram_step bytes now was).0 → outcome ≡ (datagram_step bytes now s).0
  datagram-said outcome now e = e ∙ sym (ap (λ (p : Outcome × State). p.0) (same led (datagram_step bytes now) (alike now)))

  pub datagram-left : (now : ℕ) → t ≡ (datagram_step bytes now was).1 → u ≡ (datagram_step bytes now s).1
  datagram-left now = left led (datagram_step bytes now) (alike now)

  pub datagram-memory : packet_takes_memory bytes was ≡ true → packet_takes_memory bytes s ≡ true
  datagram-memory wanted =
      subst (λ (v : State). packet_takes_memory bytes v ≡ true) led.before (ap (λ (takes : Bool). is_message bytes && takes) (memory-alike s.streams bytes was) ∙ wanted)
