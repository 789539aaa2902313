-- An input that is data of a peer returns it.
use Rattle.turn_client_laws.proofs.Common.{◌≡◌, ◌∙◌, ℕ, Bool, true, false, cond, eqb, List, Option, Some, None, refl, sym, ap, inl, inr, is_none, socket_ip, cases_Bool, le-ltb, lt-ltb}
use Rattle.turn_client_laws.proofs.Machine.{MessageClass, Indication, State, Allocated, Mode, Control, Waiting, Bound, Broken, Stream, begins_message, channel_data_at, channel_peer, class_in}
use Rattle.turn_client_laws.proofs.Machine.{allocated_judgement, control_frame_step, data_method, datagram_step, first_in, has_active_permission, is_channel_frame, is_data_indication}
use Rattle.turn_client_laws.proofs.Machine.{is_message, judgement_of, DataIndication, message_step, method_in, Outcome, owned, Payload, payload_in, PeerData, channel_sent, fault_of-none}
use Rattle.turn_client_laws.proofs.Laws.{HasNoDoubles, Input, processed}
use Rattle.turn_client_laws.specs.LawsPeers.{HasChannel, IsChannelPayload, IsDataAttribute, IsIndicated}
use Rattle.turn_types.proofs.ChannelLemmas.{channel_fault_of-none}
use Rattle.turn_client_runs.specs.Deliveries.{IsDataOfPeer, IsMessageOfPeer, IsReturned, placed}
use Rattle.turn_client_runs.proofs.AloneLemmas.{channel-found, permission-found}

-- ---- what the first bits say

none-is : {X : Type 0} (o : Option X) → is_none o ≡ true → o ≡ None
none-is None e = refl
none-is (Some x) e = cc

message-begins : (bytes : List ℕ) → is_message bytes ≡ true → begins_message bytes ≡ true
message-begins bytes is = lt-ltb _ _ (fault_of-none bytes (none-is _ is)).first_two_bits

channel-begins : (bytes : List ℕ) → is_channel_frame bytes ≡ true → begins_message bytes ≡ false
channel-begins bytes is = le-ltb _ _ (channel_fault_of-none bytes (none-is _ is)).least

channel-alone : (bytes : List ℕ) → is_channel_frame bytes ≡ true → is_message bytes ≡ false
channel-alone bytes is = elim (cases_Bool (is_message bytes)) [
  | inl message ↦ let begins = message-begins bytes message in let other = channel-begins bytes is in absurd cc
  | inr other ↦ other
]

-- ---- a message

indication-judged : (message : List ℕ) (s : State) → s.phase ≡ Allocated → is_data_indication message ≡ true → judgement_of s message ≡ DataIndication
indication-judged message s phase is = rw phase (by (class_in message) refl)
  where
    by : (class : MessageClass) → class_in message ≡ class → allocated_judgement s message ≡ DataIndication
    by Indication e = let named : eqb (method_in message) data_method ≡ true = rw e at is in rw (e, named) refl
    by class e = let no : false ≡ true = rw e at is in absurd cc

module _ (bytes : List ℕ) (now : ℕ) (s : State) (payload : Payload) where
  indicated-brings : IsIndicated bytes payload.peer s → IsDataAttribute bytes s payload → HasNoDoubles s → message_step bytes now s ≡ (PeerData payload, s)
  indicated-brings is (a, found, same) single =
      let judged = indication-judged bytes s is.phase is.indication in
      let permitted : has_active_permission (socket_ip payload.peer) s ≡ true = permission-found (socket_ip payload.peer) s single is.permitted in
      rw judged (rw (is.known, is.named, found, permitted) (ap (λ (o : Outcome). (o, s)) (sym same)))

  channel-brings : HasChannel (channel_data_at bytes).id payload.peer s → IsChannelPayload bytes s payload → HasNoDoubles s → channel_sent s bytes ≡ PeerData payload
  channel-brings has same single =
      let found : first_in (channel_peer (channel_data_at bytes).id) s ≡ Some payload.peer = channel-found (channel_data_at bytes).id payload.peer s single has in
      rw found (sym same)

  pub datagram-brings : HasNoDoubles s → IsMessageOfPeer bytes s payload → datagram_step bytes now s ≡ (PeerData payload, s)
  datagram-brings single (inl (whole, is, carried)) = rw whole (indicated-brings is carried single)
  datagram-brings single (inr (whole, has, carried)) =
      let other = channel-alone bytes whole in
      rw (other, whole) (ap (λ (o : Outcome). (o, s)) (channel-brings has carried single))

  control-brings : HasNoDoubles s → IsMessageOfPeer bytes s payload → control_frame_step bytes now s ≡ (PeerData payload, s)
  control-brings single (inl (whole, is, carried)) = let begins = message-begins bytes whole in rw (begins, whole) (indicated-brings is carried single)
  control-brings single (inr (whole, has, carried)) =
      let begins = channel-begins bytes whole in
      rw begins (ap (λ (o : Outcome). (o, s)) (channel-brings has carried single))

-- ---- an input

frame-brings : (m : Mode) (stream : Stream) (t : Input) (payload : Payload) → HasNoDoubles t.before → let one = record t { stream = Some (record stream { mode = m }) } in
    IsDataOfPeer one payload → processed one ≡ (PeerData payload, t.before)
frame-brings Control stream t payload single is = control-brings t.bytes t.time t.before payload single is
frame-brings Waiting stream t payload single is = absurd is
frame-brings (Bound peer) stream t payload single is = ap (λ (p : Payload). (PeerData p, t.before)) (sym is)
frame-brings Broken stream t payload single is = absurd is

input-brings : (one : Input) (payload : Payload) → HasNoDoubles one.before → IsDataOfPeer one payload → processed one ≡ (PeerData payload, one.before)
input-brings one payload = by one.stream one
  where
    by : (o : Option Stream) (t : Input) → HasNoDoubles t.before → let u = record t { stream = o } in IsDataOfPeer u payload → processed u ≡ (PeerData payload, t.before)
    by None t single is = datagram-brings t.bytes t.time t.before payload single is
    by (Some stream) t single is = frame-brings stream.mode stream t payload single is

lent-or : (is_lent : Bool) (payload : Payload) → payload_in (cond is_lent (PeerData payload) (owned (PeerData payload))) ≡ Some (placed is_lent payload)
lent-or true payload = refl
lent-or false payload = refl

pub input-returned : (one : Input) → HasNoDoubles one.before → IsReturned one
input-returned one single payload is =
    let brings = input-brings one payload single is in
    let outcome : (processed one).0 ≡ PeerData payload = ap (λ (r : Outcome × State). r.0) brings in (
      ap (λ (o : Outcome). payload_in (cond one.is_lent o (owned o))) outcome ∙ lent-or one.is_lent payload,
      ap (λ (r : Outcome × State). r.1) brings,
    )
