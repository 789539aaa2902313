-- The result of a Data indication, by what is found in it.
use Rattle.turn_client_laws.proofs.Common.{◌≡◌, ℕ, ◌+◌, Bool, true, false, if◌then◌else◌, List, length, take, drop, Option, Some, None, IfSome, option_and_then, refl, subst, sym, ap, ◌∙◌, arith}
use Rattle.turn_client_laws.proofs.Common.{take-append-drop, take_at, option_map, option_map_or, socket_ip, SocketAddr}
use Rattle.turn_client_laws.proofs.Machine.{Attribute, HoldsValue, id_of, u16_at, channel_data_at as channel_frame_at, data_kind, peer_kind, channel_peer, first_in, has_active_permission, has_unknown}
use Rattle.turn_client_laws.proofs.Machine.{last_icmp_in, last_in, last_peer_in, Ignored, channel_sent, data_indicated, State}
use Rattle.std.specs.List.{slice_range}
use Rattle.std.specs.declared.ops.Range.{Range}
use Rattle.turn_stun.specs.XorAddress.{xor_addr}
use Rattle.turn_types.specs.Channel.{Channel}
use Rattle.turn_types.specs.declared.attribute.icmp_report.Icmp.{Icmp}
use Rattle.turn_client_core.specs.Indication.{if_permitted, value_place}
use Rattle.turn_client_core.specs.ProtocolRecv.{outcome_in}
use Rattle.turn_client_core.specs.declared.protocol_recv.TurnProtocolRecv.{TurnProtocolRecv}
use Rattle.turn_client_core.specs.declared.protocol_recv.TurnProtocolRecv.TheVariants as T

-- the peer that is read is the last one of the message
pub peer-read : (message : List ℕ) (id : ℕ) (found : Option Attribute) (read peer : Option SocketAddr) → id ≡ id_of message → found ≡ last_in peer_kind message
    → read ≡ option_and_then (λ a. xor_addr a.value id) found → read ≡ peer → last_peer_in message ≡ peer
peer-read message id found read peer named is says e = rw (← is, ← named) (sym says ∙ e)

module _ (s : State) (message : List ℕ) where
  outcome-if_permitted : (has_active_permission : Bool) (outcome : TurnProtocolRecv)
      → outcome_in message (if_permitted has_active_permission outcome) ≡ (if has_active_permission then outcome_in message outcome else Ignored)
  outcome-if_permitted true outcome = refl
  outcome-if_permitted false outcome = refl

  pub unknown-is : has_unknown message ≡ true → Ignored ≡ data_indicated s message
  unknown-is unknown = rw unknown refl

  pub no_peer-is : has_unknown message ≡ false → last_peer_in message ≡ None → Ignored ≡ data_indicated s message
  no_peer-is known none = rw (known, none) refl

  module _ (peer : SocketAddr) (known : has_unknown message ≡ false) (peer_is : last_peer_in message ≡ Some peer) where
    abbrev permitted : Bool
    permitted = has_active_permission (socket_ip peer) s

    data_at : (a : Attribute) → last_in data_kind message ≡ Some a → HoldsValue message a
        → outcome_in message (if_permitted permitted (T.PeerData s.config.allocation_transport peer (value_place a))) ≡ data_indicated s message
    data_at a data_is holds = outcome-if_permitted permitted (T.PeerData s.config.allocation_transport peer (value_place a)) ∙ rw (known, peer_is, data_is, holds) refl

    pub data-is : (found : Option Attribute) (place : Range ℕ) → found ≡ last_in data_kind message → IfSome (last_in data_kind message) (HoldsValue message)
        → option_map value_place found ≡ Some place → outcome_in message (if_permitted permitted (T.PeerData s.config.allocation_transport peer place)) ≡ data_indicated s message
    data-is None place is holds e = cc
    data-is (Some a) place is holds e =
        let here : HoldsValue message a = subst (λ found. IfSome found (HoldsValue message)) (sym is) holds in
        let p : value_place a ≡ place = cc in
        subst (λ place. outcome_in message (if_permitted permitted (T.PeerData s.config.allocation_transport peer place)) ≡ data_indicated s message) p (data_at a (sym is) here)

    no_data : (found : Option Attribute) → found ≡ last_in data_kind message → option_map value_place found ≡ None → last_in data_kind message ≡ None
    no_data None is e = sym is
    no_data (Some a) is e = cc

    icmp_at : (icmp : Option Icmp) → last_in data_kind message ≡ None → icmp ≡ last_icmp_in message
        → outcome_in message (option_map_or (λ icmp. if_permitted permitted (T.PeerIcmp s.config.allocation_transport peer icmp)) icmp T.Ignored) ≡ data_indicated s message
    icmp_at None none is = rw (known, peer_is, none, ← is) refl
    icmp_at (Some icmp) none is = outcome-if_permitted permitted (T.PeerIcmp s.config.allocation_transport peer icmp) ∙ rw (known, peer_is, none, ← is) refl

    pub icmp-is : (icmp : Option Icmp) (found : Option Attribute) → found ≡ last_in data_kind message → option_map value_place found ≡ None → icmp ≡ last_icmp_in message
        → outcome_in message (option_map_or (λ icmp. if_permitted permitted (T.PeerIcmp s.config.allocation_transport peer icmp)) icmp T.Ignored) ≡ data_indicated s message
    icmp-is icmp found is e = icmp_at icmp (no_data found is e)

-- ---- ChannelData messages

-- as many items as were taken from the front are those in front
take-front : (n : ℕ) (bytes : List ℕ) → take (length (take n bytes)) bytes ≡ take n bytes
take-front n bytes = subst (λ all. take (length (take n bytes)) all ≡ take n bytes) (take-append-drop n bytes) (take_at (take n bytes) (drop n bytes) (length (take n bytes)) refl)

module _ (s : State) (frame : List ℕ) where
  -- the payload is behind the header (RFC 8656, section 12.4)
  payload-at : slice_range frame 4 (4 + length (channel_frame_at frame).payload) ≡ (channel_frame_at frame).payload
  payload-at =
      ap (λ n. take n (drop 4 frame)) (omega arith) ∙ take-front (u16_at frame 2) (drop 4 frame)

  pub channel-is : (channel : Channel) → channel ≡ channel_frame_at frame → (peer : SocketAddr) → first_in (channel_peer channel.id) s ≡ Some peer
      → outcome_in frame (T.PeerData s.config.allocation_transport peer (record { start = 4; end = 4 + length channel.payload })) ≡ channel_sent s frame
  channel-is channel is peer e =
      let at : first_in (channel_peer (channel_frame_at frame).id) s ≡ Some peer = subst (λ channel. first_in (channel_peer channel.id) s ≡ Some peer) is e in
      rw (is, at, payload-at) refl

  pub no_channel-is : (channel : Channel) → channel ≡ channel_frame_at frame → first_in (channel_peer channel.id) s ≡ None → Ignored ≡ channel_sent s frame
  no_channel-is channel is e =
      let at : first_in (channel_peer (channel_frame_at frame).id) s ≡ None = subst (λ channel. first_in (channel_peer channel.id) s ≡ None) is e in
      rw at refl
