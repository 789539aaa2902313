-- A Send indication is a message, and its two attributes are seen.
use Rattle.std.proofs.Common.{◌≡◌, ℕ, ◌+◌, ◌-◌, ◌^◌, ◌<◌, ◌≤◌, List, [], ◌++◌, length, drop, refl, sym, ap, subst, ◌∙◌, arith}
use Rattle.std.specs.declared.net.socket_addr.SocketAddr.{SocketAddr}
use Rattle.std.specs.declared.net.socket_addr.SocketAddr.TheVariants.{V4, V6}
use Rattle.turn_stun.specs.Message.{AreAttributes, IsMessage, attributes_of, id_of, type_of, padded_len}
use Rattle.turn_stun.specs.Attributes.{seen_after, seen_of}
use Rattle.turn_stun.specs.Writer.{AddsAttribute, IsWritten, attribute_bytes, header_of, with_attribute, with_length}
use Rattle.turn_stun.specs.XorAddress.{plain, xor_value, xor_value_len}
use Rattle.turn_stun.proofs.FaultLemmas.{attributes_of-is}
use Rattle.turn_stun.proofs.WriteLemmas.{IsWritten-IsMessage, header_of-IsMessage, header_of-IsWritten, length-with_attribute, with_attribute-AddsAttribute, with_attribute-IsWritten}
use Rattle.turn_types.specs.Send.{data_kind, peer_kind, send_attributes, send_indication, send_type}

pub length-xor_value : (peer : SocketAddr) (id : ℕ) → length (xor_value peer id) ≡ xor_value_len peer
length-xor_value (V4 a) id = refl
length-xor_value (V6 a) id = refl

-- an address needs no padding
padded_len-xor_value_len : (peer : SocketAddr) → padded_len (xor_value_len peer) ≡ xor_value_len peer
padded_len-xor_value_len (V4 a) = refl
padded_len-xor_value_len (V6 a) = refl

xor_value_len-le : (peer : SocketAddr) → xor_value_len peer ≤ 20
xor_value_len-le (V4 a) = omega arith
xor_value_len-le (V6 a) = omega arith

-- the same message, written attribute by attribute
with_peer : SocketAddr → ℕ → List ℕ
with_peer peer id = with_attribute peer_kind (xor_value peer id) (header_of send_type id)

module _ (peer : SocketAddr) (payload : List ℕ) (id : ℕ) (short : length payload ≤ 65504) (small : id < 2 ^ 96) where
  peer_size : 4 + padded_len (length (xor_value peer id)) ≡ 4 + xor_value_len peer
  peer_size = rw (length-xor_value peer id, padded_len-xor_value_len peer) refl

  header : IsWritten (header_of send_type id)
  header = header_of-IsWritten send_type id (omega arith) small

  room : length (header_of send_type id) + (4 + padded_len (length (xor_value peer id))) ≤ 65552
  room = omega (arith, peer_size, xor_value_len-le peer)

  one : IsWritten (with_peer peer id)
  unfolding with_peer
  one = with_attribute-IsWritten peer_kind (xor_value peer id) (header_of send_type id) header (omega arith) room

  one_adds : AddsAttribute (header_of send_type id) (with_peer peer id) peer_kind (xor_value peer id)
  unfolding with_peer
  one_adds = with_attribute-AddsAttribute peer_kind (xor_value peer id) (header_of send_type id) header (omega arith) room

  one_length : length (with_peer peer id) ≡ 24 + xor_value_len peer
  unfolding with_peer
  one_length =
      length-with_attribute peer_kind (xor_value peer id) (header_of send_type id) (omega arith) (omega (arith, length-xor_value peer id, xor_value_len-le peer)) (omega arith)
      ∙ omega (arith, peer_size)

  room_2 : length (with_peer peer id) + (4 + padded_len (length payload)) ≤ 65552
  room_2 = omega (arith, one_length, xor_value_len-le peer)

  two : IsWritten (with_attribute data_kind payload (with_peer peer id))
  two = with_attribute-IsWritten data_kind payload (with_peer peer id) one (omega arith) room_2

  two_adds : AddsAttribute (with_peer peer id) (with_attribute data_kind payload (with_peer peer id)) data_kind payload
  two_adds = with_attribute-AddsAttribute data_kind payload (with_peer peer id) one (omega arith) room_2

  -- the length field that is set last is in the message
  any_length : (n : ℕ) → with_length n (with_peer peer id ++ attribute_bytes data_kind payload) ≡ with_length n (header_of send_type id) ++ attribute_bytes peer_kind
      (xor_value peer id) ++ attribute_bytes data_kind payload
  unfolding with_peer with_attribute
  any_length n = refl

  same_text : with_attribute data_kind payload (with_peer peer id) ≡ send_indication peer payload id
  unfolding with_attribute
  same_text =
      let size : length (with_peer peer id) - 20 + (4 + padded_len (length payload)) ≡ 8 + xor_value_len peer + padded_len (length payload) = omega (arith, one_length) in
      rw size (any_length (8 + xor_value_len peer + padded_len (length payload)))

  -- what is written is written as a message is
  pub send_indication-IsWritten : IsWritten (send_indication peer payload id)
  send_indication-IsWritten = subst IsWritten same_text two

  attributes_of-send_indication : attributes_of (send_indication peer payload id) ≡ send_attributes peer payload id
  attributes_of-send_indication =
      let none : attributes_of (header_of send_type id) ≡ [] = attributes_of-is _ _ _ _ (header_of-IsMessage send_type id (omega arith) small) in
      ap attributes_of (sym same_text) ∙ (two_adds.attributes ∙ rw (one_adds.attributes, none, one_length) refl)

  pub send_indication-IsMessage : IsMessage (send_indication peer payload id) send_type id (send_attributes peer payload id)
  send_indication-IsMessage =
      let is = header_of-IsMessage send_type id (omega arith) small in
      let type : type_of (send_indication peer payload id) ≡ send_type = ap type_of (sym same_text) ∙ (two_adds.type ∙ (one_adds.type ∙ is.has_type)) in
      let number : id_of (send_indication peer payload id) ≡ id = ap id_of (sym same_text) ∙ (two_adds.id ∙ (one_adds.id ∙ is.has_id)) in
      let message = IsWritten-IsMessage (send_indication peer payload id) send_indication-IsWritten in
      record {
        has_type = type;
        first_two_bits = omega arith;
        whole = message.whole;
        has_cookie = message.has_cookie;
        has_id = number;
        has_attributes = subst (λ found. AreAttributes 20 (drop 20 (send_indication peer payload id)) found) attributes_of-send_indication message.has_attributes;
      }

  pub seen_of-send_indication : seen_of (send_indication peer payload id) ≡ send_attributes peer payload id
  unfolding seen_after
  seen_of-send_indication = rw attributes_of-send_indication refl

-- the encoding of the peer's address is that of the address as its receiver reads it
pub send_indication-plain : (sent peer : SocketAddr) (payload : List ℕ) (id : ℕ) → sent ≡ plain peer → send_indication sent payload id ≡ send_indication peer payload id
send_indication-plain sent (V4 a) payload id e = ap (λ addr. send_indication addr payload id) e
send_indication-plain sent (V6 a) payload id e = ap (λ addr. send_indication addr payload id) e
