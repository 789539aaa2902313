-- The Send indication, with which a client sends to a peer (RFC 8656, section 11.1).
use Rattle.std.specs.Prelude.{ℕ, ◌+◌, List, [], ◌∷◌, ◌++◌, length}
use Rattle.std.specs.Int.{w16, to_be_bytes}
use Rattle.std.specs.declared.net.socket_addr.SocketAddr.{SocketAddr}
use Rattle.turn_stun.specs.Message.{Attribute, padded_len}
use Rattle.turn_stun.specs.MessageType.{type_number}
use Rattle.turn_stun.specs.declared.message.header.MessageClass.TheVariants.{Indication}
use Rattle.turn_stun.specs.Writer.{attribute_bytes, header_of, with_length}
use Rattle.turn_stun.specs.XorAddress.{xor_value, xor_value_len}

-- method 6, as an indication
abbrev pub send_type : ℕ
send_type = type_number 6 Indication

-- XOR-PEER-ADDRESS (section 18.3) and DATA (section 18.4)
abbrev pub peer_kind : ℕ
peer_kind = 0x0012

abbrev pub data_kind : ℕ
data_kind = 0x0013

-- a header, and after it the address of the peer and the data; it is unsigned
abbrev pub send_indication : SocketAddr → List ℕ → ℕ → List ℕ
send_indication peer payload id =
    with_length (8 + xor_value_len peer + padded_len (length payload)) (header_of send_type id)
    ++ attribute_bytes peer_kind (xor_value peer id)
    ++ attribute_bytes data_kind payload

-- what precedes a payload of this length in it: all but the payload and the padding
abbrev pub send_head : SocketAddr → ℕ → ℕ → List ℕ
send_head peer len id =
    with_length (8 + xor_value_len peer + padded_len len) (header_of send_type id)
    ++ attribute_bytes peer_kind (xor_value peer id)
    ++ (to_be_bytes w16 data_kind ++ to_be_bytes w16 len)

-- the attributes of a Send indication, with their places
abbrev pub send_attributes : SocketAddr → List ℕ → ℕ → List Attribute
send_attributes peer payload id =
    record { offset = 20; kind = peer_kind; value = xor_value peer id }
    ∷ record { offset = 24 + xor_value_len peer; kind = data_kind; value = payload } ∷ []
