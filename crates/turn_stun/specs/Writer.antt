-- How a message is written (RFC 8489, sections 5 and 14).
use Rattle.std.specs.Prelude.{◌≡◌, ℕ, ◌+◌, ◌-◌, ◌≤◌, List, [], ◌∷◌, ◌++◌, length, take, drop, replicate}
use Rattle.std.specs.Int.{w16, w32, to_be_bytes}
use Rattle.turn_stun.specs.Number.{id_bytes}
use Rattle.turn_stun.specs.Message.{IsFaultless, padded_len, type_of, id_of, attributes_of}

-- a message with no attributes: its type, the length 0, the magic cookie and the transaction ID
abbrev pub header_of : ℕ → ℕ → List ℕ
header_of type id = to_be_bytes w16 type ++ (0 ∷ 0 ∷ []) ++ to_be_bytes w32 0x2112a442 ++ id_bytes id

-- the message with its length field set to that of n bytes after the header
abbrev pub with_length : ℕ → List ℕ → List ℕ
with_length n message = take 2 message ++ (to_be_bytes w16 n ++ drop 4 message)

-- an attribute: type, length, value, and zeros up to a multiple of four bytes (section 14)
abbrev pub attribute_bytes : ℕ → List ℕ → List ℕ
attribute_bytes kind value =
    to_be_bytes w16 kind ++ to_be_bytes w16 (length value) ++ value
    ++ replicate (padded_len (length value) - length value) 0

-- the message with one more attribute at its end, and its length adjusted
unfoldable pub with_attribute : ℕ → List ℕ → List ℕ → List ℕ
with_attribute kind value message =
    with_length (length message - 20 + (4 + padded_len (length value)))
    (message ++ attribute_bytes kind value)

-- its meaning: the attributes end with that one, and type and transaction ID stay
pub record AddsAttribute (old new : List ℕ) (kind : ℕ) (value : List ℕ) : Type 0 where
  pub type : type_of new ≡ type_of old
  pub id : id_of new ≡ id_of old
  pub attributes : attributes_of new ≡ attributes_of old ++ record { offset = length old; kind = kind; value = value } ∷ []

-- the message with only those of its attributes that lie within its first n bytes
abbrev pub cut_to : ℕ → List ℕ → List ℕ
cut_to n message = with_length (n - 20) (take n message)

-- The new message begins with the old one: without the attributes after that one it is the old one, byte
-- for byte.
pub record Extends (old new : List ℕ) : Type 0 where
  pub header : 20 ≤ length old
  pub len : length old ≤ length new
  pub cut : cut_to (length old) new ≡ old

-- What holds for the bytes of a writer: they are a message, with at most 65,532 bytes after the header,
-- and its length field is that of those bytes.
pub record IsWritten (bytes : List ℕ) : Type 0 where
  pub faultless : IsFaultless bytes
  pub short : length bytes ≤ 65552
  pub counted : with_length (length bytes - 20) bytes ≡ bytes
