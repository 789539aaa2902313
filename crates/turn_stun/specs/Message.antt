-- What a message is (RFC 8489, sections 5 and 14).
use Rattle.std.specs.Prelude.{◌≡◌, ℕ, zero, suc, ◌+◌, ◌-◌, ◌*◌, ◌/◌, ◌%◌, ◌^◌, ◌<◌, ◌≤◌, ◌==◌, ◌&&◌, Bool, nat_lt, not, if◌then◌else◌, List, [], ◌∷◌, ◌++◌}
use Rattle.std.specs.Prelude.{length, take, drop, Option, Some, None, is_none, unwrap_or}
use Rattle.std.specs.List.{slice_range}
use Rattle.std.specs.Option.{option_map}
use Rattle.turn_stun.specs.Number.{big_endian, u16_at, u32_at}
use Rattle.turn_stun.specs.declared.error.ParseError.{ParseError}
use Rattle.turn_stun.specs.declared.error.ParseError.TheVariants.{Short, NotStun, Length}

-- an attribute: its offset in the message, its type, and its value without padding
pub record Attribute : Type 0 where
  pub offset : ℕ
  pub kind : ℕ
  pub value : List ℕ

-- the least multiple of four that is not below n (section 14: attributes are padded to it)
abbrev pub padded_len : ℕ → ℕ
padded_len n = (n + 3) / 4 * 4

-- The bytes, which begin at this offset of a message, are this attribute and then the rest. The
-- attribute is its type, the length of its value, the value, and padding of any content
-- (section 14).
pub record IsAttributeThen (at : ℕ) (bytes : List ℕ) (attribute : Attribute) (rest : List ℕ) : Type 0 where
  pub header : List ℕ
  pub padding : List ℕ
  pub spelled : bytes ≡ header ++ (attribute.value ++ (padding ++ rest))
  pub four_bytes : length header ≡ 4
  pub kind : u16_at header 0 ≡ attribute.kind
  pub value_length : u16_at header 2 ≡ length attribute.value
  pub padded : length attribute.value + length padding ≡ padded_len (length attribute.value)
  pub placed : attribute.offset ≡ at

-- the bytes, which begin at this offset, are these attributes, one after the other, and no more
abbrev pub AreAttributes : ℕ → List ℕ → List Attribute → Type 0
AreAttributes at bytes [] = bytes ≡ []
AreAttributes at bytes (a ∷ later) =
    (rest : List ℕ)
    × IsAttributeThen at bytes a rest
    × AreAttributes (at + (4 + padded_len (length a.value))) rest later

-- section 5: the message type, with its two zero bits
abbrev pub type_of : List ℕ → ℕ
type_of bytes = u16_at bytes 0

-- section 5: how many bytes follow the header
abbrev pub length_of : List ℕ → ℕ
length_of bytes = u16_at bytes 2

-- section 5: the magic cookie
abbrev pub cookie_of : List ℕ → ℕ
cookie_of bytes = u32_at bytes 4

-- section 5: the transaction ID
abbrev pub id_of : List ℕ → ℕ
id_of bytes = big_endian (take 12 (drop 8 bytes))

-- The bytes are a message of this type, with this transaction ID and these attributes (section 5): a
-- header of 20 bytes whose first two bits are zero, and after it the attributes and no more.
pub record IsMessage (bytes : List ℕ) (type id : ℕ) (attributes : List Attribute) : Type 0 where
  pub has_type : type_of bytes ≡ type
  pub first_two_bits : type < 2 ^ 14
  pub whole : 20 + length_of bytes ≡ length bytes
  pub has_cookie : cookie_of bytes ≡ 0x2112a442
  pub has_id : id_of bytes ≡ id
  pub has_attributes : AreAttributes 20 (drop 20 bytes) attributes

-- the attribute lies in the bytes from this place up to that one, padding included
abbrev pub IsWithin : ℕ → ℕ → Attribute → Type 0
IsWithin start end a = (start ≤ a.offset) × (a.offset + (4 + padded_len (length a.value)) ≤ end)

-- the bytes hold its value at its offset, after its type and its length
abbrev pub HoldsValue : List ℕ → Attribute → Type 0
HoldsValue bytes a = slice_range bytes (a.offset + 4) (a.offset + 4 + length a.value) ≡ a.value

-- the first attribute in the bytes, which begin at this offset
abbrev pub attribute_at : ℕ → List ℕ → Attribute
attribute_at at bytes = record {
  offset = at;
  kind = u16_at bytes 0;
  value = take (u16_at bytes 2) (drop 4 bytes);
}

-- how many bytes the first attribute takes, with its padding
abbrev pub attribute_size : List ℕ → ℕ
attribute_size bytes = 4 + padded_len (u16_at bytes 2)

-- The attributes in the bytes after the next `skip` ones, or nothing if one runs past the end. By
-- `AreAttributes` these are the only ones: `from_bytes` ensures both directions.
unfoldable pub attributes_from : ℕ → ℕ → List ℕ → Option (List Attribute)
attributes_from zero at [] = Some []
attributes_from zero at (b ∷ bs) =
    option_map (λ later. attribute_at at (b ∷ bs) ∷ later)
    (attributes_from (attribute_size (b ∷ bs) - 1) (at + 1) bs)
attributes_from (suc skip) at [] = None
attributes_from (suc skip) at (b ∷ bs) = attributes_from skip (at + 1) bs

-- the attributes of a message
abbrev pub attributes_of : List ℕ → List Attribute
attributes_of bytes = unwrap_or (attributes_from 0 20 (drop 20 bytes)) []

-- the header begins as one of STUN does: two zero bits, the cookie, and a length in fours
abbrev pub is_stun_header : List ℕ → Bool
is_stun_header bytes =
    nat_lt (type_of bytes) 0x4000 && (cookie_of bytes == 0x2112a442) && (length_of bytes % 4 == 0)

-- the first fault of a header that holds, whatever follows it
abbrev pub header_fault_of : List ℕ → Option ParseError
header_fault_of bytes =
    if nat_lt (length bytes) 20 then Some Short
    else (if not (is_stun_header bytes) then Some NotStun
    else None)

-- the first fault that holds, or none: then the bytes are a message
unfoldable pub fault_of : List ℕ → Option ParseError
fault_of bytes =
    if nat_lt (length bytes) 20 then Some Short
    else (if not (is_stun_header bytes) then Some NotStun
    else (if not (20 + length_of bytes == length bytes) then Some Length
    else (if is_none (attributes_from 0 20 (drop 20 bytes)) then Some ParseError.Attribute
    else None)))

-- what holds for the bytes of a `Message`: there is no fault, and so they hold a header
pub record IsFaultless (bytes : List ℕ) : Type 0 where
  pub none : fault_of bytes ≡ None
  pub long : 20 ≤ length bytes
  pub typed : type_of bytes < 2 ^ 14
