-- What a ChannelData message is (RFC 8656, section 12.4).
use Rattle.std.specs.Prelude.{◌≡◌, ℕ, Bool, ◌+◌, ◌^◌, ◌<◌, ◌≤◌, ◌&&◌, nat_le, nat_lt, not, if◌then◌else◌, List, ◌++◌, length, take, drop, Option, Some, None}
use Rattle.std.specs.Int.{w16, to_be_bytes}
use Rattle.turn_stun.specs.Writer.{attribute_bytes}
use Rattle.turn_stun.specs.Number.{u16_at}
use Rattle.turn_types.specs.declared.error.ChannelParseError.{ChannelParseError}
use Rattle.turn_types.specs.declared.error.ChannelParseError.TheVariants.{Short, NotChannel, Length}

-- the contents of a ChannelData message: its channel number, and data to or from the peer
pub record Channel : Type 0 where
  pub id : ℕ
  pub payload : List ℕ

-- The bytes begin with a ChannelData message of this channel and this payload, and the rest follows: a
-- number whose first two bits are 01, the length of the payload, and the payload.
pub record IsChannel (bytes : List ℕ) (id : ℕ) (payload rest : List ℕ) : Type 0 where
  pub header : List ℕ
  pub spelled : bytes ≡ header ++ (payload ++ rest)
  pub four_bytes : length header ≡ 4
  pub number : u16_at header 0 ≡ id
  pub least : 0x4000 ≤ id
  pub most : id < 0x8000
  pub payload_length : u16_at header 2 ≡ length payload

-- the first two bits of the number are 01
abbrev pub is_channel_number : ℕ → Bool
is_channel_number id = nat_le 0x4000 id && nat_lt id 0x8000

-- the first fault that holds, or none: then the bytes begin with a ChannelData message
unfoldable pub channel_fault_of : List ℕ → Option ChannelParseError
channel_fault_of bytes =
    if nat_lt (length bytes) 4 then Some Short
    else (if not (is_channel_number (u16_at bytes 0)) then Some NotChannel
    else (if nat_lt (length bytes) (4 + u16_at bytes 2) then Some Length
    else None))

-- The contents of the ChannelData message at the start. By `IsChannel` there is no other: `parse` ensures
-- both directions.
abbrev pub channel_data_at : List ℕ → Channel
channel_data_at bytes = record { id = u16_at bytes 0; payload = take (u16_at bytes 2) (drop 4 bytes) }

-- what a `ChannelData` keeps of its message
pub record IsHeldChannel (id : ℕ) (payload : List ℕ) : Type 0 where
  pub least : 0x4000 ≤ id
  pub most : id < 0x8000
  pub short : length payload < 2 ^ 16

-- The ChannelData message with a payload. It is encoded like an attribute, with the channel number in
-- place of the type, and so with padding of zeros to a multiple of four bytes (RFC 8656, section 12.5,
-- requires it over a stream and allows it over datagrams).
abbrev pub channel_frame : ℕ → List ℕ → List ℕ
channel_frame id payload = attribute_bytes id payload

-- what precedes a payload of this length in it: the channel number and the length
abbrev pub channel_head : ℕ → ℕ → List ℕ
channel_head id len = to_be_bytes w16 id ++ to_be_bytes w16 len
