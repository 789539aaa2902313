-- The decoded value of an attribute of TURN, or nothing if it is malformed, and its encoding (RFC 8656,
-- section 18, and RFC 6062, section 6.2).
use Rattle.std.specs.Prelude.{ℕ, ◌==◌, ◌&&◌, if◌then◌else◌, List, [], ◌∷◌, ◌++◌, length, slice_index, Option, Some, None, option_and_then}
use Rattle.std.specs.Int.{w16, w32, to_be_bytes}
use Rattle.turn_stun.specs.Number.{u16_at, u32_at}
use Rattle.turn_stun.specs.declared.transport.TransportType.{TransportType}
use Rattle.turn_stun.specs.declared.transport.TransportType.TheVariants.{Udp, Tcp}
use Rattle.turn_types.specs.declared.family.AddressFamily.{AddressFamily}
use Rattle.turn_types.specs.Family.{family_number, family_with_number}

-- a value of four bytes is a number
abbrev pub number_of : List ℕ → Option ℕ
number_of value = if length value == 4 then Some (u32_at value 0) else None

abbrev pub number_value : ℕ → List ℕ
number_value number = to_be_bytes w32 number

-- CHANNEL-NUMBER (section 18.1): the number, and two bytes that are unread and written zero
abbrev pub channel_number_of : List ℕ → Option ℕ
channel_number_of value = if length value == 4 then Some (u16_at value 0) else None

abbrev pub channel_number_value : ℕ → List ℕ
channel_number_value number = to_be_bytes w16 number ++ 0 ∷ 0 ∷ []

-- the first byte of a value of four, if the other three are zero
abbrev pub leading_byte : List ℕ → Option ℕ
leading_byte value =
    if (length value == 4) && (slice_index value 1 == 0) && (slice_index value 2 == 0) && (slice_index value 3 == 0) then Some (slice_index value 0)
    else None

abbrev pub leading_value : ℕ → List ℕ
leading_value byte = byte ∷ 0 ∷ 0 ∷ 0 ∷ []

-- REQUESTED-ADDRESS-FAMILY (section 18.6) and ADDITIONAL-ADDRESS-FAMILY (section 18.11)
abbrev pub decoded_family : List ℕ → Option AddressFamily
decoded_family value = option_and_then family_with_number (leading_byte value)

abbrev pub family_value : AddressFamily → List ℕ
family_value family = leading_value (family_number family)

-- the numbers of protocols (IANA): 6 is TCP and 17 is UDP
abbrev pub protocol_number : TransportType → ℕ
protocol_number Udp = 17
protocol_number Tcp = 6

abbrev pub transport_with_number : ℕ → Option TransportType
transport_with_number number = if number == 17 then Some Udp else (if number == 6 then Some Tcp else None)

-- REQUESTED-TRANSPORT (section 18.8)
abbrev pub decoded_transport : List ℕ → Option TransportType
decoded_transport value = option_and_then transport_with_number (leading_byte value)

abbrev pub transport_value : TransportType → List ℕ
transport_value transport = leading_value (protocol_number transport)
