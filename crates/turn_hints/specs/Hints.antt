-- What a message says: places in its bytes, and addresses (RFC 8489, section 14).
use Rattle.std.specs.Prelude.{ℕ, ◌+◌, ◌==◌, ◌&&◌, if◌then◌else◌, List, [], ◌∷◌, length, map, slice_index, Option, Some, None, option_and_then}
use Rattle.std.specs.Option.{option_map}
use Rattle.std.specs.declared.net.socket_addr.SocketAddr.{SocketAddr}
use Rattle.std.specs.declared.net.socket_addr.SocketAddr.TheVariants.{V4, V6}
use Rattle.std.specs.declared.net.socket_addr.SocketAddrV4.{SocketAddrV4}
use Rattle.std.specs.declared.net.socket_addr.SocketAddrV6.{SocketAddrV6}
use Rattle.std.specs.declared.ops.Range.{Range}
use Rattle.turn_stun.specs.Attributes.{first_of, seen_of}
use Rattle.turn_stun.specs.Message.{Attribute, id_of}
use Rattle.turn_stun.specs.Number.{u16_at}
use Rattle.turn_stun.specs.Read.{value_in}
use Rattle.turn_stun.specs.Refusal.{Refusal}
use Rattle.turn_stun.specs.Values.{error_code_of}
use Rattle.turn_stun.specs.XorAddress.{xor_addr, xor_v4, xor_v6}

-- where the value of an attribute lies, without its padding
abbrev pub place_of : Attribute → Range ℕ
place_of a = record { start = a.offset + 4; end = a.offset + 4 + length a.value }

abbrev pub plain_ipv4 : List ℕ → SocketAddrV4
plain_ipv4 value = xor_v4 (map (slice_index value) (4 ∷ 5 ∷ 6 ∷ 7 ∷ [])) (u16_at value 2)

abbrev pub plain_ipv6 : List ℕ → SocketAddrV6
plain_ipv6 value = xor_v6 (map (u16_at value) (4 ∷ 6 ∷ 8 ∷ 10 ∷ 12 ∷ 14 ∷ 16 ∷ 18 ∷ [])) (u16_at value 2)

-- section 14.1: an unread byte, the family (1 is IPv4, 2 is IPv6), the port, and the address of that family and no more
abbrev pub plain_addr : List ℕ → Option SocketAddr
plain_addr value =
    if (slice_index value 1 == 1) && (length value == 8) then Some (V4 (plain_ipv4 value))
    else (if (slice_index value 1 == 2) && (length value == 20) then Some (V6 (plain_ipv6 value))
    else None)

-- ERROR-CODE (section 14.8), if it is well formed
abbrev pub refusal_in : List ℕ → Option Refusal
refusal_in message = option_and_then error_code_of (value_in 0x0009 message)

-- XOR-MAPPED-ADDRESS (section 14.2)
abbrev pub mapped_in : List ℕ → Option SocketAddr
mapped_in message = option_and_then (λ value. xor_addr value (id_of message)) (value_in 0x0020 message)

-- ALTERNATE-SERVER (section 14.15)
abbrev pub alternate_in : List ℕ → Option SocketAddr
alternate_in message = option_and_then plain_addr (value_in 0x8023 message)

-- the reason of a well-formed ERROR-CODE is its value behind the first four bytes
abbrev pub reason_place : Attribute → Option (Range ℕ)
reason_place a = option_map (λ refusal. record (place_of a) { start = a.offset + 8 }) (error_code_of a.value)
