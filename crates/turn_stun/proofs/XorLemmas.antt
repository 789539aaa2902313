-- XOR with a mask twice gives the same value, so an address is read as it was written.
use Rattle.std.proofs.Common.{◌≡◌, ℕ, zero, suc, ◌+◌, ◌*◌, ◌/◌, ◌%◌, ◌^◌, ◌<◌, ◌≤◌, List, [], ◌∷◌, length, get_or, take, drop, slice_index, Some, refl, sym, ap, ◌∙◌, arith, bit_xor}
use Rattle.std.specs.Int.Bits.{xor_self, xor_zero_r, xor_assoc}
use Rattle.std.proofs.lemmas.List.{drop_more, take_all}
use Rattle.std.proofs.lemmas.Nat.{xor_of_16}
use Rattle.std.specs.Net.Addr.{IsIpv6Addr, ipv4_octets, ipv6_segments}
use Rattle.std.specs.Net.Socket.{v4_ip, v4_port, v6_ip, v6_port}
use Rattle.std.specs.declared.net.socket_addr.SocketAddr.TheVariants.{V4, V6}
use Rattle.std.specs.declared.net.socket_addr.SocketAddrV4.{SocketAddrV4}
use Rattle.std.specs.declared.net.socket_addr.SocketAddrV6.{SocketAddrV6}
use Rattle.turn_stun.specs.XorAddress.{xor_addr, ipv4_value, ipv6_value, xor_ipv4, xor_ipv6, xor_v4, xor_v6, plain_v6}

pub xor_twice : (a m : ℕ) → bit_xor (bit_xor a m) m ≡ a
xor_twice a m = rw (xor_assoc a m m, xor_self m) (xor_zero_r a)

-- a list, cell by cell
cells_from : ℕ → ℕ → List ℕ → List ℕ
cells_from zero at xs = []
cells_from (suc n) at xs = get_or xs at 0 ∷ cells_from n (at + 1) xs

cells_from-drop : (n at : ℕ) (xs : List ℕ) → at + n ≤ length xs → cells_from n at xs ≡ take n (drop at xs)
unfolding cells_from
cells_from-drop zero at xs h = refl
cells_from-drop (suc n) at xs h =
    let inside : at < length xs = omega arith in
    rw (drop_more xs at 0 inside) (ap (λ ys. get_or xs at 0 ∷ ys) (cells_from-drop n (at + 1) xs (omega arith)))

cells_from-all : (n : ℕ) (xs : List ℕ) → length xs ≡ n → cells_from n 0 xs ≡ xs
cells_from-all n xs h = cells_from-drop n 0 xs (omega arith) ∙ take_all n xs (omega arith)

-- a number of two bytes is read again
two_bytes : (n : ℕ) → n < 2 ^ 16 → n / 256 % 256 * 256 + n % 256 ≡ n
two_bytes n h = omega arith

-- written with a mask and read with it
group_again : (n m : ℕ) → n < 2 ^ 16 → m < 2 ^ 16 → bit_xor (bit_xor n m / 256 % 256 * 256 + bit_xor n m % 256) m ≡ n
group_again n m h k = rw (two_bytes (bit_xor n m) (xor_of_16 n m h k)) (xor_twice n m)

-- read with a mask and written with it
high_again : (a b m : ℕ) → a < 256 → b < 256 → bit_xor (bit_xor (a * 256 + b) m) m / 256 % 256 ≡ a
high_again a b m h k = rw (xor_twice (a * 256 + b) m) (omega arith)

low_again : (a b m : ℕ) → b < 256 → bit_xor (bit_xor (a * 256 + b) m) m % 256 ≡ b
low_again a b m k = rw (xor_twice (a * 256 + b) m) (omega arith)

same_v4 : (a : SocketAddrV4) (octets : List ℕ) (port : ℕ) → octets ≡ ipv4_octets (v4_ip a) → port ≡ v4_port a → xor_v4 octets port ≡ a
same_v4 a octets port o p = rw (o, p) refl

same_v6 : (a : SocketAddrV6) (segments : List ℕ) (port : ℕ) → segments ≡ ipv6_segments (v6_ip a) → port ≡ v6_port a → xor_v6 segments port ≡ plain_v6 a
same_v6 a segments port o p = rw (o, p) refl

-- the encoding of an IPv4 address is read again
pub xor_addr-ipv4_value : (a : SocketAddrV4) (id : ℕ) → length (ipv4_octets (v4_ip a)) ≡ 4 → v4_port a < 2 ^ 16 → xor_addr (ipv4_value a) id ≡ Some (V4 a)
unfolding cells_from
xor_addr-ipv4_value a id four port =
    let o = ipv4_octets (v4_ip a) in
    let octets : bit_xor (bit_xor (get_or o 0 0) 0x21) 0x21 ∷ bit_xor (bit_xor (get_or o 1 0) 0x12) 0x12 ∷ bit_xor (bit_xor (get_or o 2 0) 0xa4) 0xa4 ∷ bit_xor
    (bit_xor (get_or o 3 0) 0x42) 0x42 ∷ [] ≡ o =
    rw (xor_twice (get_or o 0 0) 0x21, xor_twice (get_or o 1 0) 0x12, xor_twice (get_or o 2 0) 0xa4, xor_twice (get_or o 3 0) 0x42) (cells_from-all 4 o four) in
    ap (λ x. Some (V4 x)) (same_v4 a _ _ octets (group_again (v4_port a) 0x2112 port (omega arith)))

-- the encoding of an IPv6 address is read again
pub xor_addr-ipv6_value : (a : SocketAddrV6) (id : ℕ) → IsIpv6Addr (v6_ip a) → v6_port a < 2 ^ 16 → id < 2 ^ 96 → xor_addr (ipv6_value a id) id ≡ Some (V6 (plain_v6 a))
unfolding cells_from
xor_addr-ipv6_value a id is port short =
    let s = ipv6_segments (v6_ip a) in
    let segments : cells_from 8 0 s ≡ s = cells_from-all 8 s is.0 in
    ap (λ x. Some (V6 x)) (same_v6 a _ _ (rw (
      group_again (get_or s 0 0) 0x2112 (is.1 0) (omega arith),
      group_again (get_or s 1 0) 0xa442 (is.1 1) (omega arith),
      group_again (get_or s 2 0) (id / 2 ^ 80) (is.1 2) (omega arith),
      group_again (get_or s 3 0) (id / 2 ^ 64 % 2 ^ 16) (is.1 3) (omega arith),
      group_again (get_or s 4 0) (id / 2 ^ 48 % 2 ^ 16) (is.1 4) (omega arith),
      group_again (get_or s 5 0) (id / 2 ^ 32 % 2 ^ 16) (is.1 5) (omega arith),
      group_again (get_or s 6 0) (id / 2 ^ 16 % 2 ^ 16) (is.1 6) (omega arith),
      group_again (get_or s 7 0) (id % 2 ^ 16) (is.1 7) (omega arith),
    ) segments) (group_again (v6_port a) 0x2112 port (omega arith)))

-- after the unread byte and the family
past_family : (n family : ℕ) (value : List ℕ) → length value ≡ suc (suc n) → slice_index value 1 ≡ family → 0 ∷ family ∷ cells_from n 2 value ≡ 0 ∷ drop 1 value
unfolding cells_from
past_family n family value len is =
    ap (λ f. 0 ∷ f ∷ cells_from n 2 value) (sym is) ∙ ap (λ xs. 0 ∷ drop 1 xs) (cells_from-all (suc (suc n)) value len)

-- a decoded value of eight bytes is written again, except the unread byte
pub ipv4_value-xor_ipv4 : (value : List ℕ) → length value ≡ 8 → slice_index value 1 ≡ 1 → ((i : ℕ) → get_or value i 0 < 256) → ipv4_value (xor_ipv4 value) ≡ 0 ∷ drop 1 value
unfolding cells_from
ipv4_value-xor_ipv4 value eight family bytes =
    let v : ℕ → ℕ = λ i. get_or value i 0 in
    rw (
      high_again (v 2) (v 3) 0x2112 (bytes 2) (bytes 3),
      low_again (v 2) (v 3) 0x2112 (bytes 3),
      xor_twice (v 4) 0x21,
      xor_twice (v 5) 0x12,
      xor_twice (v 6) 0xa4,
      xor_twice (v 7) 0x42,
    ) (past_family 6 1 value eight family)

-- and likewise one of twenty
pub ipv6_value-xor_ipv6 : (value : List ℕ) (id : ℕ) → length value ≡ 20 → slice_index value 1 ≡ 2 → ((i : ℕ) → get_or value i 0 < 256) → ipv6_value (xor_ipv6 value id) id ≡ 0 ∷ drop 1 value
unfolding cells_from
ipv6_value-xor_ipv6 value id twenty family bytes =
    let v : ℕ → ℕ = λ i. get_or value i 0 in
    rw (
      high_again (v 2) (v 3) 0x2112 (bytes 2) (bytes 3),
      low_again (v 2) (v 3) 0x2112 (bytes 3),
      high_again (v 4) (v 5) 0x2112 (bytes 4) (bytes 5),
      low_again (v 4) (v 5) 0x2112 (bytes 5),
      high_again (v 6) (v 7) 0xa442 (bytes 6) (bytes 7),
      low_again (v 6) (v 7) 0xa442 (bytes 7),
      high_again (v 8) (v 9) (id / 2 ^ 80) (bytes 8) (bytes 9),
      low_again (v 8) (v 9) (id / 2 ^ 80) (bytes 9),
      high_again (v 10) (v 11) (id / 2 ^ 64 % 2 ^ 16) (bytes 10) (bytes 11),
      low_again (v 10) (v 11) (id / 2 ^ 64 % 2 ^ 16) (bytes 11),
      high_again (v 12) (v 13) (id / 2 ^ 48 % 2 ^ 16) (bytes 12) (bytes 13),
      low_again (v 12) (v 13) (id / 2 ^ 48 % 2 ^ 16) (bytes 13),
      high_again (v 14) (v 15) (id / 2 ^ 32 % 2 ^ 16) (bytes 14) (bytes 15),
      low_again (v 14) (v 15) (id / 2 ^ 32 % 2 ^ 16) (bytes 15),
      high_again (v 16) (v 17) (id / 2 ^ 16 % 2 ^ 16) (bytes 16) (bytes 17),
      low_again (v 16) (v 17) (id / 2 ^ 16 % 2 ^ 16) (bytes 17),
      high_again (v 18) (v 19) (id % 2 ^ 16) (bytes 18) (bytes 19),
      low_again (v 18) (v 19) (id % 2 ^ 16) (bytes 19),
    ) (past_family 18 2 value twenty family)
