-- An address that is written is read back, except the parts that are not sent.
use Rattle.std.proofs.Common.{◌≡◌, ℕ, ◌^◌, ◌<◌, Some, refl}
use Rattle.std.specs.Net.Socket.{IsSocketAddr}
use Rattle.std.specs.declared.net.socket_addr.SocketAddr.{SocketAddr}
use Rattle.std.specs.declared.net.socket_addr.SocketAddr.TheVariants.{V4, V6}
use Rattle.turn_stun.specs.XorAddress.{plain, xor_addr, xor_value}
use Rattle.turn_stun.proofs.XorLemmas.{xor_addr-ipv4_value, xor_addr-ipv6_value}

pub xor_addr-xor_value : (addr : SocketAddr) (id : ℕ) → IsSocketAddr (plain addr) → id < 2 ^ 96 → xor_addr (xor_value addr id) id ≡ Some (plain addr)
xor_addr-xor_value (V4 a) id is small = xor_addr-ipv4_value a id is.0.0 is.1
xor_addr-xor_value (V6 a) id is small = xor_addr-ipv6_value a id is.0 is.1 small

-- the parts that are not sent make no difference
pub xor_value-plain : (addr : SocketAddr) (id : ℕ) → xor_value (plain addr) id ≡ xor_value addr id
xor_value-plain (V4 a) id = refl
xor_value-plain (V6 a) id = refl
