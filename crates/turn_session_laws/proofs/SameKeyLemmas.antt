-- A key is the same as itself.
use Rattle.std.proofs.Common.{◌≡◌, ℕ, true, List, refl, eqb}
use Rattle.std.proofs.lemmas.Bool.{eq-eqb}
use Rattle.std.proofs.lemmas.Slice.Eq.{bytes_eq-Decides}
use Rattle.std.specs.Cmp.Lexicographic.{pointwise}
use Rattle.std.specs.Net.Addr.{ipv4_octets, ipv6_segments}
use Rattle.std.specs.Net.Socket.{v4_ip, v4_port, v6_ip, v6_port, v6_flowinfo, v6_scope_id}
use Rattle.std.specs.declared.net.ip_addr.IpAddr.{IpAddr}
use Rattle.std.specs.declared.net.ip_addr.IpAddr.TheVariants.{V4, V6}
use Rattle.std.specs.declared.net.socket_addr.SocketAddr.{SocketAddr}
use Rattle.std.specs.declared.net.socket_addr.SocketAddr.TheVariants as At
use Rattle.turn_session_book.specs.Addresses.{same_ip}
use Rattle.turn_session_book.specs.Keys.{same_key, same_peer}
use Rattle.turn_session_book.specs.declared.keys.Key.{Key}
use Rattle.turn_session_book.specs.declared.keys.Key.TheVariants.{Permission, Channel, Connect}

eqb-self : (n : ℕ) → eqb n n ≡ true
eqb-self n = eq-eqb n n refl

list-self : (xs : List ℕ) → pointwise eqb xs xs ≡ true
list-self xs = (bytes_eq-Decides xs xs).1 refl

ip-self : (a : IpAddr) → same_ip a a ≡ true
ip-self (V4 a) = list-self (ipv4_octets a)
ip-self (V6 a) = list-self (ipv6_segments a)

peer-self : (a : SocketAddr) → same_peer a a ≡ true
peer-self (At.V4 a) = rw (list-self (ipv4_octets (v4_ip a)), eqb-self (v4_port a)) refl
peer-self (At.V6 a) = rw (list-self (ipv6_segments (v6_ip a)), eqb-self (v6_port a), eqb-self (v6_flowinfo a), eqb-self (v6_scope_id a)) refl

pub same_key-self : (key : Key) → same_key key key ≡ true
same_key-self (Permission ip) = ip-self ip
same_key-self (Channel peer) = peer-self peer
same_key-self (Connect peer) = peer-self peer
