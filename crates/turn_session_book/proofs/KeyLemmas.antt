-- Keys that are the same.
use Rattle.std.proofs.Common.{◌≡◌, ℕ, true, List, sym, ap, eqb, ◌&&◌, ◌∙◌}
use Rattle.std.proofs.lemmas.Bool.{and_parts, eqb-true}
use Rattle.std.specs.Cmp.Lexicographic.{pointwise, same_text}
use Rattle.std.specs.Net.Addr.{ipv4_octets, ipv6_segments}
use Rattle.std.specs.Net.Socket.{v4_ip, v4_port, v6_ip, v6_port, v6_flowinfo, v6_scope_id}
use Rattle.std.specs.declared.net.ip_addr.IpAddr.{IpAddr}
use Rattle.std.specs.declared.net.ip_addr.IpAddr.TheVariants.{V4, V6}
use Rattle.std.specs.declared.net.ipv4_addr.Ipv4Addr.{Ipv4Addr}
use Rattle.std.specs.declared.net.ipv6_addr.Ipv6Addr.{Ipv6Addr}
use Rattle.std.specs.declared.net.socket_addr.SocketAddr.{SocketAddr}
use Rattle.std.specs.declared.net.socket_addr.SocketAddr.TheVariants as At
use Rattle.turn_session_book.specs.Addresses.{same_ip}
use Rattle.turn_session_book.specs.Keys.{same_key, same_peer}
use Rattle.turn_session_book.specs.declared.keys.Key.{Key}
use Rattle.turn_session_book.specs.declared.keys.Key.TheVariants.{Permission, Channel, Connect}

abbrev ipv4 : List ℕ → Ipv4Addr
ipv4 octets = record { octets = octets }

abbrev ipv6 : List ℕ → Ipv6Addr
ipv6 segments = record { segments = segments }

same_ip-true : (a b : IpAddr) → same_ip a b ≡ true → a ≡ b
same_ip-true (V4 a) (V4 b) h = ap (λ (o : List ℕ). V4 (ipv4 o)) (same_text (ipv4_octets a) (ipv4_octets b) (sym h))
same_ip-true (V6 a) (V6 b) h = ap (λ (o : List ℕ). V6 (ipv6 o)) (same_text (ipv6_segments a) (ipv6_segments b) (sym h))
same_ip-true a b h = cc

-- ---- an address and its port

abbrev socket_v4 : List ℕ → ℕ → SocketAddr
socket_v4 octets port = At.V4 (record { ip = ipv4 octets; port = port })

abbrev socket_v6 : List ℕ → ℕ → ℕ → ℕ → SocketAddr
socket_v6 segments port flowinfo scope_id = At.V6 (record { ip = ipv6 segments; port = port; flowinfo = flowinfo; scope_id = scope_id })

same_peer-true : (a b : SocketAddr) → same_peer a b ≡ true → a ≡ b
same_peer-true (At.V4 a) (At.V4 b) h =
    let parts = and_parts (pointwise eqb (ipv4_octets (v4_ip a)) (ipv4_octets (v4_ip b))) (eqb (v4_port a) (v4_port b)) h in
    ap (λ o. socket_v4 o (v4_port a)) (same_text (ipv4_octets (v4_ip a)) (ipv4_octets (v4_ip b)) (sym parts.0))
    ∙ ap (socket_v4 (ipv4_octets (v4_ip b))) (eqb-true (v4_port a) (v4_port b) parts.1)
same_peer-true (At.V6 a) (At.V6 b) h =
    let scope = and_parts (pointwise eqb (ipv6_segments (v6_ip a)) (ipv6_segments (v6_ip b)) && eqb (v6_port a) (v6_port b) && eqb (v6_flowinfo a) (v6_flowinfo b))
    (eqb (v6_scope_id a) (v6_scope_id b)) h in
    let flow = and_parts (pointwise eqb (ipv6_segments (v6_ip a)) (ipv6_segments (v6_ip b)) && eqb (v6_port a) (v6_port b)) (eqb (v6_flowinfo a) (v6_flowinfo b)) scope.0 in
    let ip = and_parts (pointwise eqb (ipv6_segments (v6_ip a)) (ipv6_segments (v6_ip b))) (eqb (v6_port a) (v6_port b)) flow.0 in
    ap (λ o. socket_v6 o (v6_port a) (v6_flowinfo a) (v6_scope_id a)) (same_text (ipv6_segments (v6_ip a)) (ipv6_segments (v6_ip b)) (sym ip.0))
    ∙ (ap (λ n. socket_v6 (ipv6_segments (v6_ip b)) n (v6_flowinfo a) (v6_scope_id a)) (eqb-true (v6_port a) (v6_port b) ip.1)
    ∙ (ap (λ n. socket_v6 (ipv6_segments (v6_ip b)) (v6_port b) n (v6_scope_id a)) (eqb-true (v6_flowinfo a) (v6_flowinfo b) flow.1)
    ∙ ap (socket_v6 (ipv6_segments (v6_ip b)) (v6_port b) (v6_flowinfo b)) (eqb-true (v6_scope_id a) (v6_scope_id b) scope.1)))
same_peer-true a b h = cc

-- ---- keys

pub same_key-true : (a b : Key) → same_key a b ≡ true → a ≡ b
same_key-true (Permission a) (Permission b) h = ap Permission (same_ip-true a b h)
same_key-true (Channel a) (Channel b) h = ap Channel (same_peer-true a b h)
same_key-true (Connect a) (Connect b) h = ap Connect (same_peer-true a b h)
same_key-true a b h = cc
