-- What a hasher is fed for a key.
use Rattle.std.specs.Prelude.{ℕ, ◌*◌, ◌%◌, ◌^◌, List, ◌++◌, bit_or}
use Rattle.std.specs.Hash as fed
use Rattle.std.specs.Net.Addr.{ipv4_bits, ipv6_bits}
use Rattle.std.specs.Net.Socket.{v4_ip, v4_port, v6_ip, v6_port}
use Rattle.std.specs.declared.net.ip_addr.IpAddr.TheVariants as Ip
use Rattle.std.specs.declared.net.socket_addr.SocketAddr.TheVariants as Socket
use Rattle.turn_client_grants.specs.declared.key.Key.{Key}
use Rattle.turn_client_grants.specs.declared.key.Key.TheVariants as By

-- the calls of `write` that hash a key
abbrev pub key_writes : Key → List (List ℕ)
key_writes (By.Number number) = fed.u64 number
key_writes (By.Peer (Socket.V4 peer)) = fed.u64 (bit_or (bit_or (2 ^ 48) ((ipv4_bits (v4_ip peer) * 2 ^ 16) % 2 ^ 64)) (v4_port peer))
key_writes (By.Peer (Socket.V6 peer)) = fed.u128 (ipv6_bits (v6_ip peer)) ++ fed.u64 (bit_or (2 ^ 16) (v6_port peer))
key_writes (By.Ip (Ip.V4 ip)) = fed.u64 (bit_or (2 ^ 49) (ipv4_bits ip))
key_writes (By.Ip (Ip.V6 ip)) = fed.u128 (ipv6_bits ip)
