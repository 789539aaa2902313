-- IP addresses are compared as numbers, and each has its family.
use Rattle.std.specs.Prelude.{◌==◌, Bool, true, false}
use Rattle.std.specs.Cmp.Lexicographic.{pointwise}
use Rattle.std.specs.Net.Addr.{ipv4_octets, ipv6_segments}
use Rattle.std.specs.declared.net.ip_addr.IpAddr.{IpAddr}
use Rattle.std.specs.declared.net.ip_addr.IpAddr.TheVariants.{V4, V6}
use Rattle.turn_types.specs.declared.family.AddressFamily.{AddressFamily}
use Rattle.turn_types.specs.declared.family.AddressFamily.TheVariants.{IPV4, IPV6}

abbrev pub same_ip : IpAddr → IpAddr → Bool
same_ip (V4 a) (V4 b) = pointwise ◌==◌ (ipv4_octets a) (ipv4_octets b)
same_ip (V6 a) (V6 b) = pointwise ◌==◌ (ipv6_segments a) (ipv6_segments b)
same_ip _ _ = false

abbrev pub family_of_ip : IpAddr → AddressFamily
family_of_ip (V4 a) = IPV4
family_of_ip (V6 a) = IPV6

abbrev pub same_family : AddressFamily → AddressFamily → Bool
same_family IPV4 IPV4 = true
same_family IPV6 IPV6 = true
same_family _ _ = false
