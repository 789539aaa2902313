use Rattle.turn_stun.proofs.XorLemmas.{xor_addr-ipv4_value, xor_addr-ipv6_value}
use Rattle.turn_stun.proofs.attribute.xor_address.XorSocketAddr.encode.Goals as goal

pub returns-in-V4-clause-again : goal.returns-in-V4-clause-again
returns-in-V4-clause-again c =
    rw (c.copy_from_slice.ensures.after, c.ipv4_value.ensures.value, ← c.self.view_is, c.in-V4.is)
    (xor_addr-ipv4_value c.in-V4.addr c.args.id c.ipv4_value.ensures.octets c.ipv4_value.ensures.port)

pub returns-in-V6-clause-again : goal.returns-in-V6-clause-again
returns-in-V6-clause-again c =
    rw (c.copy_from_slice-in-V6.ensures.after, c.ipv6_value.ensures.value, ← c.self.view_is, c.in-V6.is)
    (xor_addr-ipv6_value c.in-V6.addr c.args.id c.ipv6_value.ensures.segments c.ipv6_value.ensures.port c.ipv6_value.ensures.id)
