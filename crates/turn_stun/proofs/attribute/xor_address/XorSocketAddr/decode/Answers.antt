use Rattle.std.proofs.Common.{arith}
use Rattle.turn_stun.proofs.XorLemmas.{ipv4_value-xor_ipv4, ipv6_value-xor_ipv6}
use Rattle.turn_stun.proofs.attribute.xor_address.XorSocketAddr.decode.Goals as goal

pub returns-then-value-eq-IPV4-clause-again : goal.returns-then-value-eq-IPV4-clause-again
returns-then-value-eq-IPV4-clause-again c =
    rw (c.new.ensures, c.ipv4_of.ensures)
    (ipv4_value-xor_ipv4 c.args.value.now c.if-value-eq8.true c.if-value-eq-IPV4.true (λ i. omega (arith, c.type_inv.value i)))

pub returns-then-value-eq-IPV6-clause-again : goal.returns-then-value-eq-IPV6-clause-again
returns-then-value-eq-IPV6-clause-again c =
    rw (c.new-then-value-eq-IPV6.ensures, c.ipv6_of.ensures)
    (ipv6_value-xor_ipv6 c.args.value.now c.args.id c.if-value-eq20.true c.if-value-eq-IPV6.true (λ i. omega (arith, c.type_inv.value i)))
