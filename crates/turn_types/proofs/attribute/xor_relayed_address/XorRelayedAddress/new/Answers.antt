use Rattle.turn_types.proofs.XorLemmas.{xor_addr-xor_value, xor_value-plain}
use Rattle.turn_types.proofs.attribute.xor_relayed_address.XorRelayedAddress.new.Goals as goal

pub returns-clause-again : goal.returns-clause-again
returns-clause-again c = λ id small.
    rw (c.new.ensures, c.plain.ensures.plain, xor_value-plain c.args.addr id)
    (xor_addr-xor_value c.args.addr id (rw (← c.plain.ensures.plain) c.plain.ensures.in_range) small)
