use Rattle.turn_stun.proofs.WriteLemmas.{header_of-IsMessage, header_of-IsWritten}
use Rattle.turn_stun.proofs.message.write.MessageWriteVec.builder_with_capacity.Goals as goal

pub invariant_of-result : goal.invariant_of-result
invariant_of-result c =
    rw (c.in_ok-extend_from_slice.ensures.items, c.in_ok-bytes.ensures.items, c.header_of.ensures.text)
    (header_of-IsWritten _ _ c.header_of.ensures.type_range c.header_of.ensures.id_range)

pub returns-clause-message : goal.returns-clause-message
returns-clause-message c =
    rw (c.in_ok-extend_from_slice.ensures.items, c.in_ok-bytes.ensures.items, c.header_of.ensures.text)
    (header_of-IsMessage _ _ c.header_of.ensures.type_range c.header_of.ensures.id_range)
