use Rattle.std.proofs.Common.{◌≡◌}
use Rattle.turn_stun.specs.Attributes.{seen_of, first_of}
use Rattle.turn_stun.specs.Iterator.{attributes_left}
use Rattle.turn_stun.proofs.message.Message.raw_attribute.Given as goal

-- the first one is among those that are left
abbrev pub invariant-loop-offset : goal.invariant-loop-offset
invariant-loop-offset l =
    first_of l.attribute_type.value (attributes_left l.offset-iterator) ≡ first_of l.attribute_type.value (seen_of l.self)
