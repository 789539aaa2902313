use Rattle.std.proofs.Common.{◌≡◌}
use Rattle.turn_stun.specs.Attributes.{seen_of, nth_of}
use Rattle.turn_stun.specs.Iterator.{attributes_left}
use Rattle.turn_stun.proofs.message.Message.nth_raw_attribute.Given as goal

-- the requested one is among those that are left, after fewer others
abbrev pub invariant-loop-offset : goal.invariant-loop-offset
invariant-loop-offset l =
    nth_of l.attribute_type.value l.before (attributes_left l.offset-iterator) ≡ nth_of l.attribute_type.value l.n (seen_of l.self)
