use Rattle.std.proofs.Common.{◌≡◌, length}
use Rattle.turn_stun.specs.Iterator.{attributes_left, attributes_ahead}
use Rattle.turn_stun.proofs.message.attributes.MessageAttributesIterIterator.next.Given as goal

-- only attributes that are not seen were passed
abbrev pub invariant-loop-offset : goal.invariant-loop-offset
invariant-loop-offset l = attributes_left l.self ≡ attributes_left l.fn.self

abbrev pub decreases-loop-offset : goal.decreases-loop-offset
decreases-loop-offset l = length (attributes_ahead l.self.walk)
