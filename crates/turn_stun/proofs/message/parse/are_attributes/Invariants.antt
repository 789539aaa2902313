use Rattle.std.proofs.Common.{◌≡◌, ℕ, length, is_some}
use Rattle.turn_stun.specs.Message.{attributes_from}
use Rattle.turn_stun.proofs.message.parse.are_attributes.Given as goal

-- the walk over what is left ends as the whole walk does
abbrev pub invariant-loop-rest : goal.invariant-loop-rest
invariant-loop-rest l = (at : ℕ) × (is_some (attributes_from 0 20 l.fn.bytes) ≡ is_some (attributes_from 0 at l.rest))

abbrev pub decreases-loop-rest : goal.decreases-loop-rest
decreases-loop-rest l = length l.rest
