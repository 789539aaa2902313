use Rattle.std.proofs.lemmas.List.{take_rest}
use Rattle.turn_stun.proofs.FaultLemmas.{fault_of-none, fault_of-walked}
use Rattle.turn_stun.proofs.PlaceLemmas.{seen_of-within, seen_of-values}
use Rattle.turn_stun.proofs.message.Message.iter_attributes.Goals as goal

pub new-requires-clause-whole : goal.new-requires-clause-whole
new-requires-clause-whole c = rw (take_rest c.self.inside.bytes.now 20) (fault_of-walked c.self.inside.bytes.now c.self.invariant.none)

pub returns-clause-within : goal.returns-clause-within
returns-clause-within c = rw (← c.self.view_is) (seen_of-within c.self.inside.bytes.now (fault_of-none c.self.inside.bytes.now c.self.invariant.none))

pub returns-clause-values : goal.returns-clause-values
returns-clause-values c = rw (← c.self.view_is) (seen_of-values c.self.inside.bytes.now (fault_of-none c.self.inside.bytes.now c.self.invariant.none))
