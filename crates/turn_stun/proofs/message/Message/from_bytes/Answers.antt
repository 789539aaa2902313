use Rattle.std.proofs.Common.{refl, sym, ◌∙◌}
use Rattle.turn_stun.proofs.FaultLemmas.{fault_of-none, IsMessage-no_fault, attributes_of-is, no_fault-IsFaultless}
use Rattle.turn_stun.proofs.message.Message.from_bytes.Goals as goal

pub returns-in-Some-clause-only : goal.returns-in-Some-clause-only
returns-in-Some-clause-only c = λ type id attributes is.
    let none = IsMessage-no_fault c.args.bytes.now type id attributes is in
    absurd (cc (c.fault_in.ensures, none, c.in-Some.is))

pub returns-in-None-clause-found : goal.returns-in-None-clause-found
returns-in-None-clause-found c = (refl, fault_of-none c.args.bytes.now (sym c.fault_in.ensures ∙ c.in-None.is))

pub returns-in-None-clause-only : goal.returns-in-None-clause-only
returns-in-None-clause-only c = λ type id attributes is. (refl, attributes_of-is c.args.bytes.now type id attributes is)

pub invariant_of-result : goal.invariant_of-result
invariant_of-result c = no_fault-IsFaultless c.args.bytes.now (sym c.fault_in.ensures ∙ c.in-None.is)
