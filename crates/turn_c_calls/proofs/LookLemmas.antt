-- What is answered to a request that only looks, by what became of it.
use Rattle.std.proofs.Common.{◌≡◌, Result, Ok, Err}
use Rattle.turn_c_calls.specs.Answer.{of_kind}
use Rattle.turn_c_calls.specs.Judge.{fault_code}
use Rattle.turn_c_calls.specs.Look.{LacksSight, Looks, look_answer}
use Rattle.turn_c_calls.specs.declared.answer.Answer.{Answer}
use Rattle.turn_c_calls.specs.declared.fault.Fault.{Fault}

pub looked_so : (sight : Result (Answer → Answer) Fault) (a b : Answer) → Looks sight a b → b ≡ look_answer sight a
looked_so (Ok says) a b h = h
looked_so (Err fault) a b h = absurd h

pub looked_not : (sight : Result (Answer → Answer) Fault) (fault : Fault) (a b : Answer) → LacksSight sight fault a b
    → of_kind (fault_code fault) b ≡ look_answer sight a
looked_not (Ok says) fault a b h = absurd h
looked_not (Err refused) fault a b h = λ i. of_kind (fault_code (h.0 i)) (h.1 i)
