use Rattle.turn_c_calls.proofs.hints.hints_over.Goals as goal

pub returns-in-Some : goal.returns-in-Some
returns-in-Some c = rw c.in-Some.is (c.first_frame.result, c.first_frame.ensures, c.hints_of.ensures)
