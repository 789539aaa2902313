use Rattle.turn_c_calls.proofs.hints.read_attribute.Goals as goal

pub returns : goal.returns
returns c = (c.first_frame.result, c.first_frame.ensures, c.set_place.ensures)
