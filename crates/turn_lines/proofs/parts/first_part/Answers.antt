use Rattle.turn_lines.proofs.PartsLemmas.{parts_of_found, parts_of_none}
use Rattle.turn_lines.proofs.parts.first_part.Goals as goal

pub returns-in-Some : goal.returns-in-Some
returns-in-Some c = parts_of_found c.args.separator c.args.text.now c.in-Some.at c.in-Some.ensures

pub returns-in-None : goal.returns-in-None
returns-in-None c = parts_of_none c.args.separator c.args.text.now c.in-None.ensures
