use Rattle.turn_session_lines.proofs.CallableLemmas.{callable_line_of_session}
use Rattle.turn_session_hostile.proofs.trace.call_of.Goals as goal

pub returns-in-Ok : goal.returns-in-Ok
returns-in-Ok c = callable_line_of_session c.args.line.now c.in-Ok.call c.in-Ok.ensures
