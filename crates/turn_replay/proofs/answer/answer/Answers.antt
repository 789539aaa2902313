use Rattle.turn_replay.proofs.ReadyLemmas.{allocation_of_trace, calls_are_callable}
use Rattle.turn_replay.proofs.answer.answer.Goals as goal

pub answered_text-requires-clause-allocation : goal.answered_text-requires-clause-allocation
answered_text-requires-clause-allocation c = allocation_of_trace c.args.text.now c.in-Ok.trace.head c.in-Ok.trace.calls.items c.in-Ok.ensures

pub answered_text-requires-clause-callable : goal.answered_text-requires-clause-callable
answered_text-requires-clause-callable c = calls_are_callable c.args.text.now c.in-Ok.trace.head c.in-Ok.trace.calls.items c.in-Ok.ensures
