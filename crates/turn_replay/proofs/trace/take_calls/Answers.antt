use Rattle.std.proofs.Common.{◌+◌, arith, vec_len}
use Rattle.std.proofs.lemmas.Result.{err_from_is_err_and}
use Rattle.turn_replay.specs.Trace.{calls_of}
use Rattle.turn_replay.proofs.TraceLemmas.{goes_on, stops, ends}
use Rattle.turn_replay.proofs.trace.take_calls.Goals as goal

pub returns-in_err-call : goal.returns-in_err-call
returns-in_err-call c =
    let p = err_from_is_err_and c.from_residual.result c.from_residual.ensures.1 in
    rw (p.1, p.2) (stops c.args.relays c.loop-line.calls.items (vec_len c.loop-line.calls + 2) c.loop-line.lines c.in-Some.line.now c.next.new.self c.in_err-call.field-0.0
    (calls_of c.args.relays 2 c.args.lines) c.in-Some.ensures (rw (← c.len.ensures) c.in_err-call.ensures) c.loop-line.invariant)

pub loop-line-preserved : goal.loop-line-preserved
loop-line-preserved c =
    goes_on c.args.relays c.loop-line.calls.items c.push.new.self.items (vec_len c.loop-line.calls + 2)
    (vec_len c.push.new.self + 2) c.loop-line.lines c.in-Some.line.now c.next.new.self c.in_ok-call.call (calls_of c.args.relays 2 c.args.lines)
    c.in-Some.ensures c.in_ok-push.ensures.items (omega (arith, c.in_ok-push.ensures.len)) (rw (← c.len.ensures) c.in_ok-call.ensures) c.loop-line.invariant

pub returns : goal.returns
returns c = ends c.args.relays c.loop-line.calls.items (vec_len c.loop-line.calls + 2) c.loop-line.lines (calls_of c.args.relays 2 c.args.lines) c.in_default.ensures.0 c.loop-line.invariant
