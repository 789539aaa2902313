use Rattle.std.proofs.Common.{◌≡◌, ◌+◌, length, vec_len}
use Rattle.turn_replay.specs.Trace.{calls_of}
use Rattle.turn_replay.proofs.TraceLemmas.{with_front}
use Rattle.turn_replay.proofs.trace.take_calls.Given as goal

abbrev pub invariant-loop-line : goal.invariant-loop-line
invariant-loop-line l = with_front l.calls.items (calls_of l.relays (vec_len l.calls + 2) l.lines) ≡ calls_of l.relays 2 l.initial.lines

abbrev pub decreases-loop-line : goal.decreases-loop-line
decreases-loop-line l = length l.lines
