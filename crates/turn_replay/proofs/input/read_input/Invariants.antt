use Rattle.turn_replay.proofs.InputLemmas.{Kept}
use Rattle.turn_replay.proofs.input.read_input.Given as goal

abbrev pub invariant-loop : goal.invariant-loop
invariant-loop g l = Kept (g.R.Read.remaining l.initial.reader) (g.R.Read.remaining l.reader) l.input.items
