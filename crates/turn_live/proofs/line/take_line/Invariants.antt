use Rattle.turn_live.proofs.LineLemmas.{IsBegun}
use Rattle.turn_live.proofs.line.take_line.Given as goal

abbrev pub invariant-loop : goal.invariant-loop
invariant-loop g l = IsBegun (g.R.Read.remaining l.initial.reader) (g.R.Read.remaining l.reader) l.line.items
