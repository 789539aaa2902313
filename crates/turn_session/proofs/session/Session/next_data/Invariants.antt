use Rattle.std.proofs.Common.{ℕ, length}
use Rattle.turn_session.specs.Framing.{GivesNoData}
use Rattle.turn_session.proofs.session.Session.next_data.Given as goal

abbrev pub invariant-loop-given : goal.invariant-loop-given
invariant-loop-given g l = (n : ℕ) × GivesNoData n l.now l.fn.self l.self

abbrev pub decreases-loop-given : goal.decreases-loop-given
decreases-loop-given g l = length l.self.frames.bytes
