use Rattle.turn_types.proofs.SplitLemmas.{frames_of-AreFrames, AreFrames-frames_of}
use Rattle.turn_types.proofs.tcp.laws.frames_are_unique.Goals as goal

pub returns-clause-are : goal.returns-clause-are
returns-clause-are c = frames_of-AreFrames

pub returns-clause-only : goal.returns-clause-only
returns-clause-only c = AreFrames-frames_of
