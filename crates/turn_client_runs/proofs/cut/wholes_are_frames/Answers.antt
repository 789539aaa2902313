use Rattle.turn_client_runs.proofs.PieceLemmas.{unmeant-whole}
use Rattle.turn_client_runs.proofs.WholeLemmas.{whole-front}
use Rattle.turn_client_runs.proofs.cut.wholes_are_frames.Goals as goal

pub returns-clause-front : goal.returns-clause-front
returns-clause-front c = whole-front

pub returns-clause-unmeant : goal.returns-clause-unmeant
returns-clause-unmeant c = λ local now s bytes quiet broken. unmeant-whole local now s quiet bytes broken
