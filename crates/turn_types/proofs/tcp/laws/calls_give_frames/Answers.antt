use Rattle.turn_types.proofs.RunLemmas.{run_of-GivesFrames, run_of-broken_stream}
use Rattle.turn_types.proofs.tcp.laws.calls_give_frames.Goals as goal

pub returns-clause-all : goal.returns-clause-all
returns-clause-all c = λ bytes calls. run_of-GivesFrames calls bytes

pub returns-clause-broken : goal.returns-clause-broken
returns-clause-broken c = run_of-broken_stream
