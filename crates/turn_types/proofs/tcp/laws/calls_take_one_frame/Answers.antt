use Rattle.turn_types.proofs.StepLemmas.{framed-drained, waiting-drained, breaking-drained, byte-drained}
use Rattle.turn_types.proofs.tcp.laws.calls_take_one_frame.Goals as goal

pub returns-clause-frame : goal.returns-clause-frame
returns-clause-frame g c = framed-drained

pub returns-clause-waits : goal.returns-clause-waits
returns-clause-waits g c = waiting-drained

pub returns-clause-breaks : goal.returns-clause-breaks
returns-clause-breaks g c = breaking-drained

pub returns-clause-byte : goal.returns-clause-byte
returns-clause-byte g c = byte-drained
