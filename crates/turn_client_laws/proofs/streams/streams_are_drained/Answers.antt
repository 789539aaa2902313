use Rattle.turn_client_laws.proofs.StreamDrainLemmas.{piece-drained, poll_recv-drained, poll_recv-enough}
use Rattle.turn_client_laws.proofs.StreamFewerLemmas.{poll_recv-fewer}
use Rattle.turn_client_laws.proofs.StreamShortLemmas.{drained-short}
use Rattle.turn_client_laws.proofs.streams.streams_are_drained.Goals as goal

pub returns : goal.returns
returns c = record {
  drained = poll_recv-drained;
  piece = piece-drained;
  short = drained-short;
  enough = poll_recv-enough;
  fewer = poll_recv-fewer;
}
