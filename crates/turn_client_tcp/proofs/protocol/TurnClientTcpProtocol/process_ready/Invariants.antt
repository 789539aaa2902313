use Rattle.turn_client_api.specs.Answers.{LeadsTo}
use Rattle.turn_client_laws.proofs.StreamWeightLemmas.{weight}
use Rattle.turn_client_tcp.proofs.TurnLemmas.{Rests}
use Rattle.turn_client_tcp.proofs.protocol.TurnClientTcpProtocol.process_ready.Given as goal

abbrev pub invariant-loop-stream : goal.invariant-loop-stream
invariant-loop-stream l = record {
  rests : Rests l.now l.fn.self l.self;
  led : LeadsTo l.now l.fn.self l.self;
}

abbrev pub decreases-loop-stream : goal.decreases-loop-stream
decreases-loop-stream l = weight l.self.streams
