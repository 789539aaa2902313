use Rattle.turn_client_tcp.proofs.protocol.TurnClientTcpProtocol.broken_piece.Goals as goal

pub returns-then-eq-clause-hands_back : goal.returns-then-eq-clause-hands_back
returns-then-eq-clause-hands_back g c = λ transmit. c.then_all.ensures.hands_back transmit tt
