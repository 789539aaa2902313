use Rattle.turn_session.proofs.UsesLemmas.{failed-unused, received-use}
use Rattle.turn_session.proofs.session.Session.recv_used.Goals as goal

pub returns-clause-answer : goal.returns-clause-answer
returns-clause-answer g c =
    let t = c.args.transmit in
    let called = c.recv_bytes-answer in
    received-use t.transport t.from t.to (g.T.AsSlice.items t.payload) c.args.now c.args.self.now called.new.self c.note_use.new.self
    called.result called.ensures.answer c.note_use.ensures

pub returns-clause-no_memory : goal.returns-clause-no_memory
returns-clause-no_memory g c =
    let t = c.args.transmit in
    let called = c.recv_bytes-answer in
    failed-unused t.transport t.from t.to (g.T.AsSlice.items t.payload) c.args.now c.args.self.now called.new.self c.note_use.new.self
    called.result called.ensures.no_memory c.note_use.ensures
