use Rattle.std.proofs.Common.{◌≡◌, false, rules}
use Rattle.std.specs.Prelude.{is_some}
use Rattle.turn_session.proofs.UsesLemmas.{received-unused}
use Rattle.turn_session.proofs.session.Session.recv.Goals as goal

pub returns-then-not-is_on-clause-answer : goal.returns-then-not-is_on-clause-answer
returns-then-not-is_on-clause-answer g c =
    let t = c.args.transmit in
    let called = c.recv_channel_datagram in
    let off : is_some c.args.self.now.idle.idle ≡ false = search rules in
    let same : called.new.self.idle ≡ c.args.self.now.idle = search rules in
    received-unused t.transport t.from t.to (g.T.AsSlice.items t.payload) c.args.now c.args.self.now called.new.self
    called.result called.ensures.answer off same
