use Rattle.std.proofs.Common.{◌≡◌, rules}
use Rattle.turn_client_api.specs.Answers.{outcome_of}
use Rattle.turn_session.proofs.ChannelDataLemmas.{on-ok-is, receives-noted}
use Rattle.turn_session.proofs.session.Session.recv_channel_datagram.Goals.{in-Ok-Ignored, in_default, in_default-2}
use Rattle.turn_session.proofs.session.Session.recv_channel_datagram.Goals as goal

pub returns-then-not-matches-clause-answer : goal.returns-then-not-matches-clause-answer
returns-then-not-matches-clause-answer g c =
    let called = c.recv_channel_datagram-answer in
    let t = c.args.transmit in
    let bytes = g.T.AsSlice.items t.payload in
    let kept : c.args.self.now.noted ≡ c.self.inside.noted = search rules in
    on-ok-is called.result called.ensures.answer
    (λ answer is said. receives-noted t.transport t.from t.to bytes c.args.now c.args.self.now _ c.self.inside.noted (outcome_of answer)
    c.requires.channel kept said (elim c.match-matches.branch [
      | in-Ok-Ignored w ↦ search rules
      | in_default w ↦ search rules
      | in_default-2 w ↦ search rules
    ]))

pub returns-else-not-matches-clause-answer : goal.returns-else-not-matches-clause-answer
returns-else-not-matches-clause-answer g c =
    let called = c.recv_channel_datagram-answer in
    let t = c.args.transmit in
    let bytes = g.T.AsSlice.items t.payload in
    let kept : c.args.self.now.noted ≡ c.self.inside.noted = search rules in
    on-ok-is called.result called.ensures.answer
    (λ answer is said. receives-noted t.transport t.from t.to bytes c.args.now c.args.self.now _ c.self.inside.noted (outcome_of answer)
    c.requires.channel kept said (elim c.match-matches.branch [
      | in-Ok-Ignored w ↦ search rules
      | in_default w ↦ search rules
      | in_default-2 w ↦ search rules
    ]))
