use Rattle.std.proofs.Common.{rules, ◌≡◌, sym, subst}
use Rattle.turn_session_client.specs.NotedState.{NotedState}
use Rattle.turn_session_client.specs.Receiving as Client
use Rattle.turn_session.proofs.session.Session.pass_in.Goals as goal

pub returns-clause-after : goal.returns-clause-after
returns-clause-after g c =
    let kept : c.if-not-matches.self.noted ≡ c.recv.new.self = search rules in
    let was : c.args.self.now.noted ≡ c.self.inside.noted = search rules in
    let after : Client.Receives c.args.transmit.transport c.args.transmit.from c.args.transmit.to (g.T.AsSlice.items c.args.transmit.payload)
    c.args.now c.args.self.now.noted c.recv.new.self = subst (λ (noted : NotedState). Client.Receives c.args.transmit.transport
    c.args.transmit.from c.args.transmit.to (g.T.AsSlice.items c.args.transmit.payload) c.args.now noted c.recv.new.self)
    (sym was) c.in_ok-answer.ensures.after in (
      subst (λ (noted : NotedState). Client.Receives c.args.transmit.transport c.args.transmit.from c.args.transmit.to
          (g.T.AsSlice.items c.args.transmit.payload) c.args.now c.args.self.now.noted noted) (sym kept) after,
      search rules,
    )
