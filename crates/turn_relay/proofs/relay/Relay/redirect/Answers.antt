use Rattle.std.proofs.Common.{◌∙◌, sym}
use Rattle.turn_session.proofs.FramingLemmas.{on-err}
use Rattle.turn_relay.proofs.EndLemmas.{not-sent-on}
use Rattle.turn_relay.proofs.relay.Relay.redirect.Goals as goal

pub returns-then-not-follow-clause-no_memory : goal.returns-then-not-follow-clause-no_memory
returns-then-not-follow-clause-no_memory g c =
    on-err c.go_down.result c.go_down.ensures.no_memory
    (λ later. not-sent-on c.args.link c.args.to _ _ _ _ _ _ _ c.self.view_is c.in_ok-ask.ensures.ok c.in_ok-ask.ensures.left
    (sym c.follow.ensures.followed ∙ c.if-not-follow.true) c.follow.ensures.left c.follow.ensures.asked later)
