use Rattle.std.proofs.Common.{◌∙◌, sym, ap}
use Rattle.turn_session_idle.specs.IdlePeers.{after_use}
use Rattle.turn_session_idle.proofs.UsedLemmas.{again-last}
use Rattle.turn_session_idle.proofs.used.UsedPeers.used.Goals as goal

pub returns-then-is_last : goal.returns-then-is_last
returns-then-is_last c =
    again-last c.self.inside.last c.self.inside.at c.args.key c.args.now c.self.inside.peers (sym c.is_last.ensures ∙ c.if-is_last.true)
    ∙ ap (after_use c.args.key c.args.now) c.self.view_is
