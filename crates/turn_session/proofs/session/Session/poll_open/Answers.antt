use Rattle.std.proofs.Common.{◌∙◌}
use Rattle.turn_session.proofs.PollingLemmas.{path-idle}
use Rattle.turn_session.proofs.session.Session.poll_open.Goals as goal

pub returns-in-Idle : goal.returns-in-Idle
returns-in-Idle g c =
    path-idle c.args.now c.args.self.now _ c.poll.new.self c.poll_doubts-in-Idle.new.self c.poll_doubts-in-Idle.result
    (c.self.view_is ∙ c.begin.ensures) c.in-Idle.ensures c.poll_doubts-in-Idle.ensures
