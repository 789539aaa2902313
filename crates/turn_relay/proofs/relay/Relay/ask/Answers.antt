use Rattle.turn_session.proofs.FramingLemmas.{on-err, on-ok}
use Rattle.turn_relay.proofs.RestoreLemmas.{asking-fails, asks}
use Rattle.turn_relay.proofs.relay.Relay.ask.Goals as goal

pub returns-clause-due : goal.returns-clause-due
returns-clause-due g c =
    on-ok c.answered.result c.answered.ensures.due (λ due answered. asks _ _ _ _ _ _ due c.request_used-answer.ensures answered)

pub returns-clause-no_memory : goal.returns-clause-no_memory
returns-clause-no_memory g c =
    on-err c.answered.result c.answered.ensures.no_memory (λ fails. asking-fails _ _ _ _ _ _ c.request_used-answer.ensures fails.0 fails.1)
