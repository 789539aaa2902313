use Rattle.std.proofs.Common.{◌∙◌, sym}
use Rattle.turn_relay.proofs.RestoreLemmas.{on-error, open-fails, restores-key}
use Rattle.turn_relay.proofs.relay.Relay.restore.Goals as goal

pub returns-in_err-ask-in-Some-next_key-clause-no_memory : goal.returns-in_err-ask-in-Some-next_key-clause-no_memory
returns-in_err-ask-in-Some-next_key-clause-no_memory g c =
    on-error c.from_residual.result
    (open-fails c.args.now c.args.self.now c.ask.new.self c.in-Some-next_key.key
    (rw (← c.self.view_is) (sym c.in-Some-next_key.ensures)) c.in_err-ask-in-Some-next_key.ensures.no_memory)

pub returns-in_ok-ask-in-Some-next_key-clause-due : goal.returns-in_ok-ask-in-Some-next_key-clause-due
returns-in_ok-ask-in-Some-next_key-clause-due g c =
    restores-key c.args.now c.args.self.now c.ask.new.self c.in-Some-next_key.key c.in_ok-ask-in-Some-next_key.field-0
    (sym c.counting.ensures ∙ c.in_default.is) (rw (← c.self.view_is) (sym c.in-Some-next_key.ensures))
    c.in_ok-ask-in-Some-next_key.ensures.due
