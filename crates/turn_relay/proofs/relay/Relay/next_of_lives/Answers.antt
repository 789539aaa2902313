use Rattle.std.proofs.Common.{refl}
use Rattle.turn_session.proofs.FramingLemmas.{on-err, on-ok}
use Rattle.turn_relay.proofs.NextLemmas.{leads-own, leads-step, lives-fail, own-fails}
use Rattle.turn_relay.proofs.RestoreLemmas.{on-error}
use Rattle.turn_relay.proofs.relay.Relay.next_of_lives.Goals as goal

pub returns-in_err-step-clause-no_memory : goal.returns-in_err-step-clause-no_memory
returns-in_err-step-clause-no_memory g c =
    on-error c.from_residual.result
    (lives-fail c.args.now _ _ _ c.self.view_is c.next.new.self c.in_err-step.ensures.no_memory refl)

pub returns-in-Wait-clause-due : goal.returns-in-Wait-clause-due
returns-in-Wait-clause-due g c =
    let next = rw c.in-Wait.is at c.in_ok-step.ensures.step in
    on-ok c.next_of_own.result c.next_of_own.ensures.due
    (λ due own. leads-own c.args.now _ _ _ c.self.view_is c.next.new.self c.in-Wait.time due next own)

pub returns-in-Wait-clause-no_memory : goal.returns-in-Wait-clause-no_memory
returns-in-Wait-clause-no_memory g c =
    let next = rw c.in-Wait.is at c.in_ok-step.ensures.step in
    on-err c.next_of_own.result c.next_of_own.ensures.no_memory
    (λ fails. own-fails c.args.now _ _ _ c.self.view_is c.next.new.self c.in-Wait.time next fails)

pub returns-in_default-clause-due : goal.returns-in_default-clause-due
returns-in_default-clause-due g c =
    leads-step c.args.now _ _ _ c.self.view_is c.next.new.self c.in_ok-step.step _ c.in_ok-step.ensures.step
    (λ time is. c.in_default.not-Wait time is) c.take_step.ensures
