use Rattle.turn_client_laws.proofs.Common.{◌≡◌, ◌∙◌, ap, false, sym, true}
use Rattle.turn_client_laws.proofs.Machine.{is_paused}
use Rattle.turn_client_core.specs.contracts.protocol.TurnClientProtocol.{the_view}
use Rattle.turn_client_core.proofs.calls.AskLemmas.{with_outbox}
use Rattle.turn_client_core.proofs.time.TransmitLemmas.{Sent}
use Rattle.turn_client_core.proofs.ResultLemmas.{on-err}
use Rattle.turn_client_core.proofs.protocol.TurnClientProtocol.send_waiting.Goals as goal

pub returns-then-is_paused-clause-step : goal.returns-then-is_paused-clause-step
returns-then-is_paused-clause-step c =
    let paused : is_paused c.args.now c.args.self.now ≡ true = sym c.is_paused-is_paused.ensures ∙ c.if-is_paused.true in
    rw paused (rw (← c.self.view_is) (ap (λ (r : Sent). (r.0, with_outbox r.1 (the_view c.self.inside))) c.take_reply.ensures))

pub returns-clause-step : goal.returns-clause-step
returns-clause-step c =
    let running : is_paused c.args.now c.args.self.now ≡ false = sym c.is_paused-is_paused.ensures ∙ c.if-is_paused.false in
    rw running c.send_next.ensures.step

pub returns-clause-free : goal.returns-clause-free
returns-clause-free c =
    let running : is_paused c.args.now c.args.self.now ≡ false = sym c.is_paused-is_paused.ensures ∙ c.if-is_paused.false in
    rw running c.send_next.ensures.free

pub returns-clause-running : goal.returns-clause-running
returns-clause-running c = on-err c.send_next.result (sym c.is_paused-is_paused.ensures ∙ c.if-is_paused.false)
