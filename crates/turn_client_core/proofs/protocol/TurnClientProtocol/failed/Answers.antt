use Rattle.turn_client_laws.proofs.Common.{◌∙◌, ap, inl, inr, false, subst, sym, IfOk, OnOk}
use Rattle.turn_client_laws.proofs.Machine.{Outcome, State}
use Rattle.std.specs.Prelude.{◌≡◌}
use Rattle.turn_client_core.specs.ProtocolRecv.{outcome_in}
use Rattle.turn_client_core.proofs.incoming.JudgedLemmas.{authenticating-is, denied-step, other-step}
use Rattle.turn_client_core.proofs.ResultLemmas.{on-err, on-err-map}
use Rattle.turn_client_core.proofs.protocol.TurnClientProtocol.failed.Goals as goal

pub returns-then-is_authenticating-clause-answer : goal.returns-then-is_authenticating-clause-answer
returns-then-is_authenticating-clause-answer c = sym (ap (λ p. p.0) (denied-step c.args.message.now c.args.now c.args.self.now (sym c.is_authenticating.ensures ∙ c.if-is_authenticating.true)))

pub returns-then-is_authenticating-clause-after : goal.returns-then-is_authenticating-clause-after
returns-then-is_authenticating-clause-after c = c.in_ok-allocate_denied.ensures.ok
    ∙ sym (ap (λ p. p.1) (denied-step c.args.message.now c.args.now c.args.self.now (sym c.is_authenticating.ensures ∙ c.if-is_authenticating.true)))

pub returns-clause-answer : goal.returns-clause-answer
returns-clause-answer c =
    subst (λ (p : Outcome × State). IfOk c.respond.result (λ outcome. outcome_in c.args.message.now outcome ≡ p.0))
    (sym (other-step false c.args.message.now c.args.now c.args.self.now (sym c.is_authenticating.ensures ∙ c.if-is_authenticating.false))) c.respond.ensures.answer

pub returns-clause-after : goal.returns-clause-after
returns-clause-after c =
    subst (λ (p : Outcome × State). OnOk c.respond.result (c.respond.new.self ≡ p.1))
    (sym (other-step false c.args.message.now c.args.now c.args.self.now (sym c.is_authenticating.ensures ∙ c.if-is_authenticating.false))) c.respond.ensures.after

pub allocate_denied-requires-clause-phase : goal.allocate_denied-requires-clause-phase
allocate_denied-requires-clause-phase c = authenticating-is c.args.self.now.phase (sym c.is_authenticating.ensures ∙ c.if-is_authenticating.true)

pub allocate_denied-requires-clause-outstanding : goal.allocate_denied-requires-clause-outstanding
allocate_denied-requires-clause-outstanding c = c.requires (authenticating-is c.args.self.now.phase (sym c.is_authenticating.ensures ∙ c.if-is_authenticating.true))

pub returns-in_err-allocate_denied-clause-wanted : goal.returns-in_err-allocate_denied-clause-wanted
returns-in_err-allocate_denied-clause-wanted c = on-err _ (inl (authenticating-is c.args.self.now.phase (sym c.is_authenticating.ensures ∙ c.if-is_authenticating.true)))

pub returns-clause-wanted : goal.returns-clause-wanted
returns-clause-wanted c = on-err-map c.respond.result inr c.respond.ensures.wanted
