use Rattle.turn_client_laws.proofs.Common.{◌≡◌, ◌∙◌, List, ℕ, false, refl, sym}
use Rattle.turn_client_laws.proofs.Machine.{is_outstanding, validation_of, Validation, Refused, ResendRequest, Validated, allocated_judgement, challenge_in, challenged_or, class_in, State, auth_of}
use Rattle.turn_client_laws.proofs.Machine.{id_of, Error}
use Rattle.turn_client_api.specs.Judgement as J
use Rattle.turn_client_core.proofs.protocol.TurnClientProtocol.judge_error.Goals as goal

-- without its request only a challenge counts
unsent-is : (s : State) (message : List ℕ) → class_in message ≡ Error → is_outstanding (id_of message) s.transactions ≡ false
    → allocated_judgement s message ≡ challenged_or J.Unrelated (challenge_in s message)
unsent-is s message class unsent = by (validation_of (auth_of s) message) refl
  where
    by : (judged : Validation) → validation_of (auth_of s) message ≡ judged → allocated_judgement s message ≡ challenged_or J.Unrelated (challenge_in s message)
    by (Validated algorithm) e = rw (class, e, class, unsent) refl
    by (Refused integrity) e = rw (class, e, class) refl
    by (ResendRequest algorithm) e = rw (class, e, class) refl

pub returns-then-not-is_outstanding : goal.returns-then-not-is_outstanding
returns-then-not-is_outstanding c =
    let s = c.args.self.now in
    let m = c.args.message.now in
    let unsent : is_outstanding (id_of m) s.transactions ≡ false =
    rw (← c.self.view_is) (rw (c.transaction_id.ensures, c.agent.ensures.transactions) at (sym c.is_outstanding.ensures ∙ c.if-not-is_outstanding.true)) in
    c.challenged_or.ensures ∙ sym (unsent-is s m c.requires unsent)
