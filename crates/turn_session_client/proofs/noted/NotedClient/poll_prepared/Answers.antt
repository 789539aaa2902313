use Rattle.std.proofs.Common.{rules, ◌≡◌, ℕ, Bool, true, false, refl, subst, inr}
use Rattle.turn_client_api.specs.declared.poll.TurnPollRet.{TurnPollRet}
use Rattle.turn_session_client.specs.Expiring.{ExpiryWaits, expiry_noted, first_expired}
use Rattle.turn_session_client.specs.Polling.{ExpiredOrWent, IsShort}
use Rattle.turn_session_client.specs.NotedState.{NotedState}
use Rattle.turn_session_client.proofs.ExpiryLemmas.{expiry-noted}
use Rattle.turn_session_client.proofs.noted.NotedClient.poll_prepared.Goals as goal

pub returns-in-Ok-false : goal.returns-in-Ok-false
returns-in-Ok-false g c =
    let none_ended : (false, c.note_expiry.new.self) ≡ expiry_noted c.args.now c.args.self.now = search rules in
    subst (λ (x : Bool × NotedState). ExpiredOrWent c.args.now c.args.self.now x c.make_or_poll.new.self c.make_or_poll.result)
    none_ended c.make_or_poll.ensures

short : (now : ℕ) (was s : NotedState) (answer : TurnPollRet) (p : Bool × NotedState) → p.0 ≡ true → IsShort now answer → ExpiryWaits now was s
    → ExpiredOrWent now was p s answer
short now was s answer (true, t) noted is waits = inr (is, waits)
short now was s answer (false, t) noted is waits = cc

pub returns-in-Err : goal.returns-in-Err
returns-in-Err g c =
    let was = c.args.self.now in
    let waits : ExpiryWaits c.args.now was c.note_expiry.new.self = search rules in
    let is : IsShort c.args.now _ = search rules in
    short c.args.now was c.note_expiry.new.self _ (expiry_noted c.args.now was) (expiry-noted c.args.now was c.note_expiry.new.self (first_expired was) refl waits) is waits
