use Rattle.turn_client_laws.proofs.Common.{◌≡◌, ◌∙◌, ap, refl, sym, None, Some}
use Rattle.turn_client_laws.proofs.Machine.{challenge_of, challenge_in, auth_of}
use Rattle.turn_client_core.specs.contracts.protocol.TurnClientProtocol.{the_view}
use Rattle.turn_client_core.proofs.AuthLemmas.{auth-is}
use Rattle.turn_client_core.proofs.protocol.TurnClientProtocol.challenged_or.Goals as goal

pub returns-in-Some : goal.returns-in-Some
returns-in-Some c =
    let own : c.self.inside.auth ≡ auth_of c.args.self.now =
    rw (← c.self.view_is) (sym (auth-is (the_view c.self.inside) c.self.inside.auth c.self.invariant.credentials c.self.invariant.supported c.self.invariant.anonymous refl)) in
    let read = c.read_challenge.ensures.exact ∙ ap (λ auth. challenge_of auth c.args.message.now) own in
    let is : challenge_in c.args.self.now c.args.message.now ≡ Some c.in-Some.challenge = sym read ∙ c.in-Some.is in
    rw is refl

pub returns : goal.returns
returns c =
    let own : c.self.inside.auth ≡ auth_of c.args.self.now =
    rw (← c.self.view_is) (sym (auth-is (the_view c.self.inside) c.self.inside.auth c.self.invariant.credentials c.self.invariant.supported c.self.invariant.anonymous refl)) in
    let read = c.read_challenge.ensures.exact ∙ ap (λ auth. challenge_of auth c.args.message.now) own in
    let is : challenge_in c.args.self.now c.args.message.now ≡ None = sym read ∙ c.in-None.is in
    rw is refl
