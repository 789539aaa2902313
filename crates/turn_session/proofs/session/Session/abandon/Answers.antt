use Rattle.std.proofs.Common.{◌≡◌, subst}
use Rattle.std.specs.Prelude.{IfOk}
use Rattle.turn_session_client.specs.Ending.{abandon_result}
use Rattle.turn_session.specs.SessionState.{SessionState}
use Rattle.turn_session.proofs.session.Session.abandon.Goals as goal

pub returns-clause-answer : goal.returns-clause-answer
returns-clause-answer g c =
    subst (λ (u : SessionState). IfOk c.abandon.result (λ packet. packet ≡ abandon_result c.args.now u.noted)) c.self.view_is c.abandon.ensures.answer
