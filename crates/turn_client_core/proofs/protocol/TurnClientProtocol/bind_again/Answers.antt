use Rattle.turn_client_laws.proofs.Common.{◌≡◌, ◌∙◌, refl, sym, ap, find}
use Rattle.turn_client_laws.proofs.Machine.{purposes_of, is_bind_of, State}
use Rattle.turn_client_core.proofs.protocol.TurnClientProtocol.bind_again.Goals as goal

pub returns-in_default-clause-ok : goal.returns-in_default-clause-ok
returns-in_default-clause-ok c =
    let read : c.bind_purpose.result ≡ find (is_bind_of c.args.connection.now.local) (purposes_of c.args.id c.args.self.now) =
    rw (c.table.ensures.listed ∙ ap (λ (t : State). t.listed) c.self.view_is) at c.bind_purpose.ensures in
    rw (sym read ∙ c.in_default.is) refl

pub returns-clause-ok : goal.returns-clause-ok
returns-clause-ok c =
    let read : c.bind_purpose.result ≡ find (is_bind_of c.args.connection.now.local) (purposes_of c.args.id c.args.self.now) =
    rw (c.table.ensures.listed ∙ ap (λ (t : State). t.listed) c.self.view_is) at c.bind_purpose.ensures in
    c.ask_bind.ensures.ok c.args.id (sym read ∙ c.in-Some.is)
