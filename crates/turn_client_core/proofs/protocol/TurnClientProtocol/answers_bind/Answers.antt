use Rattle.turn_client_laws.proofs.Common.{◌≡◌, ◌∙◌, ap, rules, true, find, is_some}
use Rattle.turn_client_laws.proofs.Machine.{is_response, purposes_of, class_in, is_bind_of, id_of, State}
use Rattle.turn_client_core.proofs.incoming.BindLemmas.{found_any}
use Rattle.turn_client_core.proofs.protocol.TurnClientProtocol.answers_bind.Goals as goal

pub returns-then-is_response : goal.returns-then-is_response
returns-then-is_response c =
    let s = c.args.self.now in
    let asked = is_bind_of c.args.local in
    let response : is_response (class_in c.args.message.now) ≡ true = search rules in
    let read : c.bind_purpose.result ≡ find asked (purposes_of c.transaction_id.result s) =
    rw (c.table.ensures.listed ∙ ap (λ (t : State). t.listed) c.self.view_is) at c.bind_purpose.ensures in
    rw response
    (c.is_some.ensures
    ∙ (ap is_some (read ∙ ap (λ id. find asked (purposes_of id s)) c.transaction_id.ensures)
    ∙ found_any asked (purposes_of (id_of c.args.message.now) s)))
