use Rattle.turn_client_laws.proofs.Common.{◌∙◌, sym}
use Rattle.turn_client_core.proofs.ResultLemmas.{err-some, on-err-map}
use Rattle.turn_client_core.proofs.protocol.TurnClientProtocol.protocol_error.Goals as goal

pub returns-clause-free : goal.returns-clause-free
returns-clause-free c =
    let families = c.args.self.now.families in
    on-err-map c.close_failing.result (λ some. (sym c.is_closed.ensures ∙ c.if-is_closed.false, some))
    (err-some families c.close_failing.result c.close_failing.ensures.free)
