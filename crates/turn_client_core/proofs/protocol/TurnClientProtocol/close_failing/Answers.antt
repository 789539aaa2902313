use Rattle.turn_client_laws.proofs.Common.{◌∙◌, ap}
use Rattle.turn_client_laws.proofs.Machine.{closed}
use Rattle.turn_client_core.proofs.ResultLemmas.{on-err-map, on-ok-map}
use Rattle.turn_client_core.proofs.protocol.TurnClientProtocol.close_failing.Goals as goal

pub returns-clause-ok : goal.returns-clause-ok
returns-clause-ok c = on-ok-map c.fail_all-failed.result (λ same. c.close.ensures ∙ ap closed same) c.fail_all-failed.ensures.ok

pub returns-clause-err : goal.returns-clause-err
returns-clause-err c = on-err-map c.fail_all-failed.result (λ same. c.close.ensures ∙ ap closed same) c.fail_all-failed.ensures.err
