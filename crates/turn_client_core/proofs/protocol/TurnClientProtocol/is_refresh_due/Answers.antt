use Rattle.turn_client_laws.proofs.Common.{◌≡◌, ◌∙◌, ap, is_some}
use Rattle.turn_client_laws.proofs.Machine.{State}
use Rattle.turn_client_core.proofs.time.TransmitLemmas.{refresh-due}
use Rattle.turn_client_core.proofs.protocol.TurnClientProtocol.is_refresh_due.Goals as goal

pub returns : goal.returns
returns c =
    let s = c.args.self.now in
    let grants = c.table.ensures.grants ∙ ap (λ (t : State). t.grants) c.self.view_is in
    let listed = c.table.ensures.listed ∙ ap (λ (t : State). t.listed) c.self.view_is in
    let ahead = c.refresh_ahead-early.ensures ∙ ap (λ (t : State). t.config.refresh_ahead) c.self.view_is in
    let found = rw (ahead, grants, listed) at (c.first_refresh.ensures s) in
    c.is_some.ensures ∙ ap is_some (refresh-due c.args.now s c.first_refresh.result found)
