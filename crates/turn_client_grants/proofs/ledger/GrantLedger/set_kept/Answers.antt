use Rattle.std.proofs.Common.{◌≡◌, ◌∙◌, Ok, ap, sym, true}
use Rattle.std.specs.List.{list_any}
use Rattle.std.specs.Prelude.{Result}
use Rattle.turn_client_api.specs.Grants.{same_transport}
use Rattle.turn_client_api.specs.State.{State}
use Rattle.turn_client_api.specs.declared.error.KeepError.{KeepError}
use Rattle.turn_client_grants.specs.GrantFilter.{holds}
use Rattle.turn_client_grants.specs.Ledger.{with_ledger}
use Rattle.turn_client_grants.proofs.ChangeLemmas.{kept-is}
use Rattle.turn_client_grants.proofs.ledger.GrantLedger.set_kept.Goals as goal

pub returns-then-is_there-clause-state : goal.returns-then-is_there-clause-state
returns-then-is_there-clause-state c = λ s.
    let relayed : same_transport c.args.transport c.args.self.now.transport ≡ true = rw (← c.self.view_is) (sym c.if-is_relayed.ensures) in
    let there : list_any (holds c.args.which.now) c.args.self.now.grants ≡ true = rw (← c.self.view_is) (rw c.grants.ensures at (sym c.if-is_there.ensures)) in
    let kept : State → Result Unit KeepError × State = λ t. (Ok tt, t) in
    ap kept (c.mark_kept.ensures.state s)
    ∙ kept-is c.args.transport c.args.which.now c.args.is_kept (with_ledger c.args.self.now s) relayed there
