use Rattle.std.proofs.Common.{◌≡◌, ◌<◌, ap, subst, sym}
use Rattle.std.specs.Prelude.{All}
use Rattle.turn_client_api.specs.Due.{expiry_times}
use Rattle.turn_client_api.specs.State.{State}
use Rattle.turn_client_api.proofs.EarlyExpiryLemmas.{expired_at-none}
use Rattle.turn_client_grants.specs.Ledger.{Ledger, with_ledger}
use Rattle.turn_client_grants.specs.Table.{with_table}
use Rattle.turn_client_grants.proofs.ledger.GrantLedger.expire_by_time.Goals as goal

pub returns-then-is_early-clause-state : goal.returns-then-is_early-clause-state
returns-then-is_early-clause-state c = λ s timed.
    let start = with_ledger c.args.self.now s in
    let same : with_table c.self.inside.table start ≡ start = ap (λ (l : Ledger). record start { grants = l.grants; listed = l.listed }) c.self.view_is in
    sym (expired_at-none c.args.now start (subst (λ (t : State). All (λ time. c.args.now < time) (expiry_times t)) same (c.is_early-is_early.ensures start c.if-is_early.true)))
