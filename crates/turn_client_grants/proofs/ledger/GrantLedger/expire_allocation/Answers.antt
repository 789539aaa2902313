use Rattle.std.proofs.Common.{◌∙◌}
use Rattle.turn_client_grants.specs.GrantFilter.{holds}
use Rattle.turn_client_grants.proofs.ExpiryRoomLemmas.{goes-away, goes-not}
use Rattle.turn_client_grants.specs.GrantFilter.{purposes_in}
use Rattle.turn_client_grants.specs.Ledger.{with_ledger}
use Rattle.turn_client_grants.proofs.ledger.GrantLedger.expire_allocation.Goals as goal

pub returns-then-goes-clause-state : goal.returns-then-goes-clause-state
unfolding holds
returns-then-goes-clause-state c = λ s timed.
    (rw c.family_of.ensures at (c.remove.ensures.state s))
    ∙ goes-away c.args.timed_out.now (purposes_in c.args.purposes.now) c.args.now (with_ledger c.args.self.now s) c.args.relay.now (rw (c.allocation_expires-goes.ensures s timed) at c.if-goes.true)

pub returns-clause-state : goal.returns-clause-state
returns-clause-state c = λ s timed.
    (rw c.family_of-2.ensures at (c.expire_in.ensures.state s))
    ∙ goes-not c.args.timed_out.now (purposes_in c.args.purposes.now) c.args.now (with_ledger c.args.self.now s) c.args.relay.now (rw (c.allocation_expires-goes.ensures s timed) at c.if-goes.false)
