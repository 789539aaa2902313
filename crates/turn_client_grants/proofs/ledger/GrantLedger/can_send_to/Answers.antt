use Rattle.std.proofs.Common.{◌∙◌, refl, sym}
use Rattle.turn_client_grants.proofs.ledger.GrantLedger.can_send_to.Goals as goal

pub returns-in_default : goal.returns-in_default
returns-in_default c = λ s. rw (sym (c.find_allocation_to.ensures s) ∙ c.in_default.is) refl

pub returns-then-relay : goal.returns-then-relay
returns-then-relay c = λ s. rw (sym (c.find_allocation_to.ensures s) ∙ c.in-Some.is, c.if-relay.true) refl

pub returns : goal.returns
returns c = λ s.
    let found = sym (c.find_allocation_to.ensures s) ∙ c.in-Some.is in
    rw (found, c.if-relay.false, ← c.self.view_is) (c.has_active_permission.ensures s)
