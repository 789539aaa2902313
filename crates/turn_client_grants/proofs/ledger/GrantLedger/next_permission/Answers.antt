use Rattle.std.proofs.Common.{refl}
use Rattle.turn_client_grants.proofs.ledger.GrantLedger.next_permission.Goals as goal

pub returns-then-has_relayed : goal.returns-then-has_relayed
returns-then-has_relayed c = λ s.
    rw (c.next_permitted.ensures, c.family_of.ensures, ← (c.if-has_relayed.ensures s), ← c.self.view_is) refl

pub returns : goal.returns
returns c = λ s. rw (← (c.if-has_relayed.ensures s)) refl
