use Rattle.std.proofs.Common.{refl}
use Rattle.turn_client_grants.proofs.ledger.GrantLedger.push_event_front.Goals as goal

pub returns-clause-state : goal.returns-clause-state
returns-clause-state c = λ s. rw (c.push_front_reserved.ensures.items, ← c.self.view_is) refl
