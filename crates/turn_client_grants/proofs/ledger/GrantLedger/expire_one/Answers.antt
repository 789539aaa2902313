use Rattle.turn_client_grants.proofs.ledger.GrantLedger.expire_one.Goals as goal

pub returns-in-Some-clause-state : goal.returns-in-Some-clause-state
returns-in-Some-clause-state c = λ s timed. rw c.in-Some.is (c.expire_allocation.ensures.state s timed)
