use Rattle.turn_client_grants.proofs.table.GrantTable.last_expired_channel.Goals as goal

pub returns-clause-numbers : goal.returns-clause-numbers
returns-clause-numbers c = rw (← c.self.view_is) c.self.invariant.table.numbers
