use Rattle.turn_client_laws.proofs.Common.{◌≡◌, ◌∙◌, None, Some, refl, rules, sym, true, false, nat_le}
use Rattle.turn_client_laws.proofs.Machine.{find_allocation_to}
use Rattle.turn_client_core.specs.contracts.protocol.TurnClientProtocol.{the_view}
use Rattle.turn_client_core.proofs.protocol.TurnClientProtocol.has_usable_allocation.Goals as goal

pub returns-in_default : goal.returns-in_default
returns-in_default c =
    let found : find_allocation_to c.args.transport c.args.ip c.args.self.now ≡ None =
    rw (← c.self.view_is) (sym (c.find_allocation_to.ensures (the_view c.self.inside)) ∙ c.in_default.is) in
    record { usable = rw found refl; after = rw found refl }

pub returns-then-le : goal.returns-then-le
returns-then-le c =
    let found : find_allocation_to c.args.transport c.args.ip c.args.self.now ≡ Some c.in-Some.relay =
    rw (← c.self.view_is) (sym (c.find_allocation_to.ensures (the_view c.self.inside)) ∙ c.in-Some.is) in
    let past : nat_le c.in-Some.relay.expiry c.args.now ≡ true = search rules in
    record { usable = rw (found, past) refl; after = rw (found, past, ← c.self.view_is, ← c.family_of_ip.ensures) (c.expire.ensures.state (the_view c.self.inside)) }

pub returns : goal.returns
returns c =
    let found : find_allocation_to c.args.transport c.args.ip c.args.self.now ≡ Some c.in-Some.relay =
    rw (← c.self.view_is) (sym (c.find_allocation_to.ensures (the_view c.self.inside)) ∙ c.in-Some.is) in
    let lasts : nat_le c.in-Some.relay.expiry c.args.now ≡ false = search rules in
    record { usable = rw (found, lasts) refl; after = rw (found, lasts) refl }
