use Rattle.turn_client_laws.proofs.Common.{◌≡◌, ◌∙◌, rules, sym, true, ap, Some, filter_map}
use Rattle.turn_client_laws.proofs.Machine.{connection_at, as_connection, method_in, connection_bind_method, Allocated, State}
use Rattle.std.specs.Prelude.{◌==◌}
use Rattle.turn_client_grants.proofs.ThereLemmas.{own-end}
use Rattle.turn_client_core.proofs.protocol.TurnClientProtocol.bind_step.Goals as goal

pub bind_answered-requires : goal.bind_answered-requires
bind_answered-requires c =
    let read = rw (c.table.ensures.grants ∙ ap (λ (t : State). t.grants) c.self.view_is) at c.connection_at.ensures in
    record { there = own-end c.args.local (filter_map as_connection c.args.self.now.grants) c.in-Some.connection (sym read ∙ c.in-Some.is) }

pub returns-clause-ok : goal.returns-clause-ok
returns-clause-ok c =
    let allocated : c.args.self.now.phase ≡ Allocated = c.is_allocated.ensures.phase.0 c.if-not-is_allocated.false in
    let there : connection_at c.args.local c.args.self.now ≡ Some c.in-Some.connection = sym (rw (c.table.ensures.grants ∙ ap (λ (t : State). t.grants) c.self.view_is) at c.connection_at.ensures) ∙ c.in-Some.is in
    let method : (method_in c.args.message.now == connection_bind_method) ≡ true = search rules in
    rw (allocated, there, method) c.bind_answered.ensures.ok

pub returns-clause-peer : goal.returns-clause-peer
returns-clause-peer c =
    let allocated : c.args.self.now.phase ≡ Allocated = c.is_allocated.ensures.phase.0 c.if-not-is_allocated.false in
    let there : connection_at c.args.local c.args.self.now ≡ Some c.in-Some.connection = sym (rw (c.table.ensures.grants ∙ ap (λ (t : State). t.grants) c.self.view_is) at c.connection_at.ensures) ∙ c.in-Some.is in
    let method : (method_in c.args.message.now == connection_bind_method) ≡ true = search rules in
    rw (allocated, there, method) c.bind_answered.ensures.peer

pub returns-clause-wanted : goal.returns-clause-wanted
returns-clause-wanted c =
    let there : connection_at c.args.local c.args.self.now ≡ Some c.in-Some.connection = sym (rw (c.table.ensures.grants ∙ ap (λ (t : State). t.grants) c.self.view_is) at c.connection_at.ensures) ∙ c.in-Some.is in
    let method : (method_in c.args.message.now == connection_bind_method) ≡ true = search rules in
    rw (there, method) c.bind_answered.ensures.wanted
