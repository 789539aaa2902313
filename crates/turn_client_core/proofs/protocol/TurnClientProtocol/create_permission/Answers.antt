use Rattle.turn_client_laws.proofs.Common.{◌≡◌, ◌∙◌, ap, false, rules, subst, sym, true, Result}
use Rattle.turn_client_laws.proofs.Machine.{CreatesPermission, permission_step, find_allocation_to, State, CreatePermissionError}
use Rattle.turn_client_api.specs.declared.error.CreatePermissionError.TheVariants as Refusal
use Rattle.turn_client_core.specs.Usable.{is_usable, with_past_expired}
use Rattle.turn_client_core.proofs.calls.CallLemmas.{unusable-is, usable-is}
use Rattle.turn_client_core.proofs.protocol.TurnClientProtocol.create_permission.Goals as goal

pub returns-then-not-has_usable_allocation : goal.returns-then-not-has_usable_allocation
returns-then-not-has_usable_allocation c =
    let s = c.args.self.now in
    let found = find_allocation_to c.args.transport c.args.peer_addr s in
    let unusable : is_usable c.args.now found ≡ false = search rules in
    let after : c.has_usable_allocation.new.self ≡ with_past_expired found c.args.peer_addr c.args.now s = search rules in
    let said = unusable-is found c.args.peer_addr c.args.now Refusal.NoAllocation s (permission_step c.args.peer_addr c.args.now s) unusable in
    record { step = (ap (λ p. p.0) (sym said), after ∙ ap (λ p. p.1) (sym said)) }

pub returns : goal.returns
returns c =
    let s = c.args.self.now in
    let found = find_allocation_to c.args.transport c.args.peer_addr s in
    let usable : is_usable c.args.now found ≡ true = search rules in
    let after : c.has_usable_allocation.new.self ≡ with_past_expired found c.args.peer_addr c.args.now s = search rules in
    let said = usable-is found c.args.peer_addr c.args.now Refusal.NoAllocation s (permission_step c.args.peer_addr c.args.now s) usable in
    let same : c.has_usable_allocation.new.self ≡ s = after ∙ said.1 in
    let r = c.ask_permission.result in
    record {
      step =
          subst (λ (to : Result Unit CreatePermissionError × State). CreatesPermission r s c.ask_permission.new.self to) (sym said.0)
          (subst (λ (t : State). CreatesPermission r t c.ask_permission.new.self (permission_step c.args.peer_addr c.args.now t)) same c.ask_permission.ensures.step);
    }
