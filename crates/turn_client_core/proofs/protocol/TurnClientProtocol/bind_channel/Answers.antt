use Rattle.turn_client_laws.proofs.Common.{◌≡◌, ◌∙◌, ap, false, rules, subst, sym, true, Result, socket_ip}
use Rattle.turn_client_laws.proofs.Machine.{BindsChannel, channel_step, find_allocation_to, State, BindChannelError}
use Rattle.turn_client_api.specs.declared.error.BindChannelError.TheVariants as Refusal
use Rattle.turn_client_core.specs.Usable.{is_usable, with_past_expired}
use Rattle.turn_client_core.proofs.calls.CallLemmas.{unusable-is, usable-is}
use Rattle.turn_client_core.proofs.protocol.TurnClientProtocol.bind_channel.Goals as goal

pub returns-then-not-has_usable_allocation : goal.returns-then-not-has_usable_allocation
returns-then-not-has_usable_allocation c =
    let s = c.args.self.now in
    let found = find_allocation_to c.args.transport (socket_ip c.args.peer_addr) s in
    let unusable : is_usable c.args.now found ≡ false = search rules in
    let after : c.has_usable_allocation.new.self ≡ with_past_expired found (socket_ip c.args.peer_addr) c.args.now s = search rules in
    let said = unusable-is found (socket_ip c.args.peer_addr) c.args.now Refusal.NoAllocation s (channel_step c.args.peer_addr c.args.now s) unusable in
    record { step = (ap (λ p. p.0) (sym said), after ∙ ap (λ p. p.1) (sym said)) }

pub returns : goal.returns
returns c =
    let s = c.args.self.now in
    let found = find_allocation_to c.args.transport (socket_ip c.args.peer_addr) s in
    let usable : is_usable c.args.now found ≡ true = search rules in
    let after : c.has_usable_allocation.new.self ≡ with_past_expired found (socket_ip c.args.peer_addr) c.args.now s = search rules in
    let said = usable-is found (socket_ip c.args.peer_addr) c.args.now Refusal.NoAllocation s (channel_step c.args.peer_addr c.args.now s) usable in
    let same : c.has_usable_allocation.new.self ≡ s = after ∙ said.1 in
    let r = c.ask_channel.result in
    record {
      step =
          subst (λ (to : Result Unit BindChannelError × State). BindsChannel r s c.ask_channel.new.self to) (sym said.0)
          (subst (λ (t : State). BindsChannel r t c.ask_channel.new.self (channel_step c.args.peer_addr c.args.now t)) same c.ask_channel.ensures.step);
    }
