use Rattle.turn_client_laws.proofs.Common.{◌≡◌, false, true, refl, rules, ◌∙◌, ap, filter_map, nat_le, slice_get}
use Rattle.turn_client_laws.proofs.Machine.{active_channel, State}
use Rattle.turn_client_core.proofs.protocol.TurnClientProtocol.channel_to.Goals as goal

pub returns-in_default-clause-found : goal.returns-in_default-clause-found
returns-in_default-clause-found c =
    let found : c.active_channel.result ≡ slice_get (filter_map (active_channel c.args.peer) c.args.self.now.grants) 0 = rw (c.table.ensures.grants ∙ ap (λ (t : State). t.grants) c.self.view_is) at c.active_channel.ensures.found in
    rw (← found, c.in_default.is) refl

pub returns-then-le-clause-found : goal.returns-then-le-clause-found
returns-then-le-clause-found c =
    let found : c.active_channel.result ≡ slice_get (filter_map (active_channel c.args.peer) c.args.self.now.grants) 0 = rw (c.table.ensures.grants ∙ ap (λ (t : State). t.grants) c.self.view_is) at c.active_channel.ensures.found in
    let lasts : nat_le c.args.now c.in-Some.found.1 ≡ true = search rules in
    rw (← found, c.in-Some.is, lasts) refl

pub returns-clause-found : goal.returns-clause-found
returns-clause-found c =
    let found : c.active_channel.result ≡ slice_get (filter_map (active_channel c.args.peer) c.args.self.now.grants) 0 = rw (c.table.ensures.grants ∙ ap (λ (t : State). t.grants) c.self.view_is) at c.active_channel.ensures.found in
    let expired_at : nat_le c.args.now c.in-Some.found.1 ≡ false = search rules in
    rw (← found, c.in-Some.is, expired_at) refl
