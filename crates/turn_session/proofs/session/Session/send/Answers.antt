use Rattle.std.proofs.Common.{◌≡◌, ◌∙◌, ◌≤◌, ◌&&◌, ℕ, Bool, true, false, not, Option, None, arith, length, refl, sym}
use Rattle.std.proofs.lemmas.Bool.{and_parts, ltb-false}
use Rattle.std.specs.Prelude.{if◌then◌else◌}
use Rattle.std.specs.Option.{option_map_or}
use Rattle.std.specs.declared.net.ip_addr.IpAddr.{IpAddr}
use Rattle.turn_stun.specs.declared.transport.TransportType.{TransportType}
use Rattle.turn_stun.specs.declared.transport.TransportType.TheVariants.{Udp, Tcp}
use Rattle.turn_client_api.specs.Calls.{can_send_to}
use Rattle.turn_client_api.specs.Grants.{family_of_ip, find_allocation, has_active_permission, same_transport}
use Rattle.turn_client_api.specs.State.{State}
use Rattle.turn_client_api.specs.declared.grant.Relay.{Relay}
use Rattle.turn_session.specs.Giving.{is_longer}
use Rattle.turn_session.proofs.session.Session.send.Goals as goal

found-if : (is_same : Bool) (which : Relay → Bool) (found : Option Relay) → option_map_or which (if is_same then found else None) false ≡ true
    → is_same ≡ true
found-if true which found is = refl
found-if false which found is = cc

-- the allocations relay over this transport
relays-over : (transport : TransportType) (ip : IpAddr) (s : State) → can_send_to transport ip s ≡ true
    → same_transport transport s.config.allocation_transport ≡ true
relays-over transport ip s can =
    found-if (same_transport transport s.config.allocation_transport) (λ (a : Relay). not a.is_expired && has_active_permission ip s)
    (find_allocation (family_of_ip ip) s) can

fits : (transport relayed : TransportType) (len : ℕ) → same_transport transport relayed ≡ true → is_longer transport 65_503 len ≡ false
    → relayed ≡ Udp → len ≤ 65504
fits Udp relayed len same short udp = omega (arith, ltb-false 65_503 len short)
fits Tcp Udp len same short udp = cc
fits Tcp Tcp len same short udp = cc

permitted-fits : (is_ended : Bool) (transport : TransportType) (ip : IpAddr) (s : State) (len : ℕ) → (not is_ended && can_send_to transport ip s) ≡ true
    → is_longer transport 65_503 len ≡ false → s.config.allocation_transport ≡ Udp → len ≤ 65504
permitted-fits is_ended transport ip s len may short udp =
    let can : can_send_to transport ip s ≡ true = (and_parts (not is_ended) (can_send_to transport ip s) may).1 in
    fits transport s.config.allocation_transport len (relays-over transport ip s can) short udp

pub send_permitted-requires-clause-short : goal.send_permitted-requires-clause-short
send_permitted-requires-clause-short g c = λ udp.
    let short : length c.as_slice.result.now ≤ 65504 =
    permitted-fits _ c.args.transport c.ip.result c.args.self.now.noted.client _ (sym c.have_permission.ensures ∙ c.if-have_permission.true)
    (sym c.is_too_long.ensures ∙ c.if-is_too_long.false) udp in
    rw (sym c.as_slice.ensures) short
