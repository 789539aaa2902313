use Rattle.turn_client_laws.proofs.Common.{◌≡◌, rules, true, ap, sym, socket_ip}
use Rattle.turn_client_laws.proofs.Machine.{is_allocated, is_connected, is_connecting, has_active_permission}
use Rattle.std.specs.Prelude.{◌||◌}
use Rattle.turn_client_core.proofs.calls.CallLemmas.{connected-is}
use Rattle.turn_client_core.proofs.protocol.TurnClientProtocol.ask_connection.Goals as goal

pub returns-then-has_connection : goal.returns-then-has_connection
returns-then-has_connection c =
    let s = c.args.self.now in
    let peer = c.args.peer in
    let allocated : is_allocated s.phase ≡ true = search rules in
    let permitted : has_active_permission (socket_ip peer) s ≡ true = search rules in
    let connected : (is_connected peer s || is_connecting peer s) ≡ true = search rules in
    let said = connected-is peer c.args.now s allocated permitted connected in
    record { step = (ap (λ p. p.0) (sym said), ap (λ p. p.1) (sym said)) }
