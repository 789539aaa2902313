use Rattle.turn_client_laws.proofs.Common.{◌≡◌, ◌∙◌, None, ap, sym, socket_ip}
use Rattle.turn_client_laws.proofs.Machine.{permission_progress, permission_state, State}
use Rattle.turn_client_grants.specs.Lists.{first_among}
use Rattle.turn_client_core.proofs.ResultLemmas.{none-some_not}
use Rattle.turn_client_core.proofs.calls.AskLemmas.{pair-new}
use Rattle.turn_client_core.proofs.protocol.TurnClientProtocol.ask_number.Goals as goal

pub ask-requires-2-clause-new : goal.ask-requires-2-clause-new
ask-requires-2-clause-new c =
    let s = c.args.self.now in
    let grants = c.table.ensures.grants ∙ ap (λ (t : State). t.grants) c.self.view_is in
    let read : c.permission_state.result ≡ permission_state (socket_ip c.args.peer) s =
    c.permission_state.ensures ∙ (ap (λ all. first_among (permission_progress c.ip.result) all) grants ∙ ap (λ ip. permission_state ip s) c.ip.ensures) in
    let none : permission_state (socket_ip c.args.peer) s ≡ None =
    sym read ∙ none-some_not c.permission_state.result (sym c.is_some.ensures ∙ c.if-is_some.false) in
    rw c.ip-2.ensures (pair-new c.args.number c.args.peer s c.requires.free c.requires.new none)
