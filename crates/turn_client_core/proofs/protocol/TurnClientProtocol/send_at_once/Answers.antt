use Rattle.turn_client_laws.proofs.Common.{◌∙◌, ap, sym}
use Rattle.turn_client_laws.proofs.Machine.{fresh_id}
use Rattle.turn_client_core.specs.contracts.protocol.TurnClientProtocol.{the_view}
use Rattle.turn_client_core.proofs.ResultLemmas.{on-err}
use Rattle.turn_client_core.proofs.time.TransmitLemmas.{sends-is}
use Rattle.turn_client_core.proofs.protocol.TurnClientProtocol.send_at_once.Goals as goal

pub returns-in_err-reserve-clause-err : goal.returns-in_err-reserve-clause-err
returns-in_err-reserve-clause-err c = on-err _ (c.reserve.ensures.same (the_view c.self.inside) ∙ c.self.view_is)

pub returns-in_err-packet-clause-err : goal.returns-in_err-packet-clause-err
returns-in_err-packet-clause-err c =
    rw c.in_err-packet.ensures.err (on-err _ (c.reserve.ensures.same (the_view c.self.inside) ∙ c.self.view_is))

pub ask-requires-clause-new_id : goal.ask-requires-clause-new_id
ask-requires-clause-new_id c =
    let same = ap (λ s. s.listed) (c.reserve.ensures.same (the_view c.self.inside) ∙ c.self.view_is) in
    rw same c.requires.unlisted

pub returns-clause-step : goal.returns-clause-step
returns-clause-step c =
    let s = the_view c.self.inside in
    rw (c.note_sent.ensures, c.draw.ensures, c.in_ok-packet.ensures.ok, c.in_ok-packet.ensures.packet, c.local_addr-from.ensures, ← c.self.view_is)
    (sends-is s c.reserve.new.self c.ask.new.self c.args.id c.args.text c.args.purpose.now c.args.now (c.reserve.ensures.same s) (rw c.one.ensures at c.ask.ensures.state s c.args.text c.args.now)
    (c.requires.fresh ∙ ap fresh_id (sym c.self.view_is)))
