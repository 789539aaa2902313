use Rattle.turn_client_laws.proofs.Common.{◌∙◌, ap, rules, sym, List, ℕ}
use Rattle.turn_client_laws.proofs.Machine.{fresh_id, State, sent_at_once, ForAllocation, Requesting}
use Rattle.turn_client_core.specs.contracts.protocol.TurnClientProtocol.{the_view}
use Rattle.turn_client_core.proofs.ResultLemmas.{on-err}
use Rattle.turn_client_core.proofs.time.TransmitLemmas.{Packet, first-text-is, sends-is}
use Rattle.turn_client_core.proofs.protocol.TurnClientProtocol.send_first.Goals as goal

pub returns-in_err-reserve-clause-err : goal.returns-in_err-reserve-clause-err
returns-in_err-reserve-clause-err c = on-err _ (c.reserve.ensures.same (the_view c.self.inside) ∙ c.self.view_is)

pub returns-in_err-packet-clause-err : goal.returns-in_err-packet-clause-err
returns-in_err-packet-clause-err c =
    rw c.in_err-packet.ensures.err (on-err _ (c.reserve.ensures.same (the_view c.self.inside) ∙ c.self.view_is))

pub ask-requires-clause-new_id : goal.ask-requires-clause-new_id
ask-requires-clause-new_id c =
    let same = ap (λ s. s.listed) (c.reserve.ensures.same (the_view c.self.inside) ∙ c.self.view_is) in
    rw same c.fresh_id-id.ensures.unlisted

-- the room for the failure events of all families was made
pub invariant_of-self-2 : goal.invariant_of-self-2
invariant_of-self-2 c = search rules

pub returns-clause-step : goal.returns-clause-step
returns-clause-step c =
    let s = the_view c.self.inside in
    let id = c.fresh_id-id.result in
    let fresh = c.fresh_id-id.ensures.id ∙ ap fresh_id (sym c.self.view_is) in
    let text = first-text-is s c.transport.result c.as_slice.result.now id c.in_ok-text.text c.transport.ensures c.as_slice.ensures fresh (c.in_ok-text.ensures s) in
    rw (c.note_sent.ensures, c.draw.ensures, c.in_ok-packet.ensures.ok, c.in_ok-packet.ensures.packet, c.local_addr-from.ensures, ← c.self.view_is)
    (ap (λ (r : Packet × State). (r.0, record r.1 { phase = Requesting }))
    (sends-is s c.reserve.new.self c.ask.new.self id c.in_ok-text.text ForAllocation c.args.now (c.reserve.ensures.same s)
    (rw c.one.ensures at c.ask.ensures.state s c.in_ok-text.text c.args.now) fresh)
    ∙ ap (λ (t : List ℕ). sent_at_once t ForAllocation c.args.now (record s { phase = Requesting })) text)
