use Rattle.turn_client_laws.proofs.Common.{◌≡◌, ◌∙◌, [], ap}
use Rattle.turn_client_laws.proofs.Machine.{id_of, allocated, phase_with, transaction_ended, relayed_in, taken_addresses, State}
use Rattle.turn_client_grants.specs.Ledger.{with_ledger}
use Rattle.turn_client_core.specs.contracts.protocol.TurnClientProtocol.{the_view}
use Rattle.turn_client_core.proofs.incoming.AllocatedLemmas.{taken-new}
use Rattle.turn_client_core.proofs.ResultLemmas.{on-err}
use Rattle.turn_client_core.proofs.protocol.TurnClientProtocol.allocated.Goals as goal

pub returns-in_err-reserve-clause-err : goal.returns-in_err-reserve-clause-err
returns-in_err-reserve-clause-err c = on-err _ (c.reserve.ensures.same (the_view c.self.inside) ∙ c.self.view_is)

pub allocated-requires-clause-new : goal.allocated-requires-clause-new
allocated-requires-clause-new c =
    let none = ap (λ (s : State). s.grants) (c.reserve.ensures.same (the_view c.self.inside) ∙ c.self.view_is) ∙ c.requires.before in
    rw (none, c.as_slice.ensures.value, c.in_ok-addresses.ensures)
    (taken-new c.args.lifetime c.args.now c.as_slice-families.result.now (relayed_in c.args.message.now))

pub returns-clause-ok : goal.returns-clause-ok
returns-clause-ok c =
    let s = the_view c.self.inside in
    let gone = transaction_ended (id_of c.args.message.now) s in
    let taken : c.as_slice.result.now ≡ taken_addresses s.families (relayed_in c.args.message.now) =
    c.as_slice.ensures.value ∙ (c.in_ok-addresses.ensures ∙ ap (λ families. taken_addresses families (relayed_in c.args.message.now)) c.as_slice-families.ensures) in
    let same : with_ledger c.reserve.new.self (record gone { families = c.as_slice-families.result.now }) ≡ gone =
    rw c.as_slice-families.ensures (c.reserve.ensures.same gone) in
    rw (c.phase_with-self-inside.ensures, c.as_slice-2.ensures.value, ← c.as_slice.ensures.value, c.clear.ensures.items, c.end.ensures, c.transaction_id.ensures, ← c.self.view_is, ← taken)
    (c.give_back.ensures.state (record gone { phase = phase_with c.as_slice.result.now; families = [] })
    ∙ (c.allocated.ensures.state gone ∙ ap (allocated c.args.lifetime c.as_slice.result.now c.args.now) same))
