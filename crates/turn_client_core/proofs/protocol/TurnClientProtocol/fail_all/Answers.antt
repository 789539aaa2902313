use Rattle.turn_client_laws.proofs.Common.{◌≡◌, ◌∙◌, [], ap, sym}
use Rattle.turn_client_laws.proofs.Machine.{fail_all, State}
use Rattle.turn_client_core.specs.contracts.protocol.TurnClientProtocol.{the_view}
use Rattle.turn_client_core.proofs.incoming.EffectLemmas.{fail-none, nil-from}
use Rattle.turn_client_core.proofs.ResultLemmas.{on-err}
use Rattle.turn_client_core.proofs.protocol.TurnClientProtocol.fail_all.Goals as goal

pub returns-then-is_empty-clause-ok : goal.returns-then-is_empty-clause-ok
returns-then-is_empty-clause-ok c =
    let none : c.args.self.now.families ≡ [] = sym (ap (λ (s : State). s.families) c.self.view_is)
    ∙ (sym c.as_slice.ensures ∙ nil-from c.as_slice.result.now (sym c.is_empty.ensures ∙ c.if-is_empty.true)) in
    sym (fail-none c.args.self.now none)

pub returns-in_err-reserve-clause-err : goal.returns-in_err-reserve-clause-err
returns-in_err-reserve-clause-err c = on-err _ (c.reserve.ensures.same (the_view c.self.inside) ∙ c.self.view_is)

pub returns-clause-ok : goal.returns-clause-ok
returns-clause-ok c =
    let s = the_view c.self.inside in
    rw (c.clear.ensures.items, ← c.self.view_is)
    (c.fail_families.ensures.state s ∙ ap fail_all (rw c.as_slice-2.ensures (c.reserve.ensures.same s)))
