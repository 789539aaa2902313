use Rattle.turn_client_laws.proofs.Common.{◌∙◌, ap, fold, sym, option_to_list, fold-append}
use Rattle.turn_client_laws.proofs.Machine.{effect, id_of}
use Rattle.turn_client_core.specs.Effects.{after}
use Rattle.turn_client_core.proofs.incoming.EffectLemmas.{after-on}
use Rattle.turn_client_grants.specs.Ledger.{with_ledger}
use Rattle.turn_client_core.proofs.effect.answer_all.Goals as goal

pub returns-clause-state : goal.returns-clause-state
returns-clause-state c = λ s.
    let f = effect (id_of c.args.message.now) c.args.is_granted c.args.message.now c.args.now in
    let first = c.answer_one-first.result in
    let purposes = c.args.purposes.now in
    c.then.ensures (with_ledger c.answer_one-second.new.ledger s)
    ∙ (ap (after c.answer_one-second.result) (after-on first c.answer_one-second.new.ledger s)
    ∙ (c.answer_one-second.ensures.state (after first s)
    ∙ (ap (λ t. fold f t (option_to_list purposes.second)) (sym (after-on first c.answer_one-first.new.ledger s) ∙ c.answer_one-first.ensures.state s)
    ∙ sym (fold-append f (with_ledger c.args.ledger.now s) (option_to_list purposes.first) (option_to_list purposes.second)))))
