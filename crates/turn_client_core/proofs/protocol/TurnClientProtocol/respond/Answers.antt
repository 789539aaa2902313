use Rattle.turn_client_laws.proofs.Common.{◌≢◌, ◌∙◌, [], ap, filter, fold, sym}
use Rattle.turn_client_laws.proofs.Machine.{effect, transaction_ended, method_in, answered_purposes, is_answered, outcome_for, id_of}
use Rattle.turn_client_core.specs.Effects.{after}
use Rattle.turn_client_grants.specs.Ledger.{with_ledger}
use Rattle.turn_client_grants.specs.GrantFilter.{purposes_in}
use Rattle.turn_client_core.specs.contracts.protocol.TurnClientProtocol.{the_view}
use Rattle.turn_client_core.proofs.calls.AskLemmas.{with_outbox}
use Rattle.turn_client_core.proofs.ResultLemmas.{on-err}
use Rattle.turn_client_core.proofs.incoming.RetryLemmas.{purposes-are}
use Rattle.turn_client_core.proofs.protocol.TurnClientProtocol.respond.Goals as goal

pub returns-then-is_empty-clause-answer : goal.returns-then-is_empty-clause-answer
returns-then-is_empty-clause-answer c =
    let read = c.answered-purposes.ensures
    ∙ (ap (λ n. filter (is_answered n) (purposes_in c.purposes_of.result)) c.method.ensures
    ∙ ap (filter (is_answered (method_in c.args.message.now))) (purposes-are (the_view c.self.inside) c.args.self.now c.args.message.now c.transaction_id-id.result c.table.result.now.listed
    (purposes_in c.purposes_of.result) c.purposes_of.ensures c.table.ensures.listed c.transaction_id-id.ensures c.self.view_is)) in
    c.reported_of.ensures.outcome ∙ ap (outcome_for c.args.message.now) read

pub returns-then-is_empty-clause-after : goal.returns-then-is_empty-clause-after
returns-then-is_empty-clause-after c =
    let read = c.answered-purposes.ensures
    ∙ (ap (λ n. filter (is_answered n) (purposes_in c.purposes_of.result)) c.method.ensures
    ∙ ap (filter (is_answered (method_in c.args.message.now))) (purposes-are (the_view c.self.inside) c.args.self.now c.args.message.now c.transaction_id-id.result c.table.result.now.listed
    (purposes_in c.purposes_of.result) c.purposes_of.ensures c.table.ensures.listed c.transaction_id-id.ensures c.self.view_is)) in
    let s = the_view c.self.inside in
    let m = c.args.message.now in
    let none = sym read ∙ c.is_empty.ensures.none c.if-is_empty.true in
    ap (λ o. with_outbox o s) c.end.ensures
    ∙ (ap (λ i. transaction_ended i s) c.transaction_id.ensures
    ∙ (ap (λ u. transaction_ended (id_of m) u) c.self.view_is
    ∙ sym (ap (λ ps. fold (effect (id_of m) c.args.is_granted m c.args.now) (transaction_ended (id_of m) c.args.self.now) ps) none)))

pub returns-in_default-clause-wanted : goal.returns-in_default-clause-wanted
returns-in_default-clause-wanted c =
    let read = c.answered-purposes.ensures
    ∙ (ap (λ n. filter (is_answered n) (purposes_in c.purposes_of.result)) c.method.ensures
    ∙ ap (filter (is_answered (method_in c.args.message.now))) (purposes-are (the_view c.self.inside) c.args.self.now c.args.message.now c.transaction_id-id.result c.table.result.now.listed
    (purposes_in c.purposes_of.result) c.purposes_of.ensures c.table.ensures.listed c.transaction_id-id.ensures c.self.view_is)) in
    λ none. c.is_empty.ensures.some c.if-is_empty.false (read ∙ none)

pub returns-in_err-reserve-clause-wanted : goal.returns-in_err-reserve-clause-wanted
returns-in_err-reserve-clause-wanted c =
    let read = c.answered-purposes.ensures
    ∙ (ap (λ n. filter (is_answered n) (purposes_in c.purposes_of.result)) c.method.ensures
    ∙ ap (filter (is_answered (method_in c.args.message.now))) (purposes-are (the_view c.self.inside) c.args.self.now c.args.message.now c.transaction_id-id.result c.table.result.now.listed
    (purposes_in c.purposes_of.result) c.purposes_of.ensures c.table.ensures.listed c.transaction_id-id.ensures c.self.view_is)) in
    let some : answered_purposes c.args.message.now c.args.self.now ≢ [] = λ none. c.is_empty.ensures.some c.if-is_empty.false (read ∙ none) in
    on-err _ some

pub returns-in_err-reserve-clause-err : goal.returns-in_err-reserve-clause-err
returns-in_err-reserve-clause-err c = on-err _ (c.reserve.ensures.same (the_view c.self.inside) ∙ c.self.view_is)

pub returns-clause-answer : goal.returns-clause-answer
returns-clause-answer c =
    let read = c.answered-purposes.ensures
    ∙ (ap (λ n. filter (is_answered n) (purposes_in c.purposes_of.result)) c.method.ensures
    ∙ ap (filter (is_answered (method_in c.args.message.now))) (purposes-are (the_view c.self.inside) c.args.self.now c.args.message.now c.transaction_id-id.result c.table.result.now.listed
    (purposes_in c.purposes_of.result) c.purposes_of.ensures c.table.ensures.listed c.transaction_id-id.ensures c.self.view_is)) in
    c.reported_of-2.ensures.outcome ∙ ap (outcome_for c.args.message.now) read

pub returns-clause-after : goal.returns-clause-after
returns-clause-after c =
    let read = c.answered-purposes.ensures
    ∙ (ap (λ n. filter (is_answered n) (purposes_in c.purposes_of.result)) c.method.ensures
    ∙ ap (filter (is_answered (method_in c.args.message.now))) (purposes-are (the_view c.self.inside) c.args.self.now c.args.message.now c.transaction_id-id.result c.table.result.now.listed
    (purposes_in c.purposes_of.result) c.purposes_of.ensures c.table.ensures.listed c.transaction_id-id.ensures c.self.view_is)) in
    let s = the_view c.self.inside in
    let id = c.transaction_id-id.result in
    let m = c.args.message.now in
    let ps = purposes_in c.answered-purposes.result in
    let f = effect (id_of m) c.args.is_granted m c.args.now in
    let given = c.answer_all-effect.result in
    c.apply_effect.ensures
    ∙ (ap (after given) (c.give_back.ensures.state (with_outbox c.end-2.new.self s))
    ∙ (ap (λ o. after given (with_ledger c.answer_all-effect.new.ledger (with_outbox o s))) c.end-2.ensures
    ∙ (c.answer_all-effect.ensures.state (transaction_ended id s)
    ∙ (ap (λ u. fold f u ps) (c.reserve.ensures.same (transaction_ended id s))
    ∙ (ap (λ qs. fold f (transaction_ended id s) qs) read
    ∙ (ap (λ i. fold f (transaction_ended i s) (answered_purposes m c.args.self.now)) c.transaction_id-id.ensures
    ∙ ap (λ u. fold f (transaction_ended (id_of m) u) (answered_purposes m c.args.self.now)) c.self.view_is))))))
