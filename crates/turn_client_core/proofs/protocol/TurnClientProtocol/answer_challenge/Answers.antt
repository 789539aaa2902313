use Rattle.turn_client_laws.proofs.Common.{◌≡◌, ◌∙◌, ap, refl, sym, IsSome}
use Rattle.turn_client_laws.proofs.Machine.{challenge_of-MayTake, id_of, purposes_of, retried, state_after_retry, auth_of}
use Rattle.turn_client_grants.specs.GrantFilter.{purposes_in}
use Rattle.turn_client_core.specs.contracts.protocol.TurnClientProtocol.{the_view}
use Rattle.turn_client_core.proofs.ResultLemmas.{on-err}
use Rattle.turn_client_core.proofs.incoming.RetryLemmas.{answered-is, purposes-are, unknown-is}
use Rattle.turn_client_core.proofs.protocol.TurnClientProtocol.answer_challenge.Goals as goal

pub ask_again-requires-clause-fits : goal.ask_again-requires-clause-fits
ask_again-requires-clause-fits c = challenge_of-MayTake (auth_of c.args.self.now) c.args.message.now c.args.challenge.now c.requires.challenge

pub ask_again-requires-clause-asked : goal.ask_again-requires-clause-asked
ask_again-requires-clause-asked c =
    let found : c.retried.result ≡ retried (purposes_of (id_of c.args.message.now) c.args.self.now) =
    c.retried.ensures ∙ ap retried (purposes-are (the_view c.self.inside) c.args.self.now c.args.message.now c.transaction_id-id.result c.table.result.now.listed
    (purposes_in c.purposes_of-purposes.result) c.purposes_of-purposes.ensures c.table.ensures.listed c.transaction_id-id.ensures c.self.view_is) in
    rw c.transaction_id-id.ensures (sym found ∙ c.in-Some.is)

pub returns-in_default-clause-answer : goal.returns-in_default-clause-answer
returns-in_default-clause-answer c =
    let found : c.retried.result ≡ retried (purposes_of (id_of c.args.message.now) c.args.self.now) =
    c.retried.ensures ∙ ap retried (purposes-are (the_view c.self.inside) c.args.self.now c.args.message.now c.transaction_id-id.result c.table.result.now.listed
    (purposes_in c.purposes_of-purposes.result) c.purposes_of-purposes.ensures c.table.ensures.listed c.transaction_id-id.ensures c.self.view_is) in
    sym (ap (λ p. p.0) (unknown-is c.args.self.now c.args.message.now c.args.challenge.now c.args.now c.requires.few (sym found ∙ c.in_default.is)))

pub returns-in_default-clause-after : goal.returns-in_default-clause-after
returns-in_default-clause-after c =
    let found : c.retried.result ≡ retried (purposes_of (id_of c.args.message.now) c.args.self.now) =
    c.retried.ensures ∙ ap retried (purposes-are (the_view c.self.inside) c.args.self.now c.args.message.now c.transaction_id-id.result c.table.result.now.listed
    (purposes_in c.purposes_of-purposes.result) c.purposes_of-purposes.ensures c.table.ensures.listed c.transaction_id-id.ensures c.self.view_is) in
    sym (ap (λ p. p.1) (unknown-is c.args.self.now c.args.message.now c.args.challenge.now c.args.now c.requires.few (sym found ∙ c.in_default.is)))

pub returns-clause-answer : goal.returns-clause-answer
returns-clause-answer c =
    let found : c.retried.result ≡ retried (purposes_of (id_of c.args.message.now) c.args.self.now) =
    c.retried.ensures ∙ ap retried (purposes-are (the_view c.self.inside) c.args.self.now c.args.message.now c.transaction_id-id.result c.table.result.now.listed
    (purposes_in c.purposes_of-purposes.result) c.purposes_of-purposes.ensures c.table.ensures.listed c.transaction_id-id.ensures c.self.view_is) in
    sym (ap (λ p. p.0) (answered-is c.args.self.now c.args.message.now c.args.challenge.now c.args.now c.in-Some.purpose c.requires.few (sym found ∙ c.in-Some.is)))

pub returns-clause-after : goal.returns-clause-after
returns-clause-after c =
    let found : c.retried.result ≡ retried (purposes_of (id_of c.args.message.now) c.args.self.now) =
    c.retried.ensures ∙ ap retried (purposes-are (the_view c.self.inside) c.args.self.now c.args.message.now c.transaction_id-id.result c.table.result.now.listed
    (purposes_in c.purposes_of-purposes.result) c.purposes_of-purposes.ensures c.table.ensures.listed c.transaction_id-id.ensures c.self.view_is) in
    c.in_ok-ask_again.ensures.ok
    ∙ (ap (λ id. state_after_retry c.args.self.now id c.in-Some.purpose c.args.challenge.now c.args.now) c.transaction_id-id.ensures
    ∙ sym (ap (λ p. p.1) (answered-is c.args.self.now c.args.message.now c.args.challenge.now c.args.now c.in-Some.purpose c.requires.few (sym found ∙ c.in-Some.is))))

pub returns-in_err-ask_again-clause-wanted : goal.returns-in_err-ask_again-clause-wanted
returns-in_err-ask_again-clause-wanted c =
    let found : c.retried.result ≡ retried (purposes_of (id_of c.args.message.now) c.args.self.now) =
    c.retried.ensures ∙ ap retried (purposes-are (the_view c.self.inside) c.args.self.now c.args.message.now c.transaction_id-id.result c.table.result.now.listed
    (purposes_in c.purposes_of-purposes.result) c.purposes_of-purposes.ensures c.table.ensures.listed c.transaction_id-id.ensures c.self.view_is) in
    let some : IsSome (retried (purposes_of (id_of c.args.message.now) c.args.self.now)) = rw (sym found ∙ c.in-Some.is) refl in
    on-err _ some
