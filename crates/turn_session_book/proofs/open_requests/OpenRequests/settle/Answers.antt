use Rattle.std.proofs.Common.{◌≡◌, List, get_or, sym, ap, ◌∙◌}
use Rattle.std.specs.Prelude.{remove}
use Rattle.turn_session_book.specs.OpenRequests.{is_for}
use Rattle.turn_session_book.specs.declared.open_requests.OpenRequest.{OpenRequest}
use Rattle.turn_session_book.proofs.FirstLemmas.{find-some, position-none, without_first-none, without_first-some}
use Rattle.turn_session_book.proofs.open_requests.OpenRequests.settle.Goals as goal

pub returns-in-Some-clause-request : goal.returns-in-Some-clause-request
returns-in-Some-clause-request c =
    let r = c.remove.result in
    let taken : r ≡ get_or c.args.self.now c.in-Some.place r = rw (← c.self.view_is) c.remove.ensures.value in
    sym (find-some (is_for c.args.key) c.args.self.now c.in-Some.place r (sym c.in-Some.ensures) taken)

pub returns-in-Some-clause-after : goal.returns-in-Some-clause-after
returns-in-Some-clause-after c =
    c.remove.ensures.items ∙ (ap (λ (rows : List OpenRequest). remove rows c.in-Some.place) c.self.view_is
    ∙ sym (without_first-some (is_for c.args.key) c.args.self.now c.in-Some.place (sym c.in-Some.ensures)))

pub returns-in-None-clause-request : goal.returns-in-None-clause-request
returns-in-None-clause-request c = sym (position-none (is_for c.args.key) c.args.self.now (sym c.in-None.ensures))

pub returns-in-None-clause-after : goal.returns-in-None-clause-after
returns-in-None-clause-after c = sym (without_first-none (is_for c.args.key) c.args.self.now (sym c.in-None.ensures))
