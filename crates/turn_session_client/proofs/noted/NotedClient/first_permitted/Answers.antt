use Rattle.std.proofs.Common.{◌≡◌, ◌∙◌, List, ap, sym}
use Rattle.std.specs.Prelude.{find}
use Rattle.turn_session_book.proofs.FirstLemmas.{find-some, position-none}
use Rattle.turn_session_book.specs.declared.open_requests.OpenRequest.{OpenRequest}
use Rattle.turn_session_client.specs.NotedState.{NotedState}
use Rattle.turn_session_client.specs.Permitting.{first_permitted, is_permitted}
use Rattle.turn_session_client.proofs.noted.NotedClient.first_permitted.Goals as goal

found-in : (s : NotedState) (rows : List OpenRequest) → rows ≡ s.notes.book.requests → find (is_permitted s) rows ≡ first_permitted s
found-in s rows same = ap (find (is_permitted s)) same

pub returns-in-Some : goal.returns-in-Some
returns-in-Some g c =
    let s = c.args.self.now in
    let rows = c.requests-requests.result.now in
    let r = c.index-requests-place.result in
    let same : rows ≡ s.notes.book.requests = c.requests-requests.ensures ∙ ap (λ (t : NotedState). t.notes.book.requests) c.self.view_is in
    sym (find-some (is_permitted s) rows c.in-Some.place r (sym c.permitted_place.ensures ∙ c.in-Some.is) c.index-requests-place.is) ∙ found-in s rows same

pub returns-in-None : goal.returns-in-None
returns-in-None g c =
    let s = c.args.self.now in
    let rows = c.requests-requests.result.now in
    let same : rows ≡ s.notes.book.requests = c.requests-requests.ensures ∙ ap (λ (t : NotedState). t.notes.book.requests) c.self.view_is in
    sym (position-none (is_permitted s) rows (sym c.permitted_place.ensures ∙ c.in-None.is)) ∙ found-in s rows same
