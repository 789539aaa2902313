use Rattle.std.proofs.Common.{◌≡◌, ◌∷◌, ◌++◌, [], None, List, sym, ap, ◌∙◌, subst}
use Rattle.turn_session_book.specs.Once.{AreRequests, request_key, times}
use Rattle.turn_session_book.specs.OpenRequests.{new_request, request_for}
use Rattle.turn_session_book.specs.declared.open_requests.OpenRequest.{OpenRequest}
use Rattle.turn_session_book.proofs.OnceLemmas.{absent-find, once-push}
use Rattle.turn_session_book.proofs.open_requests.OpenRequests.add.Goals as goal

pub invariant_of-self-2 : goal.invariant_of-self-2
invariant_of-self-2 c =
    let requests = c.args.self.now in
    let are : AreRequests requests = rw (← c.self.view_is) c.self.invariant in
    let none : request_for c.args.key requests ≡ None = search (c.in_default.is, c.request_of.ensures, c.in_default.ensures) in
    let made : c.push_reserved.new.self.items ≡ requests ++ new_request c.args.ticket c.args.key c.args.progress ∷ [] =
    c.push_reserved.ensures.items ∙ ap (λ (rows : List OpenRequest). rows ++ new_request c.args.ticket c.args.key c.args.progress ∷ []) (c.reserve.ensures.items ∙ c.self.view_is) in
    let fresh : times request_key c.args.key requests ≡ 0 = absent-find request_key c.args.key requests none in
    subst AreRequests (sym made) (once-push request_key requests (new_request c.args.ticket c.args.key c.args.progress) fresh are)
