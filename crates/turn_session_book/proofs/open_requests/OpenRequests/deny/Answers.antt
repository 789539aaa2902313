use Rattle.std.proofs.Common.{◌≡◌, ◌∙◌, List, ap, subst, sym}
use Rattle.turn_session_book.specs.Once.{AreRequests}
use Rattle.turn_session_book.specs.OpenRequests.{with_denied}
use Rattle.turn_session_book.specs.declared.open_requests.OpenRequest.{OpenRequest}
use Rattle.turn_session_book.proofs.OnceLemmas.{denied-once}
use Rattle.turn_session_book.proofs.open_requests.OpenRequests.deny.Goals as goal

pub invariant_of-self : goal.invariant_of-self
invariant_of-self c =
    let requests = c.args.self.now in
    let are : AreRequests requests = rw (← c.self.view_is) c.self.invariant in
    let made = c.deny_all.ensures ∙ ap (λ (rows : List OpenRequest). with_denied c.args.permission c.args.error rows) c.self.view_is in
    subst AreRequests (sym made) (denied-once c.args.permission c.args.error requests are)
