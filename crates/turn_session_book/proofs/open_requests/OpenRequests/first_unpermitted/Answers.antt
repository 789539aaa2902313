use Rattle.std.proofs.Common.{◌≡◌, get_or, sym}
use Rattle.turn_session_book.specs.OpenRequests.{is_unrequested}
use Rattle.turn_session_book.proofs.FirstLemmas.{find-some, position-none}
use Rattle.turn_session_book.proofs.open_requests.OpenRequests.first_unpermitted.Goals as goal

pub returns-in-Some : goal.returns-in-Some
returns-in-Some c =
    let r = c.index.result.now in
    let taken : r ≡ get_or c.args.self.now c.in-Some.place r = rw (← c.self.view_is) c.index.ensures in
    sym (find-some (is_unrequested c.args.self.now) c.args.self.now c.in-Some.place r (sym c.in-Some.ensures) taken)

pub returns-in-None : goal.returns-in-None
returns-in-None c = sym (position-none (is_unrequested c.args.self.now) c.args.self.now (sym c.in-None.ensures))
