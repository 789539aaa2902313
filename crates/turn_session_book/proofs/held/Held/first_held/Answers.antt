use Rattle.std.proofs.Common.{◌≡◌, get_or, sym}
use Rattle.turn_session_book.specs.Held.{is_held_in}
use Rattle.turn_session_book.proofs.FirstLemmas.{find-some, position-none}
use Rattle.turn_session_book.proofs.held.Held.first_held.Goals as goal

pub returns-in-Some : goal.returns-in-Some
returns-in-Some c =
    let g = c.index.result.now in
    let taken : g ≡ get_or c.args.self.now c.in-Some.place g = rw (← c.self.view_is) c.index.ensures in
    sym (find-some (is_held_in c.args.family) c.args.self.now c.in-Some.place g (sym c.in-Some.ensures) taken)

pub returns-in-None : goal.returns-in-None
returns-in-None c = sym (position-none (is_held_in c.args.family) c.args.self.now (sym c.in-None.ensures))
