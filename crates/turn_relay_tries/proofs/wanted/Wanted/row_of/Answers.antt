use Rattle.std.proofs.Common.{◌≡◌, get_or, sym}
use Rattle.turn_session_book.proofs.FirstLemmas.{find-some, position-none}
use Rattle.turn_relay_tries.specs.Wanted.{of_key}
use Rattle.turn_relay_tries.proofs.wanted.Wanted.row_of.Goals as goal

pub returns-in-Some : goal.returns-in-Some
returns-in-Some c =
    let r = c.index.result.now in
    let taken : r ≡ get_or c.args.self.now.keys c.in-Some.place r = rw (← c.self.view_is) c.index.ensures in
    sym (find-some (of_key c.args.key) c.args.self.now.keys c.in-Some.place r (sym c.in-Some.ensures) taken)

pub returns-in-None : goal.returns-in-None
returns-in-None c = sym (position-none (of_key c.args.key) c.args.self.now.keys (sym c.in-None.ensures))
