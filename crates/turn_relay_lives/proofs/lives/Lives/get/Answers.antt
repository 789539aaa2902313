use Rattle.std.proofs.Common.{◌≡◌, get_or, sym}
use Rattle.turn_session_book.proofs.FirstLemmas.{find-some, position-none}
use Rattle.turn_relay_lives.specs.LiveState.{is_socket}
use Rattle.turn_relay_lives.proofs.lives.Lives.get.Goals as goal

pub returns-in-Some : goal.returns-in-Some
returns-in-Some g c =
    let l = c.index.result.now in
    let taken : l ≡ get_or c.args.self.now c.in-Some.place l = rw (← c.self.view_is) c.index.ensures in
    sym (find-some (is_socket c.args.socket) c.args.self.now c.in-Some.place l (sym c.in-Some.ensures) taken)

pub returns-in-None : goal.returns-in-None
returns-in-None g c = sym (position-none (is_socket c.args.socket) c.args.self.now (sym c.in-None.ensures))
