use Rattle.std.proofs.Common.{◌≡◌, get_or, sym, ap}
use Rattle.std.specs.Prelude.{option_map}
use Rattle.turn_session_book.proofs.FirstLemmas.{find-some, position-none}
use Rattle.turn_relay_tries.specs.Wanted.{is_next, key_in}
use Rattle.turn_relay_tries.proofs.wanted.Wanted.next_key.Goals as goal

pub returns-in-Some : goal.returns-in-Some
returns-in-Some c =
    let r = c.index.result.now in
    let taken : r ≡ get_or c.args.self.now.keys c.in-Some.place r = rw (← c.self.view_is) c.index.ensures in
    ap (option_map key_in) (sym (find-some (is_next c.args.self.now) c.args.self.now.keys c.in-Some.place r (sym c.in-Some.ensures) taken))

pub returns-in-None : goal.returns-in-None
returns-in-None c = ap (option_map key_in) (sym (position-none (is_next c.args.self.now) c.args.self.now.keys (sym c.in-None.ensures)))
