use Rattle.std.proofs.Common.{◌≡◌, false, get_or, sym, ap}
use Rattle.std.specs.Option.{option_map_or}
use Rattle.std.specs.Prelude.{Option}
use Rattle.turn_session_book.specs.Held.{is_of}
use Rattle.turn_session_book.specs.declared.held.HeldGrant.{HeldGrant}
use Rattle.turn_session_book.proofs.FirstLemmas.{find-some, position-none}
use Rattle.turn_session_book.proofs.held.Held.is_kept.Goals as goal

pub returns-in-Some : goal.returns-in-Some
returns-in-Some c =
    let g = c.index.result.now in
    let taken : g ≡ get_or c.args.self.now c.in-Some.place g = rw (← c.self.view_is) c.index.ensures in
    ap (λ (row : Option HeldGrant). option_map_or (λ (x : HeldGrant). x.is_kept) row false)
    (sym (find-some (is_of c.args.key) c.args.self.now c.in-Some.place g (sym c.in-Some.ensures) taken))

pub returns-in-None : goal.returns-in-None
returns-in-None c =
    ap (λ (row : Option HeldGrant). option_map_or (λ (x : HeldGrant). x.is_kept) row false)
    (sym (position-none (is_of c.args.key) c.args.self.now (sym c.in-None.ensures)))
