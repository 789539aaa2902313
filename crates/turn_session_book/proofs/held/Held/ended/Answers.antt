use Rattle.std.proofs.Common.{◌≡◌, List, get_or, sym, ap, ◌∙◌}
use Rattle.std.specs.Prelude.{option_map, remove}
use Rattle.turn_session_book.specs.Held.{is_of}
use Rattle.turn_session_book.specs.declared.held.HeldGrant.{HeldGrant}
use Rattle.turn_session_book.proofs.FirstLemmas.{find-some, position-none, without_first-none, without_first-some}
use Rattle.turn_session_book.proofs.held.Held.ended.Goals as goal

pub returns-in-Some-clause-kept : goal.returns-in-Some-clause-kept
returns-in-Some-clause-kept c =
    let g = c.remove-ended.result in
    let taken : g ≡ get_or c.args.self.now c.in-Some.place g = rw (← c.self.view_is) c.remove-ended.ensures.value in
    ap (option_map (λ (row : HeldGrant). row.is_kept)) (sym (find-some (is_of c.args.key) c.args.self.now c.in-Some.place g (sym c.in-Some.ensures) taken))

pub returns-in-Some-clause-after : goal.returns-in-Some-clause-after
returns-in-Some-clause-after c =
    c.remove-ended.ensures.items ∙ (ap (λ (rows : List HeldGrant). remove rows c.in-Some.place) c.self.view_is
    ∙ sym (without_first-some (is_of c.args.key) c.args.self.now c.in-Some.place (sym c.in-Some.ensures)))

pub returns-in-None-clause-kept : goal.returns-in-None-clause-kept
returns-in-None-clause-kept c =
    ap (option_map (λ (row : HeldGrant). row.is_kept)) (sym (position-none (is_of c.args.key) c.args.self.now (sym c.in-None.ensures)))

pub returns-in-None-clause-after : goal.returns-in-None-clause-after
returns-in-None-clause-after c = sym (without_first-none (is_of c.args.key) c.args.self.now (sym c.in-None.ensures))
