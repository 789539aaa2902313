use Rattle.std.proofs.Common.{◌≡◌, true, false, ltb, rules, sym, get_or}
use Rattle.turn_session_book.proofs.RestLemmas.{rest_in_force-none, rest_in_force-before, rest_in_force-after}
use Rattle.turn_session_book.proofs.rests.Rests.rest_of.Goals as goal

pub returns-in-None : goal.returns-in-None
returns-in-None c = rest_in_force-none c.args.key c.args.now c.args.self.now (sym c.in-None.ensures)

pub returns-then-lt : goal.returns-then-lt
returns-then-lt c =
    let r = c.index.result.now in
    let taken : r ≡ get_or c.args.self.now c.in-Some.place r = rw (← c.self.view_is) c.index.ensures in
    let before : ltb c.args.now r.until ≡ true = search rules in
    rest_in_force-before c.args.key c.args.now c.args.self.now c.in-Some.place r (sym c.in-Some.ensures) taken before

pub returns-else-lt : goal.returns-else-lt
returns-else-lt c =
    let r = c.index.result.now in
    let taken : r ≡ get_or c.args.self.now c.in-Some.place r = rw (← c.self.view_is) c.index.ensures in
    let after : ltb c.args.now r.until ≡ false = search rules in
    rest_in_force-after c.args.key c.args.now c.args.self.now c.in-Some.place r (sym c.in-Some.ensures) taken after
