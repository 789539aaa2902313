use Rattle.std.proofs.Common.{◌≡◌, get_or, sym, ap}
use Rattle.std.specs.Prelude.{option_map}
use Rattle.turn_session_book.proofs.FirstLemmas.{find-some, position-none}
use Rattle.turn_relay_tries.specs.Tasks.{is_new, task_in}
use Rattle.turn_relay_tries.proofs.tasks.Tasks.give.Goals as goal

pub returns-in-Some-clause-task : goal.returns-in-Some-clause-task
returns-in-Some-clause-task c =
    let r = c.index-row.result.now in
    let taken : r ≡ get_or c.args.self.now.rows c.in-Some.place r = rw (← c.self.view_is) c.index-row.ensures in
    ap (option_map task_in) (sym (find-some is_new c.args.self.now.rows c.in-Some.place r (sym c.in-Some.ensures) taken))

pub returns-in-None-clause-task : goal.returns-in-None-clause-task
returns-in-None-clause-task c = ap (option_map task_in) (sym (position-none is_new c.args.self.now.rows (sym c.in-None.ensures)))
