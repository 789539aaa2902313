use Rattle.std.proofs.Common.{◌∙◌, sym, ap, subst}
use Rattle.std.specs.Prelude.{Option}
use Rattle.turn_session_path.specs.PathDue.{IsLater, path_due}
use Rattle.turn_session_path.specs.declared.path.Path.{Path}
use Rattle.turn_session_path.specs.declared.path.PathTask.{PathTask}
use Rattle.turn_session_path.proofs.RestLemmas.{rests}
use Rattle.turn_session_path.proofs.path.Path.poll.Goals as goal

pub returns-clause-later : goal.returns-clause-later
returns-clause-later c = λ none.
    let step = c.poll_parts.ensures in
    subst (λ (q : Path). IsLater c.args.now (path_due q)) (sym (ap (λ (x : Option PathTask × Path). x.1) step))
    (rests c.args.now c.args.self.now (sym (ap (λ (x : Option PathTask × Path). x.0) step) ∙ none))
