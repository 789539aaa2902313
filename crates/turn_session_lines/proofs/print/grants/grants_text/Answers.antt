use Rattle.std.proofs.Common.{sym, ap, ◌∙◌, arith, length}
use Rattle.std.proofs.lemmas.List.{take_all}
use Rattle.turn_lines.proofs.ListLemmas.{fields_text-list, list_text}
use Rattle.turn_session_lines.specs.Text.{grant_fields}
use Rattle.turn_session_lines.proofs.print.grants.grants_text.Goals as goal

pub returns : goal.returns
returns c =
    c.loop-grant.invariant
    ∙ ap (list_text grant_fields (length c.args.grants.now)) (take_all c.loop-grant.grant-index c.args.grants.now (omega arith))
    ∙ sym (fields_text-list grant_fields c.args.grants.now)
