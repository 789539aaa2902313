use Rattle.std.proofs.Common.{sym, ap, ◌∙◌, arith, length}
use Rattle.std.proofs.lemmas.List.{take_all}
use Rattle.turn_lines.specs.Text.{relayed_fields}
use Rattle.turn_lines.proofs.ListLemmas.{fields_text-list, list_text}
use Rattle.turn_lines.proofs.print.list.relayed_text.Goals as goal

pub returns : goal.returns
returns c =
    c.loop-address.invariant
    ∙ ap (list_text relayed_fields (length c.args.relayed.now)) (take_all c.loop-address.address-index c.args.relayed.now (omega arith))
    ∙ sym (fields_text-list relayed_fields c.args.relayed.now)
