use Rattle.std.proofs.Common.{◌≡◌, take, length, string_bytes}
use Rattle.turn_lines.proofs.ListLemmas.{list_text}
use Rattle.turn_lines.specs.Text.{relayed_fields}
use Rattle.turn_lines.proofs.print.list.relayed_text.Given as goal

abbrev pub invariant-loop-address : goal.invariant-loop-address
invariant-loop-address l = string_bytes l.text ≡ list_text relayed_fields (length l.relayed) (take l.address-index l.relayed)
