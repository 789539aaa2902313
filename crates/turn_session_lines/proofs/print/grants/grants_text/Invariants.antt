use Rattle.std.proofs.Common.{◌≡◌, take, length, string_bytes}
use Rattle.turn_lines.proofs.ListLemmas.{list_text}
use Rattle.turn_session_lines.specs.Text.{grant_fields}
use Rattle.turn_session_lines.proofs.print.grants.grants_text.Given as goal

abbrev pub invariant-loop-grant : goal.invariant-loop-grant
invariant-loop-grant l = string_bytes l.text ≡ list_text grant_fields (length l.grants) (take l.grant-index l.grants)
