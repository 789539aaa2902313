use Rattle.std.proofs.Common.{◌≡◌, [], ◌∷◌, take, length, string_bytes}
use Rattle.turn_lines.proofs.ListLemmas.{list_text}
use Rattle.turn_lines.specs.Text.{ip_text}
use Rattle.turn_lines.proofs.print.list.ips_text.Given as goal

abbrev pub invariant-loop-ip : goal.invariant-loop-ip
invariant-loop-ip l = string_bytes l.text ≡ list_text (λ ip. ip_text ip ∷ []) (length l.ips) (take l.ip-index l.ips)
