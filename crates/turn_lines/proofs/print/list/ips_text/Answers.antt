use Rattle.std.proofs.Common.{[], ◌∷◌, sym, ap, ◌∙◌, arith, length}
use Rattle.std.proofs.lemmas.List.{take_all}
use Rattle.turn_lines.specs.Text.{ip_text}
use Rattle.turn_lines.proofs.ListLemmas.{fields_text-list, list_text}
use Rattle.turn_lines.proofs.print.list.ips_text.Goals as goal

pub returns : goal.returns
returns c =
    c.loop-ip.invariant
    ∙ ap (list_text (λ ip. ip_text ip ∷ []) (length c.args.ips.now)) (take_all c.loop-ip.ip-index c.args.ips.now (omega arith))
    ∙ sym (fields_text-list (λ ip. ip_text ip ∷ []) c.args.ips.now)
