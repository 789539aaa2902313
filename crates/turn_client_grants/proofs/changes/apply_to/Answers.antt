use Rattle.std.proofs.Common.{◌∙◌, ap, arith, sym}
use Rattle.std.proofs.lemmas.Grind.{common_steps}
use Rattle.std.proofs.lemmas.List.Edits.{map_over_more}
use Rattle.turn_client_grants.specs.Keys.{is_found_by}
use Rattle.turn_client_grants.specs.Table.{changed}
use Rattle.turn_client_grants.proofs.changes.apply_to.Goals as goal
use Rattle.turn_client_grants.proofs.changes.apply_to.Goals.{then-finds, else-finds}

pub loop-grant-preserved : goal.loop-grant-preserved
loop-grant-preserved c = elim c.if-finds.branch [
  | then-finds w ↦ grind (arith, common_steps, map_over_more (changed c.args.change.now))
  | else-finds w ↦
      let other = ap (is_found_by c.args.key.now) c.grant-item.is ∙ (sym c.finds.ensures ∙ w.if-finds.false) in
      grind (arith, common_steps, c.requires c.grant-item.result other, map_over_more (changed c.args.change.now))
]
