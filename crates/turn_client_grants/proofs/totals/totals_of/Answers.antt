use Rattle.std.proofs.Common.{rules, ◌≡◌, ◌∙◌, ◌∷◌, ◌+◌, ◌<◌, ap, drop, length, sym}
use Rattle.std.proofs.lemmas.List.{drop_more}
use Rattle.turn_client_grants.proofs.TotalsLemmas.{read-on}
use Rattle.turn_client_grants.proofs.totals.totals_of.Goals as goal

pub loop-grant-preserved : goal.loop-grant-preserved
loop-grant-preserved c =
    let before = c.loop-grant in
    let these = c.args.these.now in
    let next = before.grant-index + 1 in
    let less : before.grant-index < length these = search rules in
    let split : drop before.grant-index these ≡ c.grant-item.result ∷ drop next these =
    drop_more these before.grant-index c.grant-item.result less ∙ ap (λ g. g ∷ drop next these) (sym c.grant-item.is) in
    read-on c.with_grant-totals.result before.totals c.args.start.now c.grant-item.result (drop next these) these c.args.grants.now c.args.listed.now c.with_grant-totals.ensures
    (rw split at before.invariant)
