use Rattle.std.proofs.Common.{◌∙◌, sym}
use Rattle.turn_client_grants.proofs.PassedLemmas.{left-by}
use Rattle.turn_client_grants.proofs.totals.with_grant.Goals as goal

pub returns-then-adds_nothing : goal.returns-then-adds_nothing
returns-then-adds_nothing c =
    left-by c.args.totals.now c.args.grant.now c.args.grants.now c.args.listed.now (sym c.adds_nothing-adds_nothing.ensures ∙ c.if-adds_nothing.true)
