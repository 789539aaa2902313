use Rattle.std.proofs.Common.{◌∙◌, ap, sym}
use Rattle.turn_client_grants.specs.Table.{unlisted_in}
use Rattle.turn_client_grants.proofs.FoundLemmas.{key-finds, renewal-leaves}
use Rattle.turn_client_grants.proofs.table.GrantTable.renew.Goals as goal

pub change_one-requires : goal.change_one-requires
change_one-requires c = renewal-leaves c.args.which.now c.in-Some.key c.args.expiry (sym c.key.ensures ∙ c.in-Some.is)

pub returns-in-Some-clause-listed : goal.returns-in-Some-clause-listed
returns-in-Some-clause-listed c =
    c.change_one.ensures.listed
    ∙ ap (λ f. unlisted_in f c.args.self.now.grants c.args.self.now.listed) (key-finds c.args.which.now c.in-Some.key (sym c.key.ensures ∙ c.in-Some.is))
