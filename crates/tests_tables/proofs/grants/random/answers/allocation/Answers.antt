use Rattle.std.proofs.Common.{◌≡◌, ◌∙◌, refl, sym}
use Rattle.std.specs.Prelude.{None}
use Rattle.turn_client_api.specs.Grants.{family_of}
use Rattle.turn_client_grants.specs.Lists.{find_allocation_in}
use Rattle.turn_client_grants.proofs.ThereLemmas.{absent, someone}
use Rattle.tests_tables.proofs.grants.random.answers.allocation.Goals as goal

pub allocated-requires-clause-new : goal.allocated-requires-clause-new
allocated-requires-clause-new c =
    let relayed = c.address-relayed.result in
    let none : find_allocation_in (family_of relayed) c.reserve.new.self.grants ≡ None =
    rw (c.family_of.ensures, c.table.ensures.grants) at (sym (c.find_allocation.ensures (someone relayed)) ∙ absent c.find_allocation.result (sym c.is_some.ensures ∙ c.if-is_some.false)) in
    rw none refl
