use Rattle.std.proofs.Common.{arith, not, rules}
use Rattle.std.specs.Prelude.{◌==◌}
use Rattle.std.proofs.lemmas.Fn.{filter_same}
use Rattle.turn_client_api.specs.declared.grant.Listing.{Listing}
use Rattle.turn_client_api.specs.Grants.{is_for_allocation}
use Rattle.turn_client_grants.proofs.TableLemmas.{few-filtered}
use Rattle.turn_client_grants.proofs.listings.Listings.unlist_allocates.Goals as goal

pub returns-clause-items : goal.returns-clause-items
returns-clause-items c =
    rw (← c.self.view_is)
    (filter_same _ (λ l. not (is_for_allocation l.purpose)) _ (λ x b f' k. search rules) _ _ c.retain.ensures.filtered)

pub invariant_of-self : goal.invariant_of-self
invariant_of-self c = λ id.
    rw (filter_same _ (λ l. not (is_for_allocation l.purpose)) _ (λ x b f' k. search rules) _ _ c.retain.ensures.filtered)
    (omega (arith, few-filtered (λ (l : Listing). l.id == id) (λ l. not (is_for_allocation l.purpose)) c.self.inside.items.items, c.self.invariant id))
