use Rattle.std.proofs.Common.{◌≡◌, ◌++◌, ℕ, List, arith, append_assoc}
use Rattle.std.specs.Prelude.{option_to_list}
use Rattle.turn_client_api.specs.Requests.{listings}
use Rattle.turn_client_api.specs.declared.grant.Listing.{Listing}
use Rattle.turn_client_grants.specs.GrantFilter.{purposes_in}
use Rattle.turn_client_grants.specs.declared.purposes.Purposes.{Purposes}
use Rattle.turn_client_grants.proofs.PushLemmas.{for-two-listed}
use Rattle.turn_client_grants.proofs.listings.Listings.list.Goals as goal

both-listed : (listed : List Listing) (id : ℕ) (purposes : Purposes)
    → (listed ++ listings id (option_to_list purposes.first)) ++ listings id (option_to_list purposes.second) ≡ listed ++ listings id (purposes_in purposes)
both-listed listed id purposes = grind (arith, append_assoc)

pub invariant_of-self : goal.invariant_of-self
invariant_of-self c =
    rw (c.list_one-2.ensures.items, c.list_one.ensures.items, both-listed c.self.inside.items.items c.args.id c.args.purposes.now)
    (for-two-listed c.self.inside.items.items c.args.id c.args.purposes.now (rw (← c.self.view_is) at c.requires.new) c.self.invariant)
