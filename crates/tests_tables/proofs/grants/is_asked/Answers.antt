use Rattle.std.proofs.Common.{◌≡◌, ◌∙◌, ℕ, Bool, ltb, List, [], ◌∷◌, filter, length, map, refl, sym, ap, arith}
use Rattle.std.specs.Prelude.{◌==◌}
use Rattle.std.specs.List.{list_any}
use Rattle.turn_client_api.specs.declared.grant.Listing.{Listing}
use Rattle.turn_client_api.specs.declared.grant.Purpose.{Purpose}
use Rattle.turn_client_grants.specs.GrantFilter.{purposes_in}
use Rattle.turn_client_grants.specs.Listed.{has_some}
use Rattle.turn_client_grants.specs.declared.purposes.Purposes.{Purposes}
use Rattle.tests_tables.proofs.grants.is_asked.Goals as goal

some-in : (purposes : Purposes) → has_some purposes ≡ ltb 0 (length (purposes_in purposes))
some-in purposes = grind arith

any-listed : (p : Listing → Bool) (listed : List Listing) → list_any p listed ≡ ltb 0 (length (map (λ (l : Listing). l.purpose) (filter p listed)))
any-listed p [] = refl
any-listed p (l ∷ listed) = grind (arith, any-listed p listed)

-- a request is listed exactly if it has a purpose
pub returns : goal.returns
returns c =
    let are = rw c.table.ensures.listed at c.purposes_of.ensures in
    c.has_some.ensures ∙ (some-in c.purposes_of.result ∙ (ap (λ (ps : List Purpose). ltb 0 (length ps)) are ∙ sym (any-listed (λ (l : Listing). l.id == c.args.id) c.args.ledger.now.listed)))
