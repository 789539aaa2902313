-- What requests were made for, by their IDs.
use Rattle.std.specs.Prelude.{◌==◌, ◌≤◌, ◌||◌, ℕ, Bool, List, filter, is_some, length}
use Rattle.turn_client_api.specs.declared.grant.Listing.{Listing}
use Rattle.turn_client_grants.specs.declared.purposes.Purposes.{Purposes}

-- the listings, and for how many more there is room
pub record Requests : Type 0 where
  pub items : List Listing
  pub room : ℕ

-- each request is for at most two purposes
abbrev pub AreForTwo : List Listing → Type 0
AreForTwo listed = (id : ℕ) → length (filter (λ l. l.id == id) listed) ≤ 2

abbrev pub has_some : Purposes → Bool
has_some purposes = is_some purposes.first || is_some purposes.second
