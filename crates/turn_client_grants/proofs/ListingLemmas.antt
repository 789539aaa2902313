-- The purposes of requests, by their IDs.
use Rattle.std.proofs.Common.{ℕ, List, filter, map}
use Rattle.std.specs.Prelude.{◌==◌}
use Rattle.turn_client_api.specs.declared.grant.Listing.{Listing}
use Rattle.turn_client_api.specs.declared.grant.Purpose.{Purpose}

-- what the listings of an ID were made for
abbrev pub purposes_listed : ℕ → List Listing → List Purpose
purposes_listed id listed = map (λ l. l.purpose) (filter (λ l. l.id == id) listed)
