-- How a table of grants is kept.
use Rattle.std.specs.Prelude.{ℕ, ◌≡◌, ◌≤◌, ◌<◌, ◌+◌, ◌-◌, Bool, true, false, List, length, map, min, vec_capacity, vec_len}
use Rattle.turn_client_api.specs.declared.grant.Grant.{Grant}
use Rattle.turn_client_api.specs.declared.grant.Listing.{Listing}
use Rattle.turn_client_grants.specs.Chains.{IsChained}
use Rattle.turn_client_grants.specs.Index.{IsIndex, scan}
use Rattle.turn_client_grants.specs.Keys.{is_found_by, name_of, peer_of}
use Rattle.turn_client_grants.specs.Summary.{IsSummary}
use Rattle.turn_client_grants.specs.Table.{IsTable}
use Rattle.turn_client_grants.specs.declared.index.Index.{Index}
use Rattle.turn_client_grants.specs.declared.summary.Summary.{Summary}

-- so few grants are scanned
abbrev pub few_grants : ℕ
few_grants = 8

-- of how many grants the chains have room for the links
abbrev pub links_room : Index → ℕ
links_room index = min (vec_capacity index.names.links) (vec_capacity index.peers.links)

-- for how many more grants there is room beside so many: in the chains, if they are made, and if not there are few
abbrev pub index_room : Bool → ℕ → ℕ → ℕ
index_room true count room = room - count
index_room false count room = few_grants - count

-- so many more grants can be added to the chains
pub record IsReady (more : ℕ) (index : Index) : Type 0 where
  pub names : 0 < length index.names.heads.items
  pub peers : 0 < length index.peers.heads.items
  pub name_room : vec_len index.names.links + more ≤ vec_capacity index.names.links
  pub peer_room : vec_len index.peers.links + more ≤ vec_capacity index.peers.links

-- the chains are those of the grants
pub record IsPlaced (index : Index) (grants : List Grant) : Type 0 where
  pub names : IsChained index.names.heads.items index.names.links.items (map name_of grants)
  pub peers : IsChained index.peers.heads.items index.peers.links.items (map peer_of grants)
  pub fits : length grants ≤ links_room index

-- the same, if the chains are made
abbrev pub IsLed : Index → List Grant → Type 0
IsLed index grants = index.is_made ≡ true → IsPlaced index grants

-- a key finds at most one grant
abbrev pub AreAlone : List Grant → Type 0
AreAlone grants = IsIndex is_found_by (scan is_found_by grants) grants

-- a key finds at most one grant, by the chains if they are made, there are few grants if not, and the summary is theirs
pub record IsIndexed (grants : List Grant) (listed : List Listing) (index : Index) (summary : Summary) : Type 0 where
  pub table : IsTable grants listed
  pub found : AreAlone grants
  pub led : IsLed index grants
  pub few : index.is_made ≡ false → length grants ≤ few_grants
  pub summed : IsSummary summary grants listed
