-- The grants that a key finds.
use Rattle.std.specs.Prelude.{◌≡◌, false, Option, Some, None}
use Rattle.turn_client_api.specs.declared.grant.Grant.{Grant}
use Rattle.turn_client_grants.specs.Keys.{is_found_by}
use Rattle.turn_client_grants.specs.Table.{changed}
use Rattle.turn_client_grants.specs.declared.changes.Change.{Change}
use Rattle.turn_client_grants.specs.declared.grant_filter.GrantFilter.{GrantFilter}
use Rattle.turn_client_grants.specs.declared.grant_filter.GrantFilter.TheVariants as W
use Rattle.turn_client_grants.specs.declared.key.Key.{Key}
use Rattle.turn_client_grants.specs.declared.key.Key.TheVariants as By

-- the key that finds just the grants of the filter
abbrev pub lookup_key : GrantFilter → Option Key
lookup_key (W.PermissionOf ip) = Some (By.Ip ip)
lookup_key (W.ChannelOf number) = Some (By.Number number)
lookup_key (W.OpenTo peer) = Some (By.Peer peer)
lookup_key _ = None

-- the change leaves each grant that the key does not find
abbrev pub LeavesOthers : Key → Change → Type 0
LeavesOthers key change = (g : Grant) → is_found_by key g ≡ false → changed change g ≡ g
