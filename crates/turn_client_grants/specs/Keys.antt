-- The keys by which a grant is found.
use Rattle.std.specs.Prelude.{Bool, Option, None, Some}
pub use Rattle.turn_client_api.specs.Calls.{is_open_to}
use Rattle.turn_client_api.specs.Grants.{is_channel_of, is_permission_of}
use Rattle.turn_client_api.specs.declared.grant.Grant.{Grant}
use Rattle.turn_client_api.specs.declared.grant.Grant.TheVariants.{Permission, Channel}
use Rattle.turn_client_api.specs.declared.grant.Progress.TheVariants.{Reserved}
use Rattle.turn_client_grants.specs.declared.key.Key.{Key}
use Rattle.turn_client_grants.specs.declared.key.Key.TheVariants as By

abbrev pub is_found_by : Key → Grant → Bool
is_found_by (By.Number number) grant = is_channel_of number grant
is_found_by (By.Peer peer) grant = is_open_to peer grant
is_found_by (By.Ip ip) grant = is_permission_of ip grant

-- the key of a grant that is no address with a port, if it has one
abbrev pub name_of : Grant → Option Key
name_of (Permission ip progress) = Some (By.Ip ip)
name_of (Channel number peer progress) = Some (By.Number number)
name_of _ = None

-- the other key, of a channel that is pending or active
abbrev pub peer_of : Grant → Option Key
peer_of (Channel number peer (Reserved until)) = None
peer_of (Channel number peer progress) = Some (By.Peer peer)
peer_of _ = None

-- the key of a grant that may be this one
abbrev pub key_like : Key → Grant → Option Key
key_like (By.Peer peer) = peer_of
key_like _ = name_of
