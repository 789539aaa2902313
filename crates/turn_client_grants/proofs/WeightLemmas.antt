-- A grant that is replaced leaves room for the event of the new one.
use Rattle.std.proofs.Common.{◌≡◌, ◌≤◌, ℕ, List, filter, true, arith}
use Rattle.std.specs.List.{list_any}
use Rattle.std.specs.declared.net.ip_addr.IpAddr.{IpAddr}
use Rattle.std.specs.declared.net.socket_addr.SocketAddr.{SocketAddr}
use Rattle.turn_client_api.specs.Grants.{is_channel_of, is_permission_of}
use Rattle.turn_client_api.specs.declared.grant.Grant.{Grant}
use Rattle.turn_client_grants.specs.Failures.{event_room_for}
use Rattle.turn_client_grants.proofs.KeyedLemmas.{is_open_channel}
use Rattle.turn_client_grants.proofs.RoomLemmas.{event_room_for-some}

pub permission-weighs : (ip : IpAddr) (grants : List Grant) → list_any (is_permission_of ip) grants ≡ true → 1 ≤ event_room_for (filter (is_permission_of ip) grants)
permission-weighs ip grants there = event_room_for-some (is_permission_of ip) (is_permission_of ip) (λ g e. e) (λ g e. grind arith) grants there

pub open-weighs : (number : ℕ) (peer : SocketAddr) (grants : List Grant) → list_any (is_open_channel number peer) grants ≡ true → 1 ≤ event_room_for (filter (is_channel_of number) grants)
open-weighs number peer grants there =
    event_room_for-some (is_channel_of number) (is_open_channel number peer) (λ g e. grind arith) (λ g e. grind arith) grants there
