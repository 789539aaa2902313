-- Which grants a change applies to, as tests of a grant.
use Rattle.std.specs.Prelude.{Bool, true, ◌&&◌, List, ◌++◌, option_to_list, is_some}
use Rattle.turn_client_api.specs.Grants.{as_allocation, is_channel_of, is_connect, is_connect_to, is_connection_from, is_for_any, is_of, is_pending_channel}
use Rattle.turn_client_api.specs.Grants.{is_pending_permission, is_permission_of}
use Rattle.turn_client_api.specs.Calls.{is_granted_in, is_open_to}
use Rattle.turn_client_api.specs.Effect.{is_asked_permission}
use Rattle.turn_client_api.specs.Poll.{is_timed_out_offer, is_expired_permission, is_over, is_unbound}
use Rattle.turn_client_api.specs.declared.grant.Grant.{Grant}
use Rattle.turn_client_api.specs.declared.grant.Purpose.{Purpose}
use Rattle.turn_client_grants.specs.declared.purposes.Purposes.{Purposes}
use Rattle.turn_client_grants.specs.declared.grant_filter.GrantFilter.{GrantFilter}
use Rattle.turn_client_grants.specs.declared.grant_filter.GrantFilter.TheVariants as W

abbrev pub purposes_in : Purposes → List Purpose
purposes_in purposes = option_to_list purposes.first ++ option_to_list purposes.second

-- the grant is one of these
unfoldable pub holds : GrantFilter → Grant → Bool
holds W.All = λ g. true
holds (W.OfFamily family) = is_of family
holds (W.AllocationOf family) = λ g. is_some (as_allocation g) && is_of family g
holds W.Active = is_granted_in
holds (W.PermissionOf ip) = is_permission_of ip
holds (W.ChannelOf number) = is_channel_of number
holds (W.OpenTo peer) = is_open_to peer
holds (W.ConnectTo peer) = is_connect_to peer
holds (W.ConnectionFrom local) = is_connection_from local
holds (W.ExpiredPermissions family now) = λ g. is_of family g && is_expired_permission now g
holds (W.FreedChannels family now) = λ g. is_of family g && is_over now g
holds (W.PendingPermissionsOf purposes) = is_asked_permission (purposes_in purposes)
holds (W.PendingPermissionsIn family purposes) = λ g. is_of family g && is_pending_permission g && is_for_any (purposes_in purposes) g
holds (W.PendingChannelsIn family purposes) = λ g. is_of family g && is_pending_channel g && is_for_any (purposes_in purposes) g
holds (W.ConnectsIn family purposes) = λ g. is_of family g && is_connect g && is_for_any (purposes_in purposes) g
holds (W.UnboundIn family now purposes) = λ g. is_of family g && is_unbound (purposes_in purposes) now g
holds (W.OffersIn family given) = λ g. is_of family g && is_timed_out_offer given g
holds (W.AskedIn family purposes) = λ g. is_of family g && is_for_any (purposes_in purposes) g
