-- The kinds of requests, in the order in which they are looked for when a request is made again.
use Rattle.std.specs.Prelude.{Bool}
use Rattle.turn_client_api.specs.Retry.{is_allocate_or_connect, is_channel_bind, is_create_permission, is_refresh}
use Rattle.turn_client_api.specs.declared.grant.Purpose.{Purpose}
use Rattle.turn_client_core.specs.declared.answered_purposes.Kind.{Kind}
use Rattle.turn_client_core.specs.declared.answered_purposes.Kind.TheVariants.{Refresh, ChannelBind, CreatePermission, AllocateOrConnect}

abbrev pub of_kind : Kind → Purpose → Bool
of_kind Refresh = is_refresh
of_kind ChannelBind = is_channel_bind
of_kind CreatePermission = is_create_permission
of_kind AllocateOrConnect = is_allocate_or_connect
