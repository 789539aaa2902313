-- Which grants the summary counts.
use Rattle.std.specs.Prelude.{◌&&◌, ◌||◌, Bool, true, false, List, Option, is_some, option_to_list}
use Rattle.std.specs.List.{list_any}
use Rattle.turn_client_api.specs.declared.grant.Progress.{Progress}
use Rattle.turn_client_api.specs.declared.grant.Progress.TheVariants.{Active}
use Rattle.turn_client_api.specs.Due.{refresh_time_by_kind}
use Rattle.turn_client_api.specs.Grants.{is_for_any, is_pending_channel, is_pending_permission}
use Rattle.turn_client_api.specs.declared.grant.Grant.{Grant}
use Rattle.turn_client_api.specs.declared.grant.Purpose.{Purpose}
use Rattle.turn_client_grants.specs.declared.purposes.Purposes.{Purposes}

-- a permission or a channel that waits for the server's answer: it has no expiry yet, and counts nowhere
abbrev pub is_pending : Grant → Bool
is_pending g = is_pending_permission g || is_pending_channel g

abbrev pub has_lease : Progress → Bool
has_lease (Active lease) = true
has_lease _ = false

-- a grant of this kind is refreshed, however long ahead, and the requests for it decide when
abbrev pub is_refreshed : Grant → Bool
is_refreshed g = is_some (refresh_time_by_kind 0 g)

-- there is a purpose, and it is for a grant that is refreshed
abbrev pub is_for_refreshed : Option Purpose → List Grant → Bool
is_for_refreshed purpose grants = list_any (λ g. is_refreshed g && is_for_any (option_to_list purpose) g) grants

-- one of these purposes is
abbrev pub are_for_refreshed : Purposes → List Grant → Bool
are_for_refreshed purposes grants = is_for_refreshed purposes.first grants || is_for_refreshed purposes.second grants
