-- When something is due in a list of grants.
use Rattle.std.specs.Prelude.{ℕ, ◌++◌, ◌∷◌, [], if◌then◌else◌, nat_lt, List, map, max, flat_map, option_to_list}
use Rattle.turn_client_api.specs.Due.{end_of, refresh_time}
use Rattle.turn_client_api.specs.State.{State}
use Rattle.turn_client_api.specs.declared.grant.Grant.{Grant}
use Rattle.turn_client_api.specs.declared.grant.Relay.{Relay}

-- the expiry of the grant and its refresh, where no request is sent before the pause ends
abbrev pub times_of : ℕ → ℕ → State → Grant → List ℕ
times_of now pause s grant = end_of now grant ++ map (max pause) (option_to_list (refresh_time s grant))

abbrev pub all_times : ℕ → ℕ → State → List ℕ
all_times now pause s = flat_map (times_of now pause s) s.grants

-- the expiries of these allocations, except those that have passed
abbrev pub relay_ends : ℕ → List Relay → List ℕ
relay_ends now relays = flat_map (λ a. if nat_lt now a.expiry then a.expiry ∷ [] else []) relays
