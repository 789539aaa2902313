-- How many grants a client keeps, by the numbers of C.
use Rattle.std.specs.Prelude.{ℕ, ◌==◌, if◌then◌else◌, max, min, unwrap_or, Option, Some, None}
use Rattle.turn_client_api.specs.Config.{default_refresh_ahead, default_request_cadence, least_refresh_ahead}
use Rattle.turn_client_runs.specs.Late.{HasRoomBehind}
use Rattle.turn_c_calls.specs.Settings.{c_cadence, unless_zero}
use Rattle.turn_c_calls.specs.declared.code.TheConstants.{NO_PAUSE}
use Rattle.turn_c_calls.specs.declared.room.Load.{Load}

-- there is room for so many grants beside this load: the premise of `grants_last_while_the_server_answers`
abbrev pub HasRoomWith : ℕ → Load → ℕ → ℕ → Type 0
HasRoomWith count load cadence ahead = HasRoomBehind count load.slots load.extras load.late cadence load.delay ahead

-- the pause between two requests that a client has by this setting
abbrev pub cadence_by : ℕ → ℕ
cadence_by setting = unwrap_or (c_cadence setting) default_request_cadence

-- half of a permission's lifetime (RFC 8656, section 9), before which none is refreshed
abbrev pub most_ahead : ℕ
most_ahead = 150_000_000_000

-- how long before its expiry a client refreshes a permission by this setting
abbrev pub ahead_by : ℕ → ℕ
ahead_by setting = min most_ahead (max least_refresh_ahead (unwrap_or (unless_zero setting) default_refresh_ahead))

-- the pause that a number of `longest_cadence` means, if it means one
abbrev pub longest_in : ℕ → Option ℕ
longest_in number = if number == 0 then None else if number == NO_PAUSE then Some 0 else Some number
