-- How many grants are kept: the premise of `grants_last_while_the_server_answers`, as a caller computes it.
use Rattle.std.specs.Prelude.{ℕ}
use Rattle.std.specs.Duration.{as_nanos}
use Rattle.turn_client_runs.specs.Late.{HasRoomBehind}
use Rattle.turn_client_runs.specs.declared.room.Load.{Load}

-- there is room for so many grants beside this load, at this cadence and with refreshes so long ahead
abbrev pub HasRoomFor : ℕ → Load → ℕ → ℕ → Type 0
HasRoomFor count load cadence ahead = HasRoomBehind count load.slots load.extras (as_nanos load.late) cadence (as_nanos load.delay) ahead
