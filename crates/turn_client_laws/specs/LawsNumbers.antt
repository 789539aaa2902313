-- The numbers of a client's channels, over all calls.
use Rattle.std.specs.Prelude.{ℕ, ◌==◌, List, filter_map, Option, Some, None}
use Rattle.std.specs.List.{IsDistinct}
use Rattle.turn_client_api.specs.State.{State}
use Rattle.turn_client_api.specs.declared.grant.Grant.{Grant}
use Rattle.turn_client_api.specs.declared.grant.Grant.TheVariants.{Channel}

-- the number of a channel, whether it is pending, active or reserved
abbrev pub number_of_channel : Grant → Option ℕ
number_of_channel (Channel number peer progress) = Some number
number_of_channel _ = None

abbrev pub channel_numbers_of : State → List ℕ
channel_numbers_of s = filter_map number_of_channel s.grants

-- no two channels have one number
abbrev pub HasDistinctNumbers : State → Type 0
HasDistinctNumbers s = IsDistinct ◌==◌ (channel_numbers_of s)
