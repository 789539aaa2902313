-- Worked grants, so that the check computes when they expire.
use Rattle.std.specs.Prelude.{[], ◌∷◌, true}
use Rattle.turn_types.specs.declared.family.AddressFamily.TheVariants.{IPV4}
use Rattle.turn_client_api.specs.State.{State}
use Rattle.turn_client_api.specs.declared.grant.Grant.TheVariants.{Channel, Permission}
use Rattle.turn_client_api.specs.declared.grant.Purpose.TheVariants.{ForRefresh}
use Rattle.turn_client_api.specs.declared.grant.Progress.TheVariants.{Reserved}
use Rattle.turn_client_api.specs.Requests.{listings}
use Rattle.turn_client_laws.specs.LawsRows.{granted_at, peer, ip_of_peer}
use Rattle.turn_client_laws.specs.LawsMessages.{allocation_of_v4, ms}
use Rattle.turn_client_api.specs.Effect.{granted_until}

-- a channel, and the permission that came with it, were granted at 100 ms
abbrev pub with_both : State → State
with_both s =
    granted_at (ms 100)
    (allocation_of_v4 ∷ Permission ip_of_peer (granted_until (ms 300_100) true) ∷ Channel 0x4000 peer (granted_until (ms 600_100) true) ∷ [])
    s

-- the channel remains
abbrev pub with_channel_alone : State → State
with_channel_alone s = granted_at (ms 100) (allocation_of_v4 ∷ Channel 0x4000 peer (granted_until (ms 600_100) true) ∷ []) s

-- the channel expired
abbrev pub with_reserved : State → State
with_reserved s = granted_at (ms 100) (allocation_of_v4 ∷ Channel 0x4000 peer (Reserved (ms 900_100)) ∷ []) s

-- the allocation alone remains, and a refresh of it was requested, to which the reply had a shorter
-- lifetime
abbrev pub with_timed_out_refresh : State → State
with_timed_out_refresh s = record (granted_at (ms 940_000) (allocation_of_v4 ∷ []) s) { listed = listings 7 (ForRefresh IPV4 1800 ∷ []) }
