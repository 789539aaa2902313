-- A configuration with which a caller is not told to wait.
use Rattle.std.specs.Prelude.{◌≡◌, [], ◌∷◌, Some}
use Rattle.turn_agent.specs.TransactionIds.{behind_id}
use Rattle.turn_client_api.specs.State.{State}
use Rattle.turn_client_api.specs.Steps.{state_after_all}
use Rattle.turn_client_api.specs.declared.call.Call.TheVariants.{Poll, PollTransmit}
use Rattle.turn_client_laws.specs.LawsRows.{with_permission}

-- No pause is configured, and each request is sent once and times out as soon as it was sent. The refresh of a permission
-- is due since 240.1 s, and the last packet was sent at 250 s.
abbrev pub without_waits : State → State
without_waits s =
    let t = with_permission 250_000_000_000 s in
    record t { config = record t.config { request_cadence = 0; request_timers = Some (record { initial = 0; max = 0; transmissions = 1; last = 0 }) } }

-- at 250 s the refresh is sent and times out at once, and then all is as before but for the next transaction ID
abbrev pub IsBusyForEver : Type 0
IsBusyForEver =
    (s : State) → state_after_all (without_waits s) (PollTransmit 250_000_000_000 ∷ Poll 250_000_000_000 ∷ [])
    ≡ without_waits (record s { ids = behind_id s.ids })
