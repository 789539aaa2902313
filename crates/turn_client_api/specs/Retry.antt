-- A request is made again, signed as the server's challenge requires (RFC 8489, section 9.2.5).
use Rattle.std.specs.Prelude.{ℕ, ◌+◌, Bool, true, false, List, find, Option, Some, None}
use Rattle.turn_auth.specs.LongTerm.{Challenge}
use Rattle.turn_client_api.specs.State.{State, Phase, Requesting, Authenticating, Purpose, ForAllocation, ForRefresh, ForPermission, ForChannel, ForConnect}
use Rattle.turn_client_api.specs.Grants.{purposes_of}
use Rattle.turn_client_api.specs.Requests.{fresh_id, request_started, queued, request_for, waits_from}
use Rattle.turn_client_api.specs.Effect.{transaction_ended}

abbrev pub is_refresh : Purpose → Bool
is_refresh (ForRefresh family lifetime) = true
is_refresh _ = false

abbrev pub is_channel_bind : Purpose → Bool
is_channel_bind (ForChannel number peer) = true
is_channel_bind _ = false

abbrev pub is_create_permission : Purpose → Bool
is_create_permission (ForPermission ip) = true
is_create_permission _ = false

abbrev pub is_allocate_or_connect : Purpose → Bool
is_allocate_or_connect ForAllocation = true
is_allocate_or_connect (ForConnect peer) = true
is_allocate_or_connect _ = false

-- The first of these, or else what follows. A request that binds a channel is listed for a permission too,
-- and is made again as it was.
abbrev pub first_or : Option Purpose → Option Purpose → Option Purpose
first_or (Some purpose) others = Some purpose
first_or None others = others

-- the purpose for which the request of this ID is made again over the control connection
abbrev pub retried : List Purpose → Option Purpose
retried purposes =
    first_or (find is_refresh purposes)
    (first_or (find is_channel_bind purposes)
    (first_or (find is_create_permission purposes)
    (find is_allocate_or_connect purposes)))

-- once it is answered, the first ALLOCATE is a signed one
abbrev pub phase_after : Phase → Phase
phase_after Requesting = Authenticating
phase_after phase = phase

-- the nonce is stored, and by the first challenge realm and algorithm, which never change then
abbrev pub with_held : Challenge → State → State
with_held challenge s = record s { held = Some challenge }

-- Realm, nonce and algorithm are stored, and the request with this ID is made again under a new one, which
-- is listed for all that the old one is listed for. The old one is no longer outstanding.
abbrev pub state_after_retry : State → ℕ → Purpose → Challenge → ℕ → State
state_after_retry s id purpose challenge now =
    let t = with_held challenge (record (transaction_ended id s) { phase = phase_after s.phase; challenges = s.challenges + 1 }) in
    let text = request_for t purpose (fresh_id s) in
    queued true s.local text (request_started (fresh_id s) text (purposes_of id s) (waits_from now s) t)

-- ---- CONNECTION_BIND

-- how long the server may take to bind a data connection: as long as a request by default (RFC 6062,
-- section 4.3, and RFC 8489, section 6.2.1)
abbrev pub bind_time : ℕ
bind_time = 39_500_000_000
