-- What a client sends next (RFC 8489, section 6.2; RFC 8656, sections 8 to 12).
use Rattle.std.specs.Prelude.{ℕ, ◌==◌, slice_get, drop, nat_le, nat_lt, Bool, false, ◌&&◌, if◌then◌else◌, not, List, [], ◌∷◌, filter, filter_map, find}
use Rattle.std.specs.Prelude.{flat_map, Option, Some, None, is_some}
use Rattle.turn_stun.specs.declared.transport.Transmit.{Transmit}
use Rattle.std.specs.List.{list_any}
use Rattle.std.specs.Option.{option_map_or}
use Rattle.turn_types.specs.declared.family.AddressFamily.{AddressFamily}
use Rattle.turn_agent.specs.Agent.{due, resent, waits_begun}
use Rattle.turn_agent.specs.declared.transaction.Transaction.{Transaction}
use Rattle.turn_client_api.specs.State.{State, Phase, New, Requesting, Allocated, Grant, Allocation, Permission, Channel, Relay, Active, Purpose, ForAllocation}
use Rattle.turn_client_api.specs.State.{ForRefresh, ForPermission, ForChannel, Queued, agent_of}
use Rattle.turn_client_api.specs.Grants.{allocations, family_of, is_of}
use Rattle.turn_client_api.specs.Calls.{is_allocated}
use Rattle.turn_client_api.specs.Requests.{request_started, asked_lifetime, binding_indication, first_allocate, fresh_id, id_used, request_for, to_server}
use Rattle.turn_client_api.specs.Due.{is_paused, keepalive_times, refresh_time}
use Rattle.turn_client_api.specs.Queue.{has_ended, settled}
pub use Rattle.turn_client_api.specs.Queue.{id_in_header}

-- a packet was sent, so the pause begins anew
abbrev pub sent : ℕ → State → State
sent now s = record s { last_send = Some now }

-- ---- refreshes

-- the purpose of the refresh of a grant; what has expired is not refreshed, and an allocation only until
-- its expiry
abbrev pub refresh_purpose : ℕ → Grant → Option Purpose
refresh_purpose now (Allocation a) = if nat_le now a.expiry then Some (ForRefresh (family_of a.relayed) asked_lifetime) else None
refresh_purpose now (Permission ip (Active lease)) = if nat_lt now lease.expiry then Some (ForPermission ip) else None
refresh_purpose now (Channel number peer (Active lease)) = if nat_lt now lease.expiry then Some (ForChannel number peer) else None
refresh_purpose now _ = None

-- the time to refresh the grant has come
unfoldable pub is_refresh_due : ℕ → State → Grant → Bool
is_refresh_due now s grant = option_map_or (λ time. nat_le time now) (refresh_time s grant) false

-- an allocation itself is refreshed first, then its channels, then its permissions
abbrev pub is_ranked : ℕ → Grant → Bool
is_ranked rank (Allocation a) = rank == 0
is_ranked rank (Channel number peer progress) = rank == 1
is_ranked rank (Permission ip progress) = rank == 2
is_ranked rank _ = false

-- the grants of a family and rank whose time has come
abbrev pub is_due_in : ℕ → AddressFamily → ℕ → State → Grant → Bool
is_due_in rank family now s g = is_ranked rank g && is_of family g && is_refresh_due now s g

abbrev pub refreshes_of_rank : ℕ → State → AddressFamily → ℕ → List Purpose
refreshes_of_rank now s family rank = filter_map (refresh_purpose now) (filter (is_due_in rank family now s) s.grants)

-- what is to be refreshed in one allocation, unless its expiry has passed
abbrev pub refreshes_in : ℕ → State → Relay → List Purpose
refreshes_in now s a =
    if nat_le now a.expiry then flat_map (refreshes_of_rank now s (family_of a.relayed)) (0 ∷ 1 ∷ 2 ∷ []) else []

-- a request is made and sent at once
abbrev pub sent_at_once : List ℕ → Purpose → ℕ → State → Option (Transmit (List ℕ)) × State
sent_at_once text purpose now s =
    (Some (to_server s s.local text), sent now (request_started (fresh_id s) text (purpose ∷ []) now s))

-- the refresh of the first grant that is due
abbrev pub next_refresh : ℕ → State → Option Purpose
next_refresh now s = slice_get (flat_map (refreshes_in now s) (allocations s)) 0

-- ---- the path to the server

-- an indication keeps the path alive, if its time has come; it takes an ID, and asks for nothing
abbrev pub keepalive_step : ℕ → State → Option (Transmit (List ℕ)) × State
keepalive_step now s =
    if list_any (λ time. nat_le time now) (keepalive_times s)
    then (Some (to_server s s.local (binding_indication (fresh_id s))), sent now (id_used s))
    else (None, s)

-- the request that refreshes the first grant that is due, and if none is, what keeps the path alive
abbrev pub refresh_step : ℕ → State → Option (Transmit (List ℕ)) × State
refresh_step now s =
    option_map_or (λ purpose. sent_at_once (request_for s purpose (fresh_id s)) purpose now s) (next_refresh now s) (keepalive_step now s)

-- ---- queued packets

abbrev pub reply_in : Queued → Option (Transmit (List ℕ))
reply_in q = if q.is_request then None else Some q.packet

abbrev pub without_first_reply : List Queued → List Queued
without_first_reply [] = []
without_first_reply (q ∷ others) = if q.is_request then q ∷ without_first_reply others else others

-- within the pause only a reply is sent, and does not prolong it
abbrev pub reply_step : State → Option (Transmit (List ℕ)) × State
reply_step s = (slice_get (filter_map reply_in s.queue) 0, record s { queue = without_first_reply s.queue })

-- with nothing queued, a new client sends the first ALLOCATE, and one with allocations keeps them
abbrev pub idle_step : Phase → ℕ → State → Option (Transmit (List ℕ)) × State
idle_step New now s = sent_at_once (first_allocate s (fresh_id s)) ForAllocation now (record s { phase = Requesting })
idle_step Allocated now s = refresh_step now s
idle_step _ now s = (None, s)

-- if requests wait from their first copies on, and that of a request is given out now, its waits begin
abbrev pub begun_by : ℕ → Queued → State → List Transaction
begun_by now q s =
    if s.config.timed_from_send && q.is_request
    then option_map_or (λ id. waits_begun id now s.transactions) (id_in_header q.packet.payload) s.transactions else s.transactions

-- the first queued packet is given out
abbrev pub front_sent : ℕ → Queued → State → State
front_sent now q s = sent now (record s { queue = drop 1 s.queue; transactions = begun_by now q s })

-- if requests wait from their first copies on, what refreshes a grant goes before what is queued (our choice): else a burst would
-- hold it back until the grant expires
abbrev pub refreshes_first : ℕ → State → Bool
refreshes_first now s = s.config.timed_from_send && is_allocated s.phase && is_some (next_refresh now s)

-- the queued packet that is sent next: the first one but for the requests that have ended
abbrev pub next_queued : ℕ → State → Option Queued
next_queued now s = if refreshes_first now s then None else find (λ q. not (has_ended s q)) s.queue

abbrev pub queue_step : ℕ → State → Option (Transmit (List ℕ)) × State
queue_step now s = option_map_or (λ q. (Some q.packet, front_sent now q (settled s))) (next_queued now s) (idle_step s.phase now s)

-- what is sent next: what is to be retransmitted, what is queued, and then what the client has to request
abbrev pub transmit_step : ℕ → State → Option (Transmit (List ℕ)) × State
transmit_step now s =
    option_map_or (λ t. (Some (record (to_server s s.local t.request) { to = t.to }), sent now (record s { transactions = resent t.id now s.transactions })))
    (due (agent_of s) now) (if is_paused now s then reply_step s else queue_step now s)

abbrev pub next_transmit : ℕ → State → Option (Transmit (List ℕ))
next_transmit now s = (transmit_step now s).0
