-- When something is due (RFC 8656, sections 7 to 12).
use Rattle.std.specs.Prelude.{ℕ, ◌+◌, ◌-◌, ◌/◌, min, max, nat_le, nat_lt, Bool, true, false, not, ◌&&◌, ◌||◌, if◌then◌else◌, List, [], ◌∷◌, ◌++◌, map, flat_map}
use Rattle.std.specs.Prelude.{filter_map, fold, length, Option, Some, None, option_and_then, option_to_list}
use Rattle.std.specs.Option.{option_map_or}
use Rattle.std.specs.List.{list_any}
use Rattle.turn_agent.specs.Agent.{transaction_timeout}
use Rattle.turn_client_api.specs.State.{State, Phase, New, Grant, Allocation, Permission, Channel, Connection, Relay, agent_of, max_time}
use Rattle.turn_client_api.specs.State.{Progress, Pending, Active, Reserved, later_by, seconds}
use Rattle.turn_client_api.specs.Grants.{allocations, find_allocation, family_of_grant, has_request}
use Rattle.turn_client_api.specs.Calls.{is_allocated}
use Rattle.turn_client_api.specs.Effect.{channel_lifetime, min_lifetime, permission_lifetime}
use Rattle.turn_client_api.specs.Queue.{has_request_to_send}

-- ---- numbers of ours

-- how long a caller waits at most (our choice)
abbrev pub max_wait : ℕ
max_wait = seconds 9999

-- ---- queued packets

abbrev pub has_reply : State → Bool
has_reply s = list_any (λ q. not q.is_request) s.queue

abbrev pub has_queued_request : State → Bool
has_queued_request s = list_any (λ q. q.is_request) s.queue

-- before this time no new request is sent: the pause after a packet is as it was configured
abbrev pub pause_end : State → ℕ
pause_end s = option_map_or (later_by s.config.request_cadence) s.last_send 0

abbrev pub is_paused : ℕ → State → Bool
is_paused now s = nat_lt now (pause_end s)

-- ---- refreshes

-- A grant of this lifetime is refreshed so long before it expires: as was configured, but no more than half of the
-- lifetime (our choice).
abbrev pub time_ahead : ℕ → ℕ → ℕ
time_ahead ahead lifetime = min ahead (lifetime / 2)

-- Of an allocation the first lifetime counts, and no more of it than the least one that a refresh grants: so none is due
-- again as soon as it is answered.
abbrev pub refresh_time_of : ℕ → Relay → ℕ
refresh_time_of ahead a = a.expiry - time_ahead ahead (min a.first_lifetime (seconds min_lifetime))

-- a permission or a channel is kept until the caller says otherwise
abbrev pub keeps : Progress → Bool
keeps (Pending is_kept) = is_kept
keeps (Active lease) = lease.is_kept
keeps (Reserved until) = true

abbrev pub is_kept : Grant → Bool
is_kept (Permission ip progress) = keeps progress
is_kept (Channel number peer progress) = keeps progress
is_kept grant = true

-- an expired allocation is refreshed no more, nor are the grants in it, nor what is not kept
abbrev pub is_refreshable : Grant → State → Bool
is_refreshable (Allocation a) s = not a.is_expired
is_refreshable grant s = is_kept grant && option_map_or (λ a. not a.is_expired) (find_allocation (family_of_grant grant) s) false

-- when a grant of its kind is refreshed, if ever
abbrev pub refresh_time_by_kind : ℕ → Grant → Option ℕ
refresh_time_by_kind ahead (Allocation a) = Some (refresh_time_of ahead a)
refresh_time_by_kind ahead (Permission ip (Active lease)) = Some (lease.expiry - time_ahead ahead permission_lifetime)
refresh_time_by_kind ahead (Channel number peer (Active lease)) = Some (lease.expiry - time_ahead ahead channel_lifetime)
refresh_time_by_kind ahead _ = None

-- when the grant is to be refreshed, unless a request for it is pending
unfoldable pub refresh_time : State → Grant → Option ℕ
refresh_time s grant =
    option_and_then (λ time. if is_refreshable grant s && not (has_request grant s) then Some time else None)
    (refresh_time_by_kind s.config.refresh_ahead grant)

-- ---- the path to the server

-- an allocation is not marked as expired
abbrev pub has_allocation_in_use : State → Bool
has_allocation_in_use s = list_any (λ a. not a.is_expired) (allocations s)

-- When an indication is to keep the path to the server alive, if that was configured: so long after the last packet,
-- but not within the pause, and only while an allocation is in use.
abbrev pub keepalive_times : State → List ℕ
keepalive_times s =
    if has_allocation_in_use s
    then map (λ keepalive. max (pause_end s) (option_map_or (later_by keepalive) s.last_send 0)) (option_to_list s.config.keepalive)
    else []

-- ---- expiry

-- If requests are timed from their first copies, one that no caller takes never times out: for an allocation that is
-- marked as expired none is awaited longer than the server grants at first, and than the least that a refresh grants
-- (our choice).
abbrev pub final_expiry : Relay → ℕ
final_expiry a = later_by (max a.first_lifetime (seconds min_lifetime)) a.expiry

-- until when an allocation stays that is marked as expired while a request for it is pending, if not for ever
abbrev pub awaited_until : State → Relay → Option ℕ
awaited_until s a = if s.config.timed_from_send then Some (final_expiry a) else None

-- from when on time removes the grant, reserves the active channel, or frees the reserved number; an
-- expired allocation stays while a request for it is pending
abbrev pub expiry_time : State → Grant → Option ℕ
expiry_time s (Allocation a) = if a.is_expired && has_request (Allocation a) s then awaited_until s a else Some a.expiry
expiry_time s (Permission ip (Active lease)) = Some lease.expiry
expiry_time s (Channel number peer (Active lease)) = Some lease.expiry
expiry_time s (Channel number peer (Reserved until)) = Some (until + 1)
expiry_time s (Connection c) = c.deadline
expiry_time s _ = None

abbrev pub expiry_times : State → List ℕ
expiry_times s = filter_map (expiry_time s) s.grants

-- ---- when a client has to be polled again

-- the expiry of a grant; a past one of an allocation is not waited for
abbrev pub end_of : ℕ → Grant → List ℕ
end_of now (Allocation a) = if nat_lt now a.expiry then a.expiry ∷ [] else []
end_of now (Permission ip (Active lease)) = lease.expiry ∷ []
end_of now (Channel number peer (Active lease)) = lease.expiry ∷ []
end_of now (Connection c) = option_to_list c.deadline
end_of now _ = []

-- until when these allocations stay at most, of those that are marked as expired; a past time is not waited for
abbrev pub final_times : ℕ → List Relay → List ℕ
final_times now relays = flat_map (λ a. if a.is_expired && nat_lt now (final_expiry a) then final_expiry a ∷ [] else []) relays

-- when a caller calls again at the latest
abbrev pub latest_wakeup : ℕ → State → ℕ
latest_wakeup now s = fold min (later_by max_wait now) (if s.config.timed_from_send then final_times now (allocations s) else [])

abbrev pub refresh_of : State → Grant → List ℕ
refresh_of s grant = map (max (pause_end s)) (option_to_list (refresh_time s grant))

-- Each time at which something is due: the longest wait or the end of an allocation that is marked as expired, a queued
-- request to be sent, a transaction, the expiry of a grant, a refresh, and what keeps the path alive.
abbrev pub due_times : ℕ → State → List ℕ
due_times now s =
    latest_wakeup now s
    ∷ (if has_request_to_send s then pause_end s ∷ [] else [])
    ++ map (transaction_timeout (agent_of s).timers s.transport) s.transactions
    ++ flat_map (λ g. end_of now g ++ refresh_of s g) s.grants
    ++ keepalive_times s

abbrev pub least_due : ℕ → State → ℕ
least_due now s = fold min max_time (due_times now s)

abbrev pub has_event : State → Bool
has_event s = nat_lt 0 (length s.events)

abbrev pub is_new : Phase → Bool
is_new New = true
is_new _ = false

-- When the caller is to call `poll` again: now, if something is pending or just timed out, and else when
-- something is due, but not in the past if there are grants.
abbrev pub next_wakeup : Bool → ℕ → State → ℕ
next_wakeup has_given_up now s =
    if is_new s.phase || has_event s || has_reply s || has_given_up then now
    else (if is_allocated s.phase then max now (least_due now s)
    else least_due now s)
