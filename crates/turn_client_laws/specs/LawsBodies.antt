-- What spares a client's body work: how many events are queued, the parts of a result, the free channel number,
-- and which streams are unchanged.
use Rattle.std.specs.Prelude.{◌≡◌, ◌≤◌, ◌<◌, ◌+◌, ℕ, max, min, Bool, true, false, if◌then◌else◌, List, filter, filter_map, flat_map, fold, length, map}
use Rattle.std.specs.declared.net.socket_addr.SocketAddr.{SocketAddr}
use Rattle.turn_agent.specs.Agent.{transaction_timeout, same_address}
use Rattle.turn_client_api.specs.State.{State, agent_of, max_time, later_by}
use Rattle.turn_client_api.specs.declared.grant.Grant.{Grant}
use Rattle.turn_client_api.specs.declared.grant.Grant.TheVariants.{Allocation, Channel}
use Rattle.turn_client_api.specs.declared.grant.Progress.TheVariants.{Reserved}
use Rattle.turn_client_api.specs.declared.state.Stream.{Stream}
use Rattle.turn_client_api.specs.Calls.{is_number_taken}
use Rattle.turn_client_api.specs.Due.{end_of, keepalive_times, latest_wakeup, pause_end, refresh_time}
use Rattle.turn_client_api.specs.Queue.{has_request_to_send}

-- ---- events

-- an event may yet report that the grant failed; what is reserved failed before
abbrev pub can_fail : Grant → Bool
can_fail (Allocation a) = false
can_fail (Channel number peer (Reserved until)) = false
can_fail _ = true

-- so many grants may yet fail
abbrev pub max_failures : State → ℕ
max_failures s = length (filter can_fail s.grants)

-- for each event that was queued there is one grant fewer that can fail
abbrev pub ReportsOfFailed : State → State → Type 0
ReportsOfFailed s t = length t.events + max_failures t ≤ length s.events + max_failures s

-- ---- the parts of the returned time

-- the least of these, or the greatest `Instant`
abbrev pub least_of : List ℕ → ℕ
least_of times = fold min max_time times

-- when a queued request may be sent
abbrev pub soonest_queued : State → ℕ
soonest_queued s = if has_request_to_send s then pause_end s else max_time

-- when a transaction is retransmitted or times out
abbrev pub soonest_transaction : State → ℕ
soonest_transaction s = least_of (map (transaction_timeout (agent_of s).timers s.transport) s.transactions)

-- when a grant expires
abbrev pub soonest_end : ℕ → State → ℕ
soonest_end now s = least_of (flat_map (end_of now) s.grants)

-- when a refresh is sent, not before the pause ends
abbrev pub soonest_refresh : State → ℕ
soonest_refresh s = max (pause_end s) (least_of (filter_map (refresh_time s) s.grants))

-- when the path to the server is to be kept alive
abbrev pub soonest_keepalive : State → ℕ
soonest_keepalive s = least_of (keepalive_times s)

-- the latest time to call again, or what is due before it
abbrev pub soonest : ℕ → State → ℕ
soonest now s =
    min (latest_wakeup now s)
    (min (soonest_queued s) (min (soonest_transaction s) (min (min (soonest_end now s) (soonest_refresh s)) (soonest_keepalive s))))

-- ---- channel numbers

-- the numbers that a client may bind are taken, up to this one exclusive (RFC 8656, section 12)
abbrev pub AreTakenUpTo : ℕ → State → Type 0
AreTakenUpTo end s = (number : ℕ) → 0x4000 ≤ number → number < end → is_number_taken number s ≡ true

-- a number that a client may bind is free, and each one below it is taken
pub record IsLeastFree (number : ℕ) (s : State) : Type 0 where
  pub first : 0x4000 ≤ number
  pub last : number < 0x5000
  pub free : is_number_taken number s ≡ false
  pub below : AreTakenUpTo number s

-- ---- streams

-- Each stream is in its place with its local address, and one from another local address is unchanged.
pub record IsAsideFrom (local : SocketAddr) (s t : State) : Type 0 where
  pub change : Stream → Stream
  pub same : t.streams ≡ map change s.streams
  pub ends : (stream : Stream) → (change stream).local ≡ stream.local
  pub others : (stream : Stream) → same_address stream.local local ≡ false → change stream ≡ stream
