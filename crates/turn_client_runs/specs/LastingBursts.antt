-- Thousands of permissions that are requested at one time, by a client whose requests are timed from their first copies.
use Rattle.std.specs.Prelude.{◌≡◌, ◌≢◌, ◌^◌, ◌≤◌, ℕ, false, true, List, ◌∷◌, Some, map, length, All}
use Rattle.std.specs.List.{Contains, IsDistinct}
use Rattle.std.specs.declared.net.ip_addr.IpAddr.{IpAddr}
use Rattle.turn_types.specs.declared.family.AddressFamily.TheVariants.{IPV4}
use Rattle.turn_agent.specs.Agent.{due}
use Rattle.turn_agent.specs.declared.transaction.Transaction.{Transaction}
use Rattle.turn_client_api.specs.Effect.{granted_until, new_allocation}
use Rattle.turn_client_api.specs.Grants.{family_of_ip, same_ip}
use Rattle.turn_client_api.specs.Requests.{waits_from}
use Rattle.turn_client_api.specs.State.{State, agent_of, seconds}
use Rattle.turn_client_api.specs.Steps.{state_after_all}
use Rattle.turn_client_api.specs.declared.call.Call.{Call}
use Rattle.turn_client_api.specs.declared.grant.Grant.{Grant}
use Rattle.turn_client_api.specs.declared.grant.Grant.TheVariants.{Permission}
use Rattle.turn_client_laws.specs.LawsRows.{granted_at, pausing, relayed_v4}
use Rattle.turn_client_runs.specs.History.{IsKeptBy, no_history}
use Rattle.turn_client_runs.specs.Lasting.{HasStill, HoldsAtMost, IsSteady, RunsSteadily}
use Rattle.turn_client_runs.specs.OnTime.{time_of_all}

-- ---- what no burst costs

-- However many requests are queued, none leaves before a refresh that is due, so the room has no place for them.
abbrev pub QueuesNeedNoRoom : Type 0
QueuesNeedNoRoom =
    (count : ℕ) (s : State) → s.config.timed_from_send ≡ true → length s.grants ≤ count → HoldsAtMost count 0 s

-- Otherwise it has one for each packet that is queued.
abbrev pub QueuesNeedRoom : Type 0
QueuesNeedRoom =
    (count slots : ℕ) (s : State) → s.config.timed_from_send ≡ false → HoldsAtMost count slots s → length s.queue ≤ slots

-- A request that is queued is not the one that is retransmitted: so none is extra before it has left.
abbrev pub QueuedAreNotExtra : Type 0
QueuedAreNotExtra =
    (made now : ℕ) (s : State) (x : Transaction) → s.config.timed_from_send ≡ true → now ≤ 2 ^ 62
    → due (agent_of s) now ≡ Some x → x.last_send ≢ waits_from made s

-- ---- the client

-- its requests are timed from their first copies
abbrev pub timed : State → State
timed s = record s { config = record s.config { timed_from_send = true } }

-- the permission of this IP address, granted at time 0
abbrev pub permitted : IpAddr → Grant
permitted ip = Permission ip (granted_until (seconds 300) true)

-- a client over UDP with these permissions, an allocation of 600 s from time 0 on, 5 ms between two requests, and the default time ahead
abbrev pub with_permissions : List IpAddr → State → State
with_permissions ips s = timed (pausing 5_000_000 (granted_at 0 (new_allocation 600 0 relayed_v4 ∷ map permitted ips) s))

-- no two are the same
abbrev pub AreDistinct : List IpAddr → Type 0
AreDistinct ips = IsDistinct same_ip ips

-- ---- what holds

-- It may get 3,000 more grants, also with as many requests queued at once, which takes 15 s, and with each answered within 35 s of
-- the call. Though 1,000 packets are extra, all of this is less than the minute by which a refresh is ahead: for what is queued
-- leaves after what refreshes.
pub record LastsThroughBurst (s : State) : Type 0 where
  pub begins : IsSteady 3011 0 1000 35_000_000_000 0 s
  pub lasts : (calls : List Call) → RunsSteadily 3011 0 1000 35_000_000_000 0 (no_history s) s calls
      → (g : Grant) → Contains s.grants g → IsKeptBy calls 0 s g → HasStill g (time_of_all 0 calls) (state_after_all s calls)

-- whatever its ten peers over IPv4 are, and its addresses, credentials and IDs
abbrev pub BurstsCostNothing : Type 0
BurstsCostNothing =
    (ips : List IpAddr) (s : State) → length ips ≡ 10 → All (λ ip. family_of_ip ip ≡ IPV4) ips → AreDistinct ips
    → LastsThroughBurst (with_permissions ips s)
