-- What the time means that `poll` returns.
use Rattle.std.specs.Prelude.{◌≡◌, ◌≢◌, ◌⊎◌, ℕ, ◌<◌, ◌≤◌, true, false, [], All, is_some, None, IsSome, IfSome, ⊤}
use Rattle.turn_agent.specs.Agent.{timed_out_transaction, is_outstanding}
use Rattle.turn_agent.specs.declared.transaction.Transaction.{Transaction}
use Rattle.turn_client_api.specs.State.{State, Phase, New, Requesting, Authenticating, Grant, Allocation, Permission, Channel, Connection, Active, agent_of}
use Rattle.turn_client_api.specs.Grants.{find_allocation, family_of_grant}
use Rattle.turn_client_api.specs.Due.{has_queued_request}
use Rattle.turn_client_api.specs.Poll.{next_offer}
use Rattle.turn_client_api.specs.Transmit.{next_transmit, transmit_step}
use Rattle.turn_client_api.specs.declared.poll.TurnPollRet.{TurnPollRet}
use Rattle.turn_client_api.specs.declared.poll.TurnPollRet.TheVariants.{WaitUntil, AllocateTcpSocket, TcpClose, Closed as Ended}

-- the grant does not expire before this time; an expired allocation has done so already
abbrev pub Lasts : ℕ → Grant → Type 0
Lasts time (Allocation a) = a.is_expired ≡ false → time ≤ a.expiry
Lasts time (Permission ip (Active lease)) = time ≤ lease.expiry
Lasts time (Channel number peer (Active lease)) = time ≤ lease.expiry
Lasts time (Connection c) = IfSome c.deadline (λ deadline. time ≤ deadline)
Lasts time _ = ⊤

-- Nothing is due from now on before that time: no packet is due, and `poll_transmit` changes nothing, no
-- transaction ends, no event, offer or close is pending, and no grant expires.
pub record IsIdleUntil (now time : ℕ) (s : State) : Type 0 where
  pub sends_nothing : (t : ℕ) → now ≤ t → t < time → transmit_step t s ≡ (None, s)
  pub ends_nothing : (t : ℕ) → now ≤ t → t < time → timed_out_transaction (agent_of s) t ≡ None
  pub no_event : s.events ≡ []
  pub no_offer : next_offer s ≡ None
  pub no_close : s.closes ≡ []
  pub grants_last : All (Lasts time) s.grants

-- Something is due now: an event is pending, or a packet is due, or the call before, whose state is the
-- first, timed a transaction out.
abbrev pub HasWorkNow : ℕ → State → State → Type 0
HasWorkNow now was s =
    (s.events ≢ []) ⊎ (IsSome (next_transmit now s)
    ⊎ ((t : Transaction) × (is_outstanding t.id was.transactions ≡ true) × (is_outstanding t.id s.transactions ≡ false)))

-- a caller that sleeps until the returned time misses no deadline, and one that does what is due does not
-- call for nothing
abbrev pub IsTimely : TurnPollRet → ℕ → State → State → Type 0
IsTimely (WaitUntil time) now was s = (now < time → IsIdleUntil now time s) × (time ≤ now → HasWorkNow now was s)
IsTimely (AllocateTcpSocket id socket peer) now was s = ⊤
IsTimely (TcpClose local remote) now was s = ⊤
IsTimely Ended now was s = ⊤

-- ---- the premises

abbrev pub IsBeforeGrants : Phase → Type 0
IsBeforeGrants Requesting = ⊤
IsBeforeGrants Authenticating = ⊤
IsBeforeGrants _ = ⊥

-- each grant has an allocation, for which it was made
abbrev pub HasAllocation : State → Grant → Type 0
HasAllocation s g = is_some (find_allocation (family_of_grant g) s) ≡ true

abbrev pub AllHaveAllocation : State → Type 0
AllHaveAllocation s = All (HasAllocation s) s.grants

-- What holds for every client that `poll` is called on. The pause begins with the first packet: in `New`
-- none was sent, and later a request is queued only after one was sent. No grant exists while an ALLOCATE
-- awaits its response.
pub record FitsPhaseForPoll (s : State) : Type 0 where
  pub nothing_sent : s.phase ≡ New → s.last_send ≡ None
  pub sent_before : s.phase ≢ New → has_queued_request s ≡ true → IsSome s.last_send
  pub no_grants : IsBeforeGrants s.phase → s.grants ≡ []
