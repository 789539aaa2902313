-- `poll` waits for the expiry of each allocation.
use Rattle.turn_client_laws.proofs.Common.{◌||◌, ℕ, ◌<◌, ◌≤◌, max, Bool, cond, List, [], ◌∷◌, ◌++◌, map, flat_map, Option, Some, None, arith, inl, inr, refl, is_some, lt-ltb, SocketAddr}
use Rattle.turn_client_laws.proofs.Machine.{timed_out_transaction, transaction_timeout, State, agent_of, max_time, Grant, Allocation, Relay, TurnPollRet, Phase, New, Requesting, Authenticating}
use Rattle.turn_client_laws.proofs.Machine.{Allocated, Closed, is_allocated, due_times, end_of, has_event, has_request_to_send, has_reply, is_new, keepalive_times, least_due, next_wakeup, pause_end}
use Rattle.turn_client_laws.proofs.Machine.{refresh_of, closed, transaction_ended, allocations, answer_by, answer_step, is_listed_for_allocation, expired_at, next_offer, offer_step, poll_step}
use Rattle.turn_client_laws.proofs.Machine.{timed_out_step, timed_step, Has, flat_map-has, has-left, has-right, least-le}
use Rattle.turn_client_laws.proofs.Laws.{by_found, by_test, contains-has}
use Rattle.turn_client_runs.specs.Sleeps.{WaitsForAllocations}

-- an expiry that is to come is one of the times at which something is due
expiry-due : (now : ℕ) (s : State) (a : Relay) → Has (Allocation a) s.grants → now < a.expiry → Has a.expiry (due_times now s)
expiry-due now s a there later =
    let due = flat_map-has of_grant (Allocation a) a.expiry s.grants there ends in
    inr (has-left a.expiry (requests ++ timeouts ++ flat_map of_grant s.grants) (keepalive_times s) (has-right a.expiry (requests ++ timeouts) (flat_map of_grant s.grants) due))
  where
    requests : List ℕ
    requests = cond (has_request_to_send s) (pause_end s ∷ []) []

    timeouts : List ℕ
    timeouts = map (transaction_timeout (agent_of s).timers s.transport) s.transactions

    of_grant : Grant → List ℕ
    of_grant g = end_of now g ++ refresh_of s g

    ends : Has a.expiry (of_grant (Allocation a))
    ends = has-left a.expiry (end_of now (Allocation a)) (refresh_of s (Allocation a)) (rw (lt-ltb now a.expiry later) (inl refl))

-- so the client wakes up no later
wakeup-waits : (given : Bool) (now : ℕ) (s : State) (a : Relay) → Has (Allocation a) s.grants → now < a.expiry → next_wakeup given now s ≤ a.expiry
wakeup-waits given now s a there later =
    by_test (λ (time : ℕ). time ≤ a.expiry) (is_new s.phase || has_event s || has_reply s || given) now _ (λ e. omega (arith, later))
    (λ e. by_test (λ (time : ℕ). time ≤ a.expiry) (is_allocated s.phase) (max now (least_due now s)) (least_due now s) (λ f. omega (arith, later, due)) (λ f. due))
  where
    due : least_due now s ≤ a.expiry
    due = least-le max_time a.expiry (due_times now s) (expiry-due now s a there later)

-- ---- what `poll` returns

module _ (now : ℕ) where
  abbrev Waits : TurnPollRet × State → Type 0
  Waits x = WaitsForAllocations x.0 now x.1

  answer-waits : (given : Option ℕ) (s : State) → Waits (answer_step given now s)
  answer-waits given s = by s.closes s.phase (allocations s)
    where
      wakes : (a : Relay) → Has (Allocation a) s.grants → now < a.expiry → next_wakeup (is_some given) now s ≤ a.expiry
      wakes a there later = wakeup-waits (is_some given) now s a there later

      by : (closes : List SocketAddr) (p : Phase) (relays : List Relay) → Waits (answer_by closes p relays given now s)
      by (local ∷ others) p relays = tt
      by [] Allocated [] = tt
      by [] p relays = λ a there later. wakes a (contains-has (Allocation a) s.grants there) later

  timed-waits : (p : Phase) (given : Option ℕ) (s : State) → Waits (timed_step p given now s)
  timed-waits New given s = λ a there later. omega (arith, later)
  timed-waits Requesting None s = answer-waits None s
  timed-waits Requesting (Some id) s = tt
  timed-waits Authenticating None s = answer-waits None s
  timed-waits Authenticating (Some id) s = answer-waits (Some id) (cond (is_listed_for_allocation id s) (closed s) s)
  timed-waits Allocated given s = answer-waits given (expired_at given now s)
  timed-waits Closed given s = tt

  pub poll-waits : (s : State) → Waits (poll_step now s)
  poll-waits s =
      by_test Waits (has_event s || has_reply s) _ _ (λ e a there later. omega (arith, later))
      (λ e. by_found Waits (λ offer. offer_step offer s) (next_offer s) (timed_out_step now s) (λ offer f. tt)
      (by_found Waits (λ t. timed_step s.phase (Some t.id) now (transaction_ended t.id s)) (timed_out_transaction (agent_of s) now) (timed_step s.phase None now s)
      (λ t f. timed-waits s.phase (Some t.id) (transaction_ended t.id s)) (timed-waits s.phase None s)))
