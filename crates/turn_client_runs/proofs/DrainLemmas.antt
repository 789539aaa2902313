-- While a packet is queued, one leaves at the end of each pause.
use Rattle.turn_client_laws.proofs.Common.{◌≡◌, ◌⊎◌, ◌∙◌, ℕ, ◌+◌, ◌*◌, ◌≤◌, max, Bool, true, false, cond, List, [], ◌∷◌, Option, Some, None, refl, inl, inr, ap, subst, sym, arith, if◌then◌else◌, is_some, IsSome}
use Rattle.turn_client_laws.proofs.Common.{cases_lt, le-ltb, leb, list_any, none-some}
use Rattle.turn_client_laws.proofs.Machine.{Transmit, due, Config, State, Phase, New, Allocated, agent_of, Queued, is_paused, keepalive_times, pause_end, to_server, Transaction, idle_step, next_queued}
use Rattle.turn_client_laws.proofs.Machine.{next_refresh, next_transmit, queue_step, reply_step, transmit_step, state_after, Call, PollTransmit}
use Rattle.turn_client_laws.proofs.Laws.{by_found, by_test, call-configured, first_left, front-sends, not_due-transmit}
use Rattle.turn_client_runs.specs.Drains.{QueuesDrain, gives_packet, packets_given}
use Rattle.turn_client_runs.specs.OnTime.{IsOnTime, time_of, time_of_all}
use Rattle.turn_client_runs.proofs.SendTimeLemmas.{others-same}

-- ---- the pause after a call

-- no pause begins, or a packet is given, and one begins now
Paces : ℕ → State → Option (Transmit (List ℕ)) × State → Type 0
Paces now s z = (z.1.last_send ≡ s.last_send) ⊎ ((is_some z.0 ≡ true) × (z.1.last_send ≡ Some now))

module _ (now : ℕ) (s : State) where
  idle-paces : (p : Phase) → Paces now s (idle_step p now s)
  unfolding Paces
  idle-paces New = inr (refl, refl)
  idle-paces Allocated =
      by_found (Paces now s) _ (next_refresh now s) _ (λ p e. inr (refl, refl))
      (by_test (Paces now s) (list_any (λ time. leb time now) (keepalive_times s)) _ (None, s) (λ e. inr (refl, refl)) (λ e. inl refl))
  idle-paces p = inl refl

  transmit-paces : Paces now s (transmit_step now s)
  unfolding Paces
  transmit-paces =
      by_found (Paces now s) _ (due (agent_of s) now) _ (λ t e. inr (refl, refl))
      (by_test (Paces now s) (is_paused now s) (reply_step s) (queue_step now s) (λ e. inl refl)
      (λ e. by_found (Paces now s) _ (next_queued now s) (idle_step s.phase now s) (λ q f. inr (refl, refl)) (idle-paces s.phase)))

pause-same : (s t : State) → t.config ≡ s.config → t.last_send ≡ s.last_send → pause_end t ≡ pause_end s
pause-same s t same e = rw (same, e) refl

pause-anew : (now : ℕ) (s t : State) → t.config ≡ s.config → t.last_send ≡ Some now → pause_end t ≤ now + s.config.request_cadence
pause-anew now s t same e = rw (same, e) (omega arith)

-- it has not changed, or a packet was given, and it begins then
call-paces : (before : ℕ) (call : Call) (s : State) → (pause_end (state_after call s) ≡ pause_end s)
    ⊎ ((gives_packet call s ≡ true) × (pause_end (state_after call s) ≤ time_of before call + s.config.request_cadence))
unfolding Paces
call-paces before (PollTransmit now) s = elim (transmit-paces now s) [
  | inl same ↦ inl (pause-same s (state_after (PollTransmit now) s) (call-configured (PollTransmit now) s) same)
  | inr (some, e) ↦ inr (some, pause-anew now s (state_after (PollTransmit now) s) (call-configured (PollTransmit now) s) e)
]
call-paces before call s = inl (pause-same s (state_after call s) (call-configured call s) (others-same call s tt))

-- ---- a caller that is on time

queued-late : (start now : ℕ) (s : State) → IsOnTime start now s → IsSome (first_left s s.queue) → now ≤ max start (pause_end s)
queued-late start now s on_time queued = elim (cases_lt (max start (pause_end s)) now) [
  | inl early ↦ absurd (sends (on_time.punctual time (omega arith) early) (due (agent_of s) time) refl)
  | inr late ↦ late
]
  where
    time : ℕ
    time = max start (pause_end s)

    at-front : next_transmit time s ≡ None → due (agent_of s) time ≡ None → (o : Option Queued) → first_left s s.queue ≡ o → IsSome o → ⊥
    at-front silent none None e some = cc
    at-front silent none (Some q) e some =
        let idle : is_paused time s ≡ false = le-ltb time (pause_end s) (omega arith) in
        let is : (if is_paused time s then reply_step s else queue_step time s) ≡ queue_step time s = rw idle refl in
        let sent : (queue_step time s).0 ≡ None = sym (ap (λ (z : Option (Transmit (List ℕ)) × State). z.0) (not_due-transmit time s none ∙ is)) ∙ silent in
        let no : false ≡ true = rw sent at (front-sends time s q e) in
        cc

    sends : next_transmit time s ≡ None → (o : Option Transaction) → due (agent_of s) time ≡ o → ⊥
    sends silent None e = at-front silent e (first_left s s.queue) refl queued
    sends silent (Some x) e =
        let some : next_transmit time s ≡ Some (record (to_server s s.local x.request) { to = x.to }) = rw (e, next_transmit, transmit_step) refl in
        none-some (record (to_server s s.local x.request) { to = x.to }) (sym silent ∙ some)

-- ---- all calls

-- one call more
one-more : (start now paused pause cadence given : ℕ) (gives : Bool) → now ≤ max start paused → (pause ≡ paused) ⊎ ((gives ≡ true) × (pause ≤ now + cadence))
    → max now pause + cadence * given ≤ max start paused + cadence * (cond gives 1 0 + given)
one-more start now paused pause cadence given true late (inl same) = omega (arith, late, same)
one-more start now paused pause cadence given false late (inl same) = omega (arith, late, same)
one-more start now paused pause cadence given true late (inr (gives, anew)) = omega (arith, late, anew)
one-more start now paused pause cadence given false late (inr (gives, anew)) = cc

pub queues-drain : QueuesDrain
queues-drain start s [] run = omega arith
queues-drain start s (call ∷ calls) (on_time, queued, run) =
    let now = time_of start call in
    let t = state_after call s in
    let rest : time_of_all now calls ≤ max now (pause_end t) + t.config.request_cadence * packets_given t calls = queues-drain now t calls run in
    let same : t.config ≡ s.config = call-configured call s in
    let later = subst (λ (c : Config). time_of_all now calls ≤ max now (pause_end t) + c.request_cadence * packets_given t calls) same rest in
    let one = one-more start now (pause_end s) (pause_end t) s.config.request_cadence (packets_given t calls) (gives_packet call s)
    (queued-late start now s on_time queued) (call-paces start call s) in
    omega (arith, later, one)
