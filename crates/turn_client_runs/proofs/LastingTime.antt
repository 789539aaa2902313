-- Time passes while no grant is lost.
use Rattle.turn_client_laws.proofs.Common.{◌≡◌, ℕ, ◌+◌, ◌*◌, ◌<◌, ◌≤◌, max, true, false, List, Option, Some, None, refl, inl, inr, sym, ◌∙◌, arith, IfSome, IsSome, max-le, cases_lt}
use Rattle.turn_client_laws.proofs.Common.{none-some, le-ltb}
use Rattle.turn_client_laws.proofs.Machine.{due, Transaction, State, agent_of, Grant, Allocation, Channel, Permission, Relay, allocations, as_allocation, family_of, family_of_grant, is_of, is_paused}
use Rattle.turn_client_laws.proofs.Machine.{pause_end, to_server, Queued, next_refresh, next_transmit, queue_step, refresh_step, transmit_step, Has, filter_map-has, has-all}
use Rattle.turn_client_laws.proofs.Laws.{first_left, front-sends, same_family-self, not_due-transmit, next-sends}
use Rattle.std.proofs.lemmas.Nat.{mul-le}
use Rattle.turn_client_runs.specs.Lasting.{ahead_of, expiry_of, queue_ahead}
use Rattle.turn_client_runs.specs.Late.{AreAnswered}
use Rattle.turn_client_runs.specs.History.{History}
use Rattle.turn_client_runs.proofs.LastingStands.{granted-active, pending-later, IsIdle, IsKept, Stands, allocation-stands, bound, bound-le, soon-by, due_of, stands-early, used, Lag, taken}
use Rattle.turn_client_runs.proofs.LastingSends.{due-sends, is-due, may-refresh, transmit-refreshes}

-- what is refreshed by then is refreshed in time
pub bound-early : (count slots extras : ℕ) (lag : Lag) (delay now : ℕ) (past : History) (transactions : List Transaction) (s : State) (g : Grant)
    → IsKept count slots extras lag delay now past transactions s → Has g s.grants
    → Stands count slots extras lag delay now past transactions s g → IsIdle slots lag now past s g → bound slots lag past s g + lag.late + delay < expiry_of g
bound-early count slots extras lag delay now past transactions s g k there stands idle =
    omega (arith, bound-le count slots extras lag delay now past transactions s g k there stands.granted idle, stands.room, stands.long)

max-lt : (a b n : ℕ) → a < n → b < n → max a b < n
max-lt a b n f g = omega (arith, f, g)

-- what is no later than one of three times is in time if each of them is
sooner : (a b c time more end : ℕ) → time ≤ max a (max b c) → a + more ≤ end → b + more ≤ end → c + more ≤ end → time + more ≤ end
sooner a b c time more end least first second third = omega (arith, least, first, second, third)

-- a refresh is no longer ahead than was configured
ahead-le : (ahead : ℕ) (g : Grant) → ahead_of ahead g ≤ ahead
ahead-le ahead (Allocation a) = omega arith
ahead-le ahead (Permission ip progress) = omega arith
ahead-le ahead (Channel number peer progress) = omega arith
ahead-le ahead g = omega arith

module _ (count slots extras : ℕ) (lag : Lag) (delay before start now : ℕ) (past : History) (s : State) (k : IsKept count slots extras lag delay before past s.transactions s)
    (in_time : AreAnswered lag.late delay lag.since before start now past s) where
  all-answered : (x : Transaction) → Has x s.transactions → now ≤ past.made x.id + delay
  all-answered x h = has-all (λ (y : Transaction). now ≤ past.made y.id + delay) x s.transactions in_time.answered h

  -- what was to be retransmitted was sent
  none-was_due : (time : ℕ) → lag.since ≤ time → time < start → due (agent_of s) (max time before) ≡ None
  none-was_due time after early = by (due (agent_of s) (max time before)) refl
    where
      by : (o : Option Transaction) → due (agent_of s) (max time before) ≡ o → due (agent_of s) (max time before) ≡ None
      by None e = e
      by (Some x) e =
          let some : next_transmit (max time before) s ≡ Some (record (to_server s s.local x.request) { to = x.to }) = rw (e, next_transmit, transmit_step) refl in
          absurd (none-some (record (to_server s s.local x.request) { to = x.to }) (sym (in_time.caller.free time after early) ∙ some))

  -- with nothing to send, no refresh could be sent before the lag began
  sends-none : first_left s s.queue ≡ None → (time : ℕ) → lag.since ≤ time → time < start → pause_end s ≤ max time before → IsSome (next_refresh (max time before) s) → ⊥
  sends-none empty time after early over some =
      let is : transmit_step (max time before) s ≡ refresh_step (max time before) s = transmit-refreshes (max time before) s k.phase empty (none-was_due time after early) over in
      let e : (refresh_step (max time before) s).0 ≡ None = rw (sym is) (in_time.caller.free time after early) in
      let no : false ≡ true = rw e at (next-sends (max time before) s some) in
      cc

  -- what is queued can be sent once the pause has ended
  queue-late : (q : Queued) → first_left s s.queue ≡ Some q → start ≤ max lag.since (pause_end s)
  queue-late q e = elim (cases_lt (max lag.since (pause_end s)) start) [
    | inl early ↦
        let time = max lag.since (pause_end s) in
        let idle : is_paused (max time before) s ≡ false = le-ltb (max time before) (pause_end s) (omega arith) in
        let is : transmit_step (max time before) s ≡ queue_step (max time before) s = not_due-transmit (max time before) s (none-was_due time (omega arith) early) ∙ rw idle refl in
        let none : (queue_step (max time before) s).0 ≡ None = rw (sym is) (in_time.caller.free time (omega arith) early) in
        let no : false ≡ true = rw none at (front-sends (max time before) s q e) in
        cc
    | inr late ↦ late
  ]

  -- with the queue, by which it is decided
  idle-early : (g : Grant) → Has g s.grants → Stands count slots extras lag delay before past s.transactions s g
      → IsIdle slots lag before past s g → (a : Relay) → Has a (allocations s) → is_of (family_of a.relayed) g ≡ true
      → ((time : ℕ) → time ≤ now → time < expiry_of g → time ≤ a.expiry) → start + lag.pace * queue_ahead s ≤ bound slots lag past s g
  idle-early g there stands idle a inside of goes_on = by (first_left s s.queue) refl
    where
      at_once : ℕ
      at_once = max lag.since (max (pause_end s) (due_of s g))

      within : at_once ≤ bound slots lag past s g
      within = let soon = idle.soon in let paused = idle.paused in
          max-le {a = lag.since} {b = max (pause_end s) (due_of s g)} {k = bound slots lag past s g} (omega (arith, soon))
          (max-le {a = pause_end s} {b = due_of s g} {k = bound slots lag past s g} (omega (arith, paused)) (omega arith))

      lasts : max at_once before < expiry_of g
      lasts =
          let alive = stands-early count slots extras lag delay before past s k g there stands in
          let soon : at_once < expiry_of g = omega (arith, within, bound-early count slots extras lag delay before past s.transactions s g k there stands idle) in
          max-lt at_once before (expiry_of g) soon alive

      all : (b : Relay) → Has (Allocation b) s.grants → b.is_expired ≡ false
      all b h = (allocation-stands count slots extras lag delay before past s.transactions s k b h).granted

      no-later : at_once < start → max at_once before ≤ now
      no-later early =
          let begun = in_time.caller.begun in
          let later = in_time.caller.later in
          max-le {a = at_once} {b = before} {k = now} (omega (arith, early, begun)) later

      sends : at_once < start → IsSome (next_refresh (max at_once before) s)
      sends early =
          due-sends (max at_once before) s g there (granted-active g stands.granted)
          (is-due (max at_once before) s g (granted-active g stands.granted) (may-refresh s g all stands.granted (k.in_allocations g there)) idle.unasked (omega arith))
          lasts a inside of (goes_on (max at_once before) (no-later early) lasts)

      -- those that have ended may be in the queue, too
      few : due_of s g + lag.pace * queue_ahead s ≤ due_of s g + lag.pace * (1 + slots + used past s (due_of s g))
      few =
          let few = k.few in
          let all = mul-le lag.pace (queue_ahead s) lag.pace (1 + slots + used past s (due_of s g)) (omega arith) (omega (arith, few)) in
          omega (arith, all)

      by : (o : Option Queued) → first_left s s.queue ≡ o → start + lag.pace * queue_ahead s ≤ bound slots lag past s g
      by (Some q) e = let soon = idle.soon in let paused = idle.paused in omega (arith, queue-late q e, soon, paused)
      by None e = elim (cases_lt at_once start) [
        | inl early ↦ absurd (sends-none e at_once (omega arith) early (omega arith) (sends early))
        | inr late ↦ sooner lag.since (pause_end s) (due_of s g) start (lag.pace * queue_ahead s) (bound slots lag past s g) late idle.soon idle.paused few
      ]

  -- a request for it leaves in time, or its reply comes in time
  early-by : (g : Grant) → Has g s.grants → Stands count slots extras lag delay before past s.transactions s g
      → (IsIdle slots lag before past s g → start + lag.pace * queue_ahead s ≤ bound slots lag past s g)
      → now < expiry_of g
  early-by g there stands idles = elim stands.either [
    | inl awaited ↦ let late = all-answered awaited.transaction awaited.there in let t = awaited.made in omega (arith, late, t)
    | inr idle ↦ omega (arith, in_time.caller.soon, soon-by start lag.pace (queue_ahead s) (bound slots lag past s g) (idles idle), bound-early count slots extras lag delay before past s.transactions s g k there stands idle)
  ]

  there-of : (a : Relay) → Has (Allocation a) s.grants → Has a (allocations s)
  there-of a h = filter_map-has as_allocation (Allocation a) a s.grants h refl

  allocation-early : (a : Relay) → Has (Allocation a) s.grants → now < a.expiry
  allocation-early a there =
      let stands = allocation-stands count slots extras lag delay before past s.transactions s k a there in
      early-by (Allocation a) there stands
      (λ idle. idle-early (Allocation a) there stands idle a (there-of a there) (same_family-self (family_of a.relayed) (family_of a.relayed) refl) (λ time early less. omega (arith, less)))

  idles : (g : Grant) → Has g s.grants → Stands count slots extras lag delay before past s.transactions s g
      → IsIdle slots lag before past s g → start + lag.pace * queue_ahead s ≤ bound slots lag past s g
  idles g there stands idle =
      let (a, here, same) = k.in_allocations g there in
      idle-early g there stands idle a (there-of a here) (same_family-self (family_of_grant g) (family_of a.relayed) (sym same)) (λ time early less. omega (arith, early, allocation-early a here))

  sent-earlier : (o : Option ℕ) → IfSome o (λ time. time ≤ before) → IfSome o (λ time. time ≤ now)
  sent-earlier None h = tt
  sent-earlier (Some time) h = let l = in_time.caller.later in omega (arith, h, l)

  pub time-kept : IsKept count slots extras (taken start lag) delay now past s.transactions s
  time-kept = record {
    phase = k.phase;
    requests = k.requests;
    few = k.few;
    prompt = k.prompt;
    paced = k.paced;
    begins = in_time.caller.begun;
    behind = in_time.caller.soon;
    pace = k.pace;
    sent = sent-earlier s.last_send k.sent;
    aged = k.aged;
    lone = k.lone;
    begun = λ x h. let b = k.begun x h in let l = in_time.caller.later in omega (arith, b, l);
    heard = all-answered;
    seldom = λ since within. let l = in_time.caller.later in k.seldom since (omega (arith, l, within));
    row = k.row;
    asked = k.asked;
    size = k.size;
    single = k.single;
    linked = k.linked;
    in_range = in_time.caller.in_range;
    in_allocations = k.in_allocations;
    known = λ g there. let (waits, due) = k.known g there in (waits, λ leased asked. let l = in_time.caller.later in let d = due leased asked in omega (arith, l, d));
    each = λ g there. elim (k.each g there) [
      | inl (waits, p) ↦ inl (waits, pending-later before now past s.transactions s.listed g in_time.caller.later p)
      | inr (inl stands) ↦ inr (inl (later g there stands))
      | inr (inr loose) ↦ inr (inr loose)
    ];
  }
    where
      idle-later : (g : Grant) → Has g s.grants → Stands count slots extras lag delay before past s.transactions s g → IsIdle slots lag before past s g → IsIdle slots (taken start lag) now past s g
      idle-later g there was idle =
          let soon = idles g there was idle in
          let at_most = soon-by start lag.pace (queue_ahead s) (bound slots lag past s g) soon in
          let behind = in_time.caller.soon in
          let early = bound-early count slots extras lag delay before past s.transactions s g k there was idle in
          let near = ahead-le s.config.refresh_ahead g in
          let long = was.long in
          record { unasked = idle.unasked; near = omega (arith, at_most, behind, early, near, long); soon = soon; paused = idle.paused }

      later : (g : Grant) → Has g s.grants → Stands count slots extras lag delay before past s.transactions s g → Stands count slots extras (taken start lag) delay now past s.transactions s g
      later g there was = record {
        granted = was.granted;
        room = was.room;
        long = was.long;
        either = elim was.either [ inl awaited ↦ inl awaited | inr idle ↦ inr (idle-later g there was idle) ];
      }
