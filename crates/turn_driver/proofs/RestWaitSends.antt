-- A client that sends a packet has less left to do, if no request times out when it is sent.
use Rattle.turn_client_laws.proofs.Common.{◌≡◌, ◌∙◌, ℕ, ◌^◌, ◌<◌, ◌≤◌, ◌-◌, max, Bool, true, false, cond, fold, not, ◌&&◌, leb, List, [], ◌∷◌, Option, Some, None, arith, inl, inr, length, length-drop, refl, subst, sym, take}
use Rattle.turn_client_laws.proofs.Common.{IfSome, cases_lt, drop, map, nat_le, option_to_list, slice_get, list_any, option_map_or, and_parts, cases_Bool, eq-eqb, leb-true, cond_some, none-some}
use Rattle.turn_client_laws.proofs.Machine.{Transmit, due, first_sent, is_due, resent, transaction_timeout, wait_at, Transaction, timers_of, has_allocation_in_use, is_paused, is_refreshable}
use Rattle.turn_client_laws.proofs.Machine.{keepalive_times, pause_end, refresh_time, refresh_time_by_kind, family_of, has_request, is_for, asked_lifetime, binding_indication, fresh_id, id_used}
use Rattle.turn_client_laws.proofs.Machine.{request_for, to_server, State, agent_of, later_by, idle_step, is_refresh_due, keepalive_step, next_queued, next_refresh, begun_by, ended_count, front_sent, id_in_header, settled, waits_begun, without_request, queue_step, refresh_purpose, refresh_step}
use Rattle.turn_client_laws.proofs.Machine.{reply_step, sent, sent_at_once, transmit_step, Grant, Allocation, Channel, Permission, Active, Purpose, ForChannel, ForPermission, ForRefresh, Phase, New}
use Rattle.turn_client_laws.proofs.Machine.{Requesting, Authenticating, Allocated, Closed, Queued, Has, has-found}
use Rattle.turn_client_laws.proofs.Laws.{first_left, queued-left, settled-first, same_ip-same, same_family-self}
use Rattle.turn_agent.specs.Agent.{without_transaction}
use Rattle.std.specs.Prelude.{option_and_then}
use Rattle.turn_client_runs.proofs.LastingTransmits.{IsNext, next-of}
use Rattle.turn_driver.proofs.RestSends.{reply-shorter}
use Rattle.turn_driver.proofs.RestWaits.{asked-fewer, is_over, left_to_await, begun-le, may_keep, not-over, over, over-append, over-filter, resent-fewer}
use Rattle.turn_driver.proofs.RestWeights.{GetsOn}

-- ---- what keeps the path alive

-- once a packet was sent, no indication is due at this time
later-kept : (now ends : ℕ) (keepalive : Option ℕ) → IfSome keepalive (λ k. 0 < k) → now ≤ 2 ^ 62
    → list_any (λ time. nat_le time now) (map (λ k. max ends (later_by k now)) (option_to_list keepalive)) ≡ false
later-kept now ends None some range = refl
later-kept now ends (Some k) some range = elim (cases_Bool (nat_le (max ends (later_by k now)) now)) [
  | inl e ↦ let past = leb-true (max ends (later_by k now)) now e in absurd (omega (arith, past, some, range))
  | inr e ↦ rw e refl
]

silent : (now : ℕ) (s : State) → s.last_send ≡ Some now → IfSome s.config.keepalive (λ k. 0 < k) → now ≤ 2 ^ 62 → may_keep now s ≡ 0
silent now s e some range = rw (by (has_allocation_in_use s)) refl
  where
    times : list_any (λ time. nat_le time now) (map (λ keepalive. max (pause_end s) (option_map_or (later_by keepalive) s.last_send 0)) (option_to_list s.config.keepalive)) ≡ false
    times = rw e (later-kept now _ s.config.keepalive some range)

    by : (b : Bool) → list_any (λ time. nat_le time now)
        (cond b (map (λ keepalive. max (pause_end s) (option_map_or (later_by keepalive) s.last_send 0)) (option_to_list s.config.keepalive)) []) ≡ false
    by true = times
    by false = refl

-- ---- a refresh

gives-for : (now : ℕ) (p : Purpose) (g : Grant) → refresh_purpose now g ≡ Some p → is_for p g ≡ true
gives-for now p (Allocation a) e =
    subst (λ (x : Purpose). is_for x (Allocation a) ≡ true) (cond_some (leb now a.expiry) (ForRefresh (family_of a.relayed) asked_lifetime) p e).1
    (same_family-self (family_of a.relayed) (family_of a.relayed) refl)
gives-for now p (Permission ip (Active lease)) e = subst (λ (x : Purpose). is_for x (Permission ip (Active lease)) ≡ true) (cond_some _ (ForPermission ip) p e).1 (same_ip-same ip)
gives-for now p (Channel number peer (Active lease)) e =
    subst (λ (x : Purpose). is_for x (Channel number peer (Active lease)) ≡ true) (cond_some _ (ForChannel number peer) p e).1 (eq-eqb number number refl)
gives-for now p g e = absurd (none-some p e)

by-kind : (now : ℕ) (o : Option ℕ) (may asked : Bool)
    → option_map_or (λ time. nat_le time now) (option_and_then (λ time. cond (may && not asked) (Some time) None) o) false ≡ true → asked ≡ false
by-kind now None may asked e = cc
by-kind now (Some time) true false e = refl
by-kind now (Some time) true true e = cc
by-kind now (Some time) false asked e = cc

unasked : (now : ℕ) (s : State) (g : Grant) → is_refresh_due now s g ≡ true → has_request g s ≡ false
unfolding is_refresh_due refresh_time
unasked now s g due = by-kind now (refresh_time_by_kind s.config.refresh_ahead g) (is_refreshable g s) (has_request g s) due

-- ---- the call

module _ (now : ℕ) (s : State) (range : now ≤ 2 ^ 62) (waits : (place : ℕ) → 0 < wait_at (timers_of s.config) s.transport place)
    (some : IfSome s.config.keepalive (λ k. 0 < k)) where
  abbrev Sends : Option (Transmit (List ℕ)) × State → Type 0
  Sends p = (packet : Transmit (List ℕ)) → p.0 ≡ Some packet → GetsOn (left_to_await now) s p.1

  retransmits : (x : Transaction) → due (agent_of s) now ≡ Some x → GetsOn (left_to_await now) s (sent now (record s { transactions = resent x.id now s.transactions }))
  retransmits x e =
      let found : Has x s.transactions × (is_due (timers_of s.config) s.transport now x ≡ true) = has-found _ x s.transactions e in
      let reached : nat_le (transaction_timeout (timers_of s.config) s.transport x) now ≡ true = (and_parts _ _ found.1).1 in
      let is : is_over (timers_of s.config) s.transport now x ≡ 1 = rw reached refl in
      inr (refl, inr (refl, inl (resent-fewer (timers_of s.config) s.transport now range waits x s.transactions found.0 is)))

  replies : Sends (reply_step s)
  replies packet e =
      let less = reply-shorter s.queue packet e in
      inr (refl, inr (refl, inr (refl, inr (refl, inr (refl, inr (refl, inl (omega (arith, less))))))))

  -- an indication, if one was due
  keeps : Sends (keepalive_step now s)
  keeps = by (list_any (λ time. nat_le time now) (keepalive_times s)) refl
    where
      by : (b : Bool) → list_any (λ time. nat_le time now) (keepalive_times s) ≡ b
          → Sends (cond {A = Option (Transmit (List ℕ)) × State} b (Some (to_server s s.local (binding_indication (fresh_id s))), sent now (id_used s)) (None, s))
      by true e packet f =
          let one : may_keep now s ≡ 1 = rw e refl in
          let zero = silent now (sent now (id_used s)) refl some range in
          inr (refl, inr (refl, inr (refl, inr (refl, inr (refl, inl (omega (arith, one, zero)))))))
      by false e packet f = cc

  refreshes : Sends (refresh_step now s)
  refreshes = by (next_refresh now s) refl
    where
      by : (o : Option Purpose) → next_refresh now s ≡ o → Sends (option_map_or (λ purpose. sent_at_once (request_for s purpose (fresh_id s)) purpose now s) o (keepalive_step now s))
      by None e packet f = keeps packet f
      by (Some purpose) e packet f =
          let next : IsNext now s purpose = next-of now s purpose e in
          let new : Transaction = first_sent (fresh_id s) s.remote now (request_for s purpose (fresh_id s)) in
          let more = over-append (timers_of s.config) s.transport now s.transactions (new ∷ []) in
          let young = not-over (timers_of s.config) s.transport now new refl (waits 0) range in
          inr (
            refl,
            inr (
              refl,
              inr (
                omega (arith, more, young),
                inr (
                  refl,
                  inl (asked-fewer (record { id = fresh_id s; purpose = purpose }) s.listed next.grant s.grants next.there
                      (unasked now s next.grant next.is_due) (gives-for now purpose next.grant next.gives)),
                ),
              ),
            ),
          )

  idles : (p : Phase) → s.phase ≡ p → Sends (idle_step p now s)
  idles New e packet f = inr (refl, inl (rw e (omega arith)))
  idles Requesting e packet f = cc
  idles Authenticating e packet f = cc
  idles Allocated e packet f = refreshes packet f
  idles Closed e packet f = cc

  -- the first copy of a queued request is given out, and its waits may begin
  queues : (q : Queued) → first_left s s.queue ≡ Some q → (xs : List Transaction) → over (timers_of s.config) s.transport now xs ≤ over (timers_of s.config) s.transport now s.transactions
      → GetsOn (left_to_await now) s (sent now (record s { queue = drop 1 (settled s).queue; transactions = xs }))
  queues q e xs fewer = elim (cases_lt (over (timers_of s.config) s.transport now xs) (over (timers_of s.config) s.transport now s.transactions)) [
    | inl less ↦ inr (refl, inr (refl, inl less))
    | inr most ↦
        let same : over (timers_of s.config) s.transport now xs ≡ over (timers_of s.config) s.transport now s.transactions = omega (arith, fewer, most) in
        elim (cases_Bool (list_any (λ time. nat_le time now) (keepalive_times s))) [
          | inl f ↦
              let one : may_keep now s ≡ 1 = rw f refl in
              inr (refl, inr (refl, inr (same, inr (refl, inr (refl, inl (omega (arith, one, zero)))))))
          | inr f ↦
              let none : may_keep now s ≡ 0 = rw f refl in
              inr (refl, inr (refl, inr (same, inr (refl, inr (refl, inr (zero ∙ sym none, inl (omega (arith, shorter))))))))
        ]
  ]
    where
      zero : may_keep now (sent now (record s { queue = drop 1 (settled s).queue; transactions = xs })) ≡ 0
      zero = silent now (sent now (record s { queue = drop 1 (settled s).queue; transactions = xs })) refl some range

      shorter : length (drop 1 (settled s).queue) < length s.queue
      shorter =
          let (others, is) = settled-first s q e in
          let all : length (q ∷ others) ≡ length s.queue - ended_count s =
          subst (λ (queue : List Queued). length queue ≡ length s.queue - ended_count s) is (length-drop (ended_count s) s.queue) in
          rw is (omega (arith, all))

  ends : (queue : List Queued) (xs : List Transaction) → over (timers_of s.config) s.transport now (fold without_request xs queue) ≤ over (timers_of s.config) s.transport now xs
  ends [] xs = omega arith
  ends (q ∷ queue) xs =
      let later = ends queue (without_request xs q) in
      let one = by (id_in_header q.packet.payload) in
      omega (arith, later, one)
    where
      by : (o : Option ℕ) → over (timers_of s.config) s.transport now (option_map_or (λ id. without_transaction id xs) o xs) ≤ over (timers_of s.config) s.transport now xs
      by None = omega arith
      by (Some id) = over-filter (timers_of s.config) s.transport now _ xs

  begins : (q : Queued) → over (timers_of s.config) s.transport now (begun_by now q (settled s)) ≤ over (timers_of s.config) s.transport now s.transactions
  begins q = let rest = ends (take (ended_count s) s.queue) s.transactions in let first = by (s.config.timed_from_send && q.is_request) (id_in_header q.packet.payload) in omega (arith, first, rest)
    where
      left : List Transaction
      left = (settled s).transactions

      by : (b : Bool) (o : Option ℕ) → over (timers_of s.config) s.transport now (cond b (option_map_or (λ id. waits_begun id now left) o left) left)
          ≤ over (timers_of s.config) s.transport now left
      by true (Some id) = begun-le (timers_of s.config) s.transport now range waits id left
      by true None = omega arith
      by false o = omega arith

  pub transmit-awaits : Sends (transmit_step now s)
  transmit-awaits = by (due (agent_of s) now) refl
    where
      queued : (o : Option Queued) → next_queued now s ≡ o
          → Sends (option_map_or (λ q. (Some q.packet, front_sent now q (settled s))) o (idle_step s.phase now s))
      queued None e packet f = idles s.phase refl packet f
      queued (Some q) e packet f = queues q (queued-left now s q e) (begun_by now q (settled s)) (begins q)

      paused : (b : Bool) → Sends (cond b (reply_step s) (queue_step now s))
      paused true = replies
      paused false = queued (next_queued now s) refl

      by : (o : Option Transaction) → due (agent_of s) now ≡ o → Sends (option_map_or
          (λ t. (Some (record (to_server s s.local t.request) { to = t.to }), sent now (record s { transactions = resent t.id now s.transactions }))) o
          (cond (is_paused now s) (reply_step s) (queue_step now s)))
      by None e = paused (is_paused now s)
      by (Some x) e = λ packet f. retransmits x e
