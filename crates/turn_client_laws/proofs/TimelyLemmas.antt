-- The time that `poll` returns is timely.
use Rattle.turn_client_laws.proofs.Common.{◌≡◌, ◌≢◌, ℕ, ◌^◌, ◌<◌, ◌≤◌, max, Bool, true, false, ltb, eqb, List, [], ◌∷◌, length, Option, Some, None, ◌⊎◌, inl, inr, refl, sym, subst, ◌∙◌, arith}
use Rattle.turn_client_laws.proofs.Common.{if◌then◌else◌, is_some, option_map_or, max-le, le-max_right, ltb-true, ltb-false, eq-eqb, SocketAddr}
use Rattle.turn_client_laws.proofs.Machine.{is_outstanding-without, timed_out_transaction, is_timed_out, is_outstanding, Transaction, State, agent_of, DataOffer, Phase, New, Requesting}
use Rattle.turn_client_laws.proofs.Machine.{Authenticating, Allocated, Closed, Grant, Relay, allocations, closed, transaction_ended, is_allocated, has_event, has_reply, is_new, least_due, next_wakeup}
use Rattle.turn_client_laws.proofs.Machine.{answer_by, answer_step, timed_out_step, is_listed_for_allocation, expired_at, next_offer, offer_step, poll_step, timed_step, AllHaveAllocation}
use Rattle.turn_client_laws.proofs.Machine.{IsBeforeGrants, HasWorkNow, FitsPhaseForPoll, IsIdleUntil, IsTimely, TurnEvent, TurnPollRet, Has, has-found}
use Rattle.turn_client_api.specs.declared.poll.TurnPollRet.TheVariants as Do
use Rattle.turn_client_laws.proofs.ReadyLemmas.{Alive, IsReady, new-busy, ready-busy, ready-silent, reply-busy}
use Rattle.turn_client_laws.proofs.AfterExpiryLemmas.{expired_at-alive, expired_at-no_offer, expired_at-shrinks}
use Rattle.turn_client_laws.proofs.WakeupLemmas.{phase-old}
use Rattle.turn_client_laws.proofs.InAllocationLemmas.{has-any}

abbrev Timely : ℕ → State → TurnPollRet × State → Type 0
Timely now was answer = IsTimely answer.0 now was answer.1

-- the returned time is now, and something is due
now-timely : (now : ℕ) (was s : State) → HasWorkNow now was s → Timely now was (Do.WaitUntil now, s)
now-timely now was s busy = (λ later. absurd (omega (arith, later)), λ reached. busy)

event-busy : (now : ℕ) (was s : State) → has_event s ≡ true → HasWorkNow now was s
event-busy now was s some = inl (λ none. let no : false ≡ true = rw none at some in cc)

no_event : (events : List TurnEvent) → ltb 0 (length events) ≡ false → events ≡ []
no_event [] e = refl
no_event (event ∷ events) e = absurd (omega (arith, ltb-false 0 (length (event ∷ events)) e))

-- a transaction of the state before is no longer outstanding
abbrev GaveUp : State → State → Type 0
GaveUp was s = (x : Transaction) × (is_outstanding x.id was.transactions ≡ true) × (is_outstanding x.id s.transactions ≡ false)

-- ---- what a client returns when nothing is pending

-- what is known of a client that returns when to call again
pub record IsSettled (now : ℕ) (was : State) (given : Bool) (t : State) : Type 0 where
  pub in_range : now ≤ 2 ^ 62
  pub not_new : t.phase ≢ New
  pub no_reply : has_reply t ≡ false
  pub gave_up : given ≡ true → GaveUp was t
  pub none_over : given ≡ false → timed_out_transaction (agent_of t) now ≡ None
  pub no_offer : next_offer t ≡ None
  pub alive : t.events ≡ [] → given ≡ false → (g : Grant) → Has g t.grants → Alive now g
  pub grants_later : given ≡ false → (t.phase ≡ Allocated) ⊎ (t.grants ≡ [])

ready-timely : (now : ℕ) (was t : State) (m : ℕ) → now ≤ 2 ^ 62 → IsReady now t → (m ≡ least_due now t) ⊎ (m ≡ max now (least_due now t)) → Timely now was (Do.WaitUntil m, t)
ready-timely now was t m range ready (inl e) =
    (λ later. ready-silent now m t ready (omega (arith, e)), λ reached. inr (inl (ready-busy now t ready range (omega (arith, e, reached)))))
ready-timely now was t m range ready (inr e) = (silent, λ reached. inr (inl (ready-busy now t ready range (omega (arith, e, reached, le-max_right now (least_due now t))))))
  where
    silent : now < m → IsIdleUntil now m t
    silent later = by (ltb now (least_due now t)) refl
      where
        by : (b : Bool) → ltb now (least_due now t) ≡ b → IsIdleUntil now m t
        by true f = ready-silent now m t ready (omega (arith, e, max-le {a = now} {b = least_due now t} {k = least_due now t} (omega (arith, ltb-true now (least_due now t) f)) (omega arith)))
        by false f = absurd (omega (arith, later, e, max-le {a = now} {b = least_due now t} {k = now} (omega arith) (ltb-false now (least_due now t) f)))

wakeup-timely : (now : ℕ) (was : State) (given : Bool) (t : State) → IsSettled now was given t → t.closes ≡ [] → Timely now was (Do.WaitUntil (next_wakeup given now t), t)
wakeup-timely now was given t settled no_close = by (has_event t) given refl refl
  where
    old : is_new t.phase ≡ false
    old = phase-old t.phase settled.not_new

    answer : ℕ → Type 0
    answer m = Timely now was (Do.WaitUntil m, t)

    least_or : ℕ
    least_or = if is_allocated t.phase then max now (least_due now t) else least_due now t

    waits : (b : Bool) → is_allocated t.phase ≡ b → IsReady now t → answer least_or
    waits true e ready = rw e (ready-timely now was t (max now (least_due now t)) settled.in_range ready (inr refl))
    waits false e ready = rw e (ready-timely now was t (least_due now t) settled.in_range ready (inl refl))

    by : (b g : Bool) → has_event t ≡ b → given ≡ g → answer (next_wakeup given now t)
    by true g e f =
        let reports : next_wakeup given now t ≡ now = rw (old, e) refl in
        subst answer (sym reports) (now-timely now was t (event-busy now was t e))
    by false true e f =
        let reports : next_wakeup given now t ≡ now = rw (old, e, settled.no_reply, f) refl in
        subst answer (sym reports) (now-timely now was t (inr (inr (settled.gave_up f))))
    by false false e f =
        let reports : next_wakeup given now t ≡ least_or = rw (old, e, settled.no_reply, f) refl in
        let empty = no_event t.events e in
        subst answer (sym reports) (waits (is_allocated t.phase) refl (record {
          no_event = empty;
          no_reply = settled.no_reply;
          no_offer = settled.no_offer;
          no_close = no_close;
          not_new = settled.not_new;
          none_over = settled.none_over f;
          alive = settled.alive empty f;
          grants_later = settled.grants_later f;
        }))

-- a connection to close, or nothing more, or a time
answer-timely : (now : ℕ) (was : State) (given : Option ℕ) (t : State) → IsSettled now was (is_some given) t → Timely now was (answer_step given now t)
answer-timely now was given t settled = by t.closes t.phase (allocations t) refl settled.not_new
  where
    by : (closes : List SocketAddr) (p : Phase) (relays : List Relay) → t.closes ≡ closes → p ≢ New → Timely now was (answer_by closes p relays given now t)
    by (local ∷ others) p relays e old = tt
    by [] Allocated [] e old = tt
    by [] New relays e old = absurd (old refl)
    by [] p relays e old = wakeup-timely now was (is_some given) t settled e

-- ---- what timed out

-- ---- the phases

no_grants-alive : (now : ℕ) (t : State) → t.grants ≡ [] → (g : Grant) → Has g t.grants → Alive now g
no_grants-alive now t none g h = absurd (rw none at h)

-- what is known of a client whose transaction timed out
settled-given : (now : ℕ) (s t : State) → now ≤ 2 ^ 62 → t.phase ≢ New → has_reply t ≡ false → next_offer t ≡ None → GaveUp s t → IsSettled now s true t
settled-given now s t range old no_reply no_offer gave = record {
  in_range = range;
  not_new = old;
  no_reply = no_reply;
  gave_up = λ g. gave;
  none_over = λ f. cc;
  no_offer = no_offer;
  alive = λ empty f g h. cc;
  grants_later = λ f. cc;
}

old-phase : (p q : Phase) → q ≡ p → p ≢ New → q ≢ New
old-phase p q e old new = old (sym e ∙ new)

given-timely : (now : ℕ) (s : State) → FitsPhaseForPoll s → now ≤ 2 ^ 62 → has_reply s ≡ false → next_offer s ≡ None → (x : Transaction) → timed_out_transaction (agent_of s) now ≡ Some x
    → (p : Phase) → s.phase ≡ p → Timely now s (timed_step p (Some x.id) now (transaction_ended x.id s))
given-timely now s orderly range no_reply no_offer x given p e = by p e
  where
    u : State
    u = transaction_ended x.id s

    outstanding : is_outstanding x.id s.transactions ≡ true
    outstanding =
        has-any (λ (y : Transaction). eqb y.id x.id) x s.transactions (has-found (is_timed_out (agent_of s).timers s.transport now) x s.transactions given).0
        (eq-eqb x.id x.id refl)

    gave : GaveUp s u
    gave = (x, outstanding, is_outstanding-without x.id s.transactions)

    over : (b : Bool) → s.phase ≡ Authenticating → Timely now s (answer_step (Some x.id) now (if b then closed u else u))
    over true e = answer-timely now s (Some x.id) (closed u) (settled-given now s (closed u) range (λ new. cc) no_reply refl gave)
    over false e = answer-timely now s (Some x.id) u (settled-given now s u range (old-phase Authenticating s.phase e (λ new. cc)) no_reply no_offer gave)

    by : (p : Phase) → s.phase ≡ p → Timely now s (timed_step p (Some x.id) now u)
    by New e = now-timely now s u (inr (inl (new-busy now u e (orderly.nothing_sent e))))
    by Authenticating e = over (is_listed_for_allocation x.id u) e
    by Allocated e =
        let t = expired_at (Some x.id) now u in
        let shrinks = expired_at-shrinks (Some x.id) now u in
        let gave_later : GaveUp s t = (x, outstanding, rw shrinks.transactions (is_outstanding-without x.id s.transactions)) in
        answer-timely now s (Some x.id) t (settled-given now s t range (old-phase Allocated t.phase (shrinks.phase ∙ e) (λ new. cc)) (rw shrinks.queue no_reply)
        (expired_at-no_offer u t shrinks no_offer) gave_later)
    by p e = tt

none-timely : (now : ℕ) (s : State) → FitsPhaseForPoll s → AllHaveAllocation s → now ≤ 2 ^ 62 → has_reply s ≡ false → next_offer s ≡ None → timed_out_transaction (agent_of s) now ≡ None → (p : Phase)
    → s.phase ≡ p → Timely now s (timed_step p None now s)
none-timely now s orderly stand range no_reply no_offer none p e = by p e
  where
    before_grants : s.phase ≢ New → s.grants ≡ [] → Timely now s (answer_step None now s)
    before_grants old empty = answer-timely now s None s (record {
      in_range = range;
      not_new = old;
      no_reply = no_reply;
      gave_up = λ f. cc;
      none_over = λ f. none;
      no_offer = no_offer;
      alive = λ quiet f. no_grants-alive now s empty;
      grants_later = λ f. inr empty;
    })

    by : (p : Phase) → s.phase ≡ p → Timely now s (timed_step p None now s)
    by New e = now-timely now s s (inr (inl (new-busy now s e (orderly.nothing_sent e))))
    by Closed e = tt
    by Requesting e = before_grants (old-phase Requesting s.phase e (λ new. cc)) (orderly.no_grants (subst IsBeforeGrants (sym e) tt))
    by Authenticating e = before_grants (old-phase Authenticating s.phase e (λ new. cc)) (orderly.no_grants (subst IsBeforeGrants (sym e) tt))
    by Allocated e =
        let t = expired_at None now s in
        let shrinks = expired_at-shrinks None now s in
        let live : t.phase ≡ Allocated = shrinks.phase ∙ e in
        answer-timely now s None t (record {
          in_range = range;
          not_new = old-phase Allocated t.phase live (λ new. cc);
          no_reply = rw shrinks.queue no_reply;
          gave_up = λ f. cc;
          none_over = λ f. subst (λ a. timed_out_transaction a now ≡ None) (sym shrinks.agent) none;
          no_offer = expired_at-no_offer s t shrinks no_offer;
          alive = λ quiet f. expired_at-alive None now s stand quiet;
          grants_later = λ f. inl live;
        })

-- what `poll` returns is timely, whatever the times before
pub poll-timely : (now : ℕ) (s : State) → FitsPhaseForPoll s → AllHaveAllocation s → now ≤ 2 ^ 62 → IsTimely (poll_step now s).0 now s (poll_step now s).1
poll-timely now s orderly stand range = events (has_event s) (has_reply s) refl refl
  where
    given : has_reply s ≡ false → next_offer s ≡ None → (o : Option Transaction) → timed_out_transaction (agent_of s) now ≡ o → Timely now s (timed_out_step now s)
    given no_reply no_offer None e = rw (timed_out_step, e) (none-timely now s orderly stand range no_reply no_offer e s.phase refl)
    given no_reply no_offer (Some x) e = rw (timed_out_step, e) (given-timely now s orderly range no_reply no_offer x e s.phase refl)

    offers : has_event s ≡ false → has_reply s ≡ false → (o : Option DataOffer) → next_offer s ≡ o → Timely now s (option_map_or (λ offer. offer_step offer s) (next_offer s) (timed_out_step now s))
    offers no_event no_reply (Some offer) e = rw e tt
    offers no_event no_reply None e = rw e (given no_reply e (timed_out_transaction (agent_of s) now) refl)

    events : (b c : Bool) → has_event s ≡ b → has_reply s ≡ c → Timely now s (poll_step now s)
    events true c e f = rw (poll_step, e) (now-timely now s s (event-busy now s s e))
    events false true e f = rw (poll_step, e, f) (now-timely now s s (inr (inl (reply-busy now s f))))
    events false false e f = rw (poll_step, e, f) (offers e f (next_offer s) refl)
