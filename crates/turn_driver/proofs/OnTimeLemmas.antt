-- A loop is on time.
use Rattle.turn_client_laws.proofs.Common.{◌≡◌, ◌∙◌, ltb, ℕ, ◌^◌, ◌≤◌, Bool, true, false, cond, List, [], ◌∷◌, ◌++◌, Option, Some, None, ap, arith, inl, inr, refl, subst, sym, slice_get, IfOk, Ok}
use Rattle.turn_client_laws.proofs.Common.{◌&&◌, is_some, Err, Result, filter_map, flat_map, nat_le, AllByRecursion, list_any, cases_Bool, ltb-false, ltb-true}
use Rattle.turn_client_laws.proofs.Machine.{Transmit, due, Transaction, State, agent_of, Phase, New, Requesting, Authenticating, Allocated, Closed, Queued, Call, Recv, PollEvent, TurnEvent, Grant}
use Rattle.turn_client_laws.proofs.Machine.{Allocation, Permission, Channel, Connect, Offer, Connection, Purpose, Relay, allocations, family_of, AddressFamily, is_paused, keepalive_times}
use Rattle.turn_client_laws.proofs.Machine.{refresh_time, state_after, state_after_all, idle_step, is_due_in, is_refresh_due, keepalive_step, next_refresh, next_transmit, queue_step, refresh_purpose}
use Rattle.turn_client_laws.proofs.Machine.{is_allocated, next_queued, refresh_step, refreshes_in, refreshes_of_rank, reply_step}
use Rattle.turn_client_laws.proofs.Laws.{first_left}
use Rattle.turn_client_runs.specs.OnTime.{IsOnTime, time_of, time_of_all}
use Rattle.turn_driver.specs.Next.{IsRestful}
use Rattle.turn_driver.specs.OnTime.{AllOnTime, BeginsInTime, IsLoop, Iteration, LoopsAreOnTime, WakesOnTime, calls_in, calls_of}
use Rattle.turn_driver.specs.Run.{IsAsk, hand_in_calls}
use Rattle.turn_driver.specs.declared.task.Rest.{Rest}
use Rattle.turn_driver.specs.declared.task.Rest.TheVariants.{Until, Now, Ended}
use Rattle.turn_client_runs.proofs.LastingEffects.{filter-same}
use Rattle.turn_client_runs.proofs.LastingRowLemmas.{at-once}

-- ---- the next packet does not depend on the events

flat_map-same : {X Y : Type 0} (f g : X → List Y) (xs : List X) → ((x : X) → f x ≡ g x) → flat_map f xs ≡ flat_map g xs
flat_map-same f g [] same = refl
flat_map-same f g (x ∷ xs) same = rw (same x, flat_map-same f g xs same) refl

module _ (now : ℕ) (s : State) (events : List TurnEvent) where
  abbrev other : State
  other = record s { events = events }

  keepalive-same : (keepalive_step now other).0 ≡ (keepalive_step now s).0
  keepalive-same = elim (cases_Bool (list_any (λ time. nat_le time now) (keepalive_times s))) [ inl e ↦ rw e refl | inr e ↦ rw e refl ]

  due-one : (g : Grant) → is_refresh_due now other g ≡ is_refresh_due now s g
  unfolding refresh_time is_refresh_due
  due-one (Allocation a) = refl
  due-one (Permission ip progress) = refl
  due-one (Channel number peer progress) = refl
  due-one (Connect peer) = refl
  due-one (Offer offer) = refl
  due-one (Connection c) = refl

  rank-same : (family : AddressFamily) (rank : ℕ) → refreshes_of_rank now other family rank ≡ refreshes_of_rank now s family rank
  rank-same family rank =
      ap (filter_map (refresh_purpose now)) (filter-same (is_due_in rank family now other) (is_due_in rank family now s) s.grants (λ g. rw (due-one g) refl))

  in-same : (a : Relay) → refreshes_in now other a ≡ refreshes_in now s a
  in-same a = rw (rank-same (family_of a.relayed) 0, rank-same (family_of a.relayed) 1, rank-same (family_of a.relayed) 2) refl

  due-same : next_refresh now other ≡ next_refresh now s
  due-same = ap (λ (ps : List Purpose). slice_get ps 0) (flat_map-same (refreshes_in now other) (refreshes_in now s) (allocations s) in-same)

  refresh-same : (refresh_step now other).0 ≡ (refresh_step now s).0
  refresh-same = by (next_refresh now s) refl
    where
      by : (o : Option Purpose) → next_refresh now s ≡ o → (refresh_step now other).0 ≡ (refresh_step now s).0
      by None e = rw (due-same, e) keepalive-same
      by (Some purpose) e = rw (due-same, e) refl

  idle-same : (phase : Phase) → (idle_step phase now other).0 ≡ (idle_step phase now s).0
  idle-same New = refl
  idle-same Requesting = refl
  idle-same Authenticating = refl
  idle-same Allocated = refresh-same
  idle-same Closed = refl

  front-same : next_queued now other ≡ next_queued now s
  front-same =
      ap (λ (o : Option Purpose). cond {A = Option Queued} (s.config.timed_from_send && is_allocated s.phase && is_some o) None (first_left s s.queue)) due-same

  queue-same : (queue_step now other).0 ≡ (queue_step now s).0
  queue-same = by (next_queued now s) refl
    where
      by : (o : Option Queued) → next_queued now s ≡ o → (queue_step now other).0 ≡ (queue_step now s).0
      by None e = rw (front-same, e) (idle-same s.phase)
      by (Some q) e = rw (front-same, e) refl

  pub packet-same : next_transmit now other ≡ next_transmit now s
  packet-same = by (due (agent_of s) now) refl
    where
      paused : (b : Bool) → (cond b (reply_step other) (queue_step now other)).0 ≡ (cond b (reply_step s) (queue_step now s)).0
      paused true = refl
      paused false = queue-same

      by : (o : Option Transaction) → due (agent_of s) now ≡ o → next_transmit now other ≡ next_transmit now s
      by None e = rw (e, next_transmit) (paused (is_paused now s))
      by (Some t) e = rw (e, next_transmit) refl

-- ---- on time

joined : (before now next : ℕ) (s : State) → IsOnTime before now s → IsOnTime now next s → IsOnTime before next s
joined before now next s first second = let l = first.later in let m = second.later in record {
  later = omega (arith, l, m);
  in_range = second.in_range;
  punctual = λ t from until. elim (cases_Bool (ltb t now)) [ inl less ↦ first.punctual t from (ltb-true t now less) | inr more ↦ second.punctual t (ltb-false t now more) until ];
}

unreported : (before now : ℕ) (s : State) → IsOnTime before now s → IsOnTime before now (state_after PollEvent s)
unreported before now s is = record { later = is.later; in_range = is.in_range; punctual = λ t from until. packet-same t s _ ∙ is.punctual t from until }

-- what an iteration returns says until when its caller is on time
pub wakes : (rest : Rest) (now : ℕ) (s : State) → now ≤ 2 ^ 62 → IsRestful rest now s → WakesOnTime rest now s
wakes (Until deadline) now s range (later, idle) = λ next from until in_range. record {
  later = from;
  in_range = in_range;
  punctual = λ t after before. ap (λ (p : Option (Transmit (List ℕ)) × State). p.0) (idle.sends_nothing t after (omega (arith, before, until)));
}
wakes Now now s range is = at-once now s range
wakes Ended now s range is = tt

-- ---- the calls of an iteration

abbrev Polls : ℕ → ℕ → State → List Call → Type 0
Polls before now s calls = AllOnTime before s calls × IsOnTime (time_of_all before calls) now (state_after_all s calls)

-- one more call, and then the others
asked : (now before : ℕ) (s : State) (call : Call) (calls : List Call) → IsOnTime before now s → IsAsk now call → ((b : ℕ) (t : State) → IsOnTime b now t → Polls b now t calls)
    → Polls before now s (call ∷ calls)
asked now before s call calls is ask later = by ask
  where
    timed : (c : Call) → time_of before c ≡ now → Polls before now s (c ∷ calls)
    timed c e =
        let rest = later now (state_after c s) (at-once now (state_after c s) is.in_range) in
        subst (λ (t : ℕ). (IsOnTime before t s × AllOnTime t (state_after c s) calls) × IsOnTime (time_of_all t calls) now (state_after_all (state_after c s) calls)) (sym e)
        ((is, rest.0), rest.1)

    event : Polls before now s (PollEvent ∷ calls)
    event =
        let l = is.later in let r = is.in_range in
        let rest = later before (state_after PollEvent s) (unreported before now s is) in
        ((at-once before s (omega (arith, l, r)), rest.0), rest.1)

    by : IsAsk now call → Polls before now s (call ∷ calls)
    by (inl e) = timed call (rw e refl)
    by (inr (inl e)) = timed call (rw e refl)
    by (inr (inr (inl e))) = subst (λ (c : Call). Polls before now s (c ∷ calls)) (sym e) event
    by (inr (inr (inr e))) = timed call (rw e refl)

asks : (now before : ℕ) (s : State) (calls : List Call) → IsOnTime before now s → AllByRecursion (IsAsk now) calls → Polls before now s calls
asks now before s [] is all = (tt, is)
asks now before s (call ∷ calls) is (ask, all) = asked now before s call calls is ask (λ b t on. asks now b t calls on all)

iterates : (came : Option (Transmit (List ℕ))) (now before : ℕ) (s : State) (calls : List Call) → IsOnTime before now s → AllByRecursion (IsAsk now) calls
    → Polls before now s (hand_in_calls came now ++ calls)
iterates None now before s calls is all = asks now before s calls is all
iterates (Some packet) now before s calls is all =
    let rest = asks now now (state_after (Recv packet now) s) calls (at-once now (state_after (Recv packet now) s) is.in_range) all in
    ((is, rest.0), rest.1)

-- ---- all iterations

followed : (before : ℕ) (s : State) (calls more : List Call) → AllOnTime before s calls → AllOnTime (time_of_all before calls) (state_after_all s calls) more → AllOnTime before s (calls ++ more)
followed before s [] more all others = others
followed before s (call ∷ calls) more (one, all) others = (one, followed (time_of before call) (state_after call s) calls more all others)

goes-on : (rest : Rest) (before now next : ℕ) (s : State) → IsOnTime before now s → WakesOnTime rest now s → BeginsInTime rest now next → IsOnTime before next s
goes-on (Until deadline) before now next s is wakes (from, until, range) = joined before now next s is (wakes next from until range)
goes-on Now before now next s is wakes same = subst (λ (t : ℕ). IsOnTime before t s) (sym same) is
goes-on Ended before now next s is wakes none = absurd none

loops : (rest : Rest) (before now : ℕ) (s : State) (loop : List Iteration) → IsOnTime before now s → IsRestful rest now s → IsLoop rest now s loop → AllOnTime before s (calls_of loop)
loops rest before now s [] is restful loop = tt
loops rest before now s (one ∷ later) is restful (on, all, ends, others) =
    let begins = goes-on rest before now one.now s is (wakes rest now s is.in_range restful) on in
    let (polls, last) = iterates one.came one.now before s one.asks begins all in
    followed before s (calls_in one) (calls_of later) polls
    (loops one.rest (time_of_all before (calls_in one)) one.now (state_after_all s (calls_in one)) later last ends others)

pub loops-on-time : LoopsAreOnTime
loops-on-time rest before s loop range restful is = loops rest before before s loop (at-once before s range) restful is

-- ---- the answer of the code

pub wakes-ok : {E : Type 0} (r : Result Rest E) (now : ℕ) (s : State) → now ≤ 2 ^ 62 → IfOk r (λ rest. IsRestful rest now s) → IfOk r (λ rest. WakesOnTime rest now s)
wakes-ok (Ok rest) now s range is = wakes rest now s range is
wakes-ok (Err e) now s range is = tt
