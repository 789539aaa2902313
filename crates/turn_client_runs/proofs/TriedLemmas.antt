-- A request is tried as often as configured before it is given up.
use Rattle.turn_client_laws.proofs.Common.{◌≡◌, ◌⊎◌, ◌∙◌, ◌++◌, ◌+◌, ◌&&◌, ℕ, suc, zero, Bool, true, false, cond, eqb, leb, ltb, List, [], ◌∷◌, Option, Some, None, refl, subst, sym, ap}
use Rattle.turn_client_laws.proofs.Common.{add-one, inl, inr, find, slice_get, flat_map, list_any, nat_le, Contains, append_assoc, append-nil, and_parts, option_map_or, eqb-true, leb-true}
use Rattle.turn_client_laws.proofs.Common.{ltb-true, lt-ltb, le-leb}
use Rattle.turn_client_laws.proofs.Machine.{resends_of, due, is_due, is_timed_out, timed_out_transaction, transaction_timeout, resent, sent_again, waiting_from, waits_begun, first_sent}
use Rattle.turn_client_laws.proofs.Machine.{Transaction, Transmit, timers_of, State, agent_of, initial, Call, PollRecv, PollTransmit, Recv, Phase, New, Requesting, Authenticating, Allocated}
use Rattle.turn_client_laws.proofs.Machine.{Closed, Purpose, ForAllocation, Queued, is_paused, keepalive_times, allocations, fresh_id, first_allocate, request_for, state_after}
use Rattle.turn_client_laws.proofs.Machine.{state_after_all, idle_step, keepalive_step, next_queued, queue_step, front_sent, settled, id_in_header, refreshes_in, reply_step, sent_at_once}
use Rattle.turn_client_laws.proofs.Machine.{transmit_step, next_transmit, Has, has-append, has-found, answer_step, closed, expired_at, has_reply, is_listed_for_allocation, next_offer}
use Rattle.turn_client_laws.proofs.Machine.{poll_step, timed_out_step, timed_step, transaction_ended, TurnPollRet}
use Rattle.turn_agent.specs.Agent.{without_transaction}
use Rattle.turn_client_laws.proofs.AfterExpiryLemmas.{expired_at-shrinks}
use Rattle.turn_client_laws.proofs.Laws.{AsksFor, IsMadeAs, IsRequestOf, IsDoneBy, answer-by, by_found, by_test, has-mapped, has-contains, contains-has, requests-made, settled-has}
use Rattle.turn_client_laws.proofs.MoveLemmas.{none-found}
use Rattle.turn_client_laws.specs.LawsRequests as L
use Rattle.turn_client_runs.specs.Holds.{HoldsOfRuns}
use Rattle.turn_client_runs.specs.Tried.{GivesUpInTime, GivesUpOnceTried, HasWaited, IsLast, IsToRepeat, IsTried, IsTriedAgain, RepeatsInTime, RequestsAreTried, copy_of}
use Rattle.turn_client_runs.proofs.LastingRuns.{joined}
use Rattle.turn_client_runs.proofs.SendTimeLemmas.{SendsNone}

-- ---- what the tests say

due-says : (now : ℕ) (s : State) (x : Transaction) → is_due (timers_of s.config) s.transport now x ≡ true → IsToRepeat s x × HasWaited now s x
due-says now s x is =
    let timers = timers_of s.config in
    let both = and_parts (ltb x.resends (resends_of timers s.transport)) (leb (transaction_timeout timers s.transport x) now) is in
    (ltb-true x.resends (resends_of timers s.transport) both.0, leb-true (transaction_timeout timers s.transport x) now both.1)

says-due : (now : ℕ) (s : State) (x : Transaction) → IsToRepeat s x → HasWaited now s x → is_due (timers_of s.config) s.transport now x ≡ true
says-due now s x repeats waited =
    let timers = timers_of s.config in
    rw (lt-ltb x.resends (resends_of timers s.transport) repeats) (le-leb (transaction_timeout timers s.transport x) now waited)

over-says : (now : ℕ) (s : State) (x : Transaction) → is_timed_out (timers_of s.config) s.transport now x ≡ true → IsLast s x × HasWaited now s x
over-says now s x is =
    let timers = timers_of s.config in
    let both = and_parts (leb (resends_of timers s.transport) x.resends) (leb (transaction_timeout timers s.transport x) now) is in
    (leb-true (resends_of timers s.transport) x.resends both.0, leb-true (transaction_timeout timers s.transport x) now both.1)

says-over : (now : ℕ) (s : State) (x : Transaction) → IsLast s x → HasWaited now s x → is_timed_out (timers_of s.config) s.transport now x ≡ true
says-over now s x last waited =
    let timers = timers_of s.config in
    rw (le-leb (resends_of timers s.transport) x.resends last) (le-leb (transaction_timeout timers s.transport x) now waited)

-- what passes a test is found, or something before it
some-found : {X : Type 0} (p : X → Bool) (x : X) (xs : List X) → Has x xs → p x ≡ true → (y : X) × (find p xs ≡ Some y)
some-found {X} p x xs there is = by (find p xs) refl
  where
    by : (o : Option X) → find p xs ≡ o → (y : X) × (find p xs ≡ Some y)
    by (Some y) e = (y, e)
    by None e = let clash : true ≡ false = sym is ∙ none-found p x xs e there in cc

-- ---- a retransmission

given-again : (now : ℕ) (s : State) (x : Transaction) → due (agent_of s) now ≡ Some x → next_transmit now s ≡ Some (copy_of s x)
given-again now s x e = rw (e, next_transmit) refl

again : (now : ℕ) (s : State) (x : Transaction) → due (agent_of s) now ≡ Some x → IsTriedAgain x.id now s
again now s x e =
    let (there, is) = has-found (is_due (timers_of s.config) s.transport now) x s.transactions e in
    let says = due-says now s x is in
    record { request = x; outstanding = has-contains x s.transactions there; same = refl; repeats = says.0; waited = says.1; given = given-again now s x e }

module _ (first : State) where
  abbrev at : List Call → State
  at calls = state_after_all first calls

  abbrev pub AllTried : List Call → Type 0
  AllTried calls = (x : Transaction) → Has x (at calls).transactions → IsTried x.resends x.id first calls

  -- a call more
  still : (n id : ℕ) (calls : List Call) (call : Call) → IsTried n id first calls → IsTried n id first (calls ++ call ∷ [])
  still zero id calls call tried = tt
  still (suc n) id calls call (earlier, now, later, split, more, rest) = (
    earlier,
    now,
    later ++ call ∷ [],
    ap (λ (l : List Call). l ++ call ∷ []) split ∙ append_assoc earlier (PollTransmit now ∷ later) (call ∷ []),
    more,
    rest,
  )

  module _ (calls : List Call) (all : AllTried calls) where
    abbrev was : State
    was = at calls

    module _ (now : ℕ) where
      abbrev then : List Call
      then = calls ++ PollTransmit now ∷ []

      abbrev Tries : Option (Transmit (List ℕ)) × State → Type 0
      Tries p = (x : Transaction) → Has x p.1.transactions → IsTried x.resends x.id first then

      old-tries : (x : Transaction) → Has x was.transactions → IsTried x.resends x.id first then
      old-tries x there = still x.resends x.id calls (PollTransmit now) (all x there)

      again-tries : (x : Transaction) → due (agent_of was) now ≡ Some x → (y : Transaction) → Has y (resent x.id now was.transactions) → IsTried y.resends y.id first then
      again-tries x e y there = by (has-mapped (λ (z : Transaction). cond (eqb z.id x.id) (sent_again now z) z) y was.transactions there)
        where
          once_more : (z : Transaction) → Has z was.transactions → z.id ≡ x.id → IsTried (suc z.resends) z.id first then
          once_more z is same = (calls, now, [], refl, subst (λ (id : ℕ). IsTriedAgain id now was) (sym same) (again now was x e), all z is)

          by : (z : Transaction) × Has z was.transactions × (y ≡ cond (eqb z.id x.id) (sent_again now z) z) → IsTried y.resends y.id first then
          by (z, is, f) = for (eqb z.id x.id) refl
            where
              for : (b : Bool) → eqb z.id x.id ≡ b → IsTried y.resends y.id first then
              for true g =
                  let same : y ≡ sent_again now z = rw g at f in
                  subst (λ (w : Transaction). IsTried w.resends w.id first then) (sym same)
                  (subst (λ (n : ℕ). IsTried n z.id first then) (sym (add-one z.resends)) (once_more z is (eqb-true z.id x.id g)))
              for false g =
                  let same : y ≡ z = rw g at f in
                  subst (λ (w : Transaction). IsTried w.resends w.id first then) (sym same) (still z.resends z.id calls (PollTransmit now) (all z is))

      -- the waits of a queued request begin
      begun-tries : (id : ℕ) (y : Transaction) → Has y (waits_begun id now (settled was).transactions) → IsTried y.resends y.id first then
      begun-tries id y there = by (has-mapped (λ (z : Transaction). cond (eqb z.id id) (waiting_from now z) z) y (settled was).transactions there)
        where
          by : (z : Transaction) × Has z (settled was).transactions × (y ≡ cond (eqb z.id id) (waiting_from now z) z) → IsTried y.resends y.id first then
          by (z, is, f) = for (eqb z.id id) refl
            where
              before : IsTried z.resends z.id first then
              before = still z.resends z.id calls (PollTransmit now) (all z (settled-has was z is))

              for : (b : Bool) → eqb z.id id ≡ b → IsTried y.resends y.id first then
              for true g = let same : y ≡ waiting_from now z = rw g at f in subst (λ (w : Transaction). IsTried w.resends w.id first then) (sym same) before
              for false g = let same : y ≡ z = rw g at f in subst (λ (w : Transaction). IsTried w.resends w.id first then) (sym same) before

      front-tries : (q : Queued) → Tries (Some q.packet, front_sent now q (settled was))
      front-tries q = by (was.config.timed_from_send && q.is_request) (id_in_header q.packet.payload)
        where
          left : List Transaction
          left = (settled was).transactions

          by : (b : Bool) (o : Option ℕ) (y : Transaction) → Has y (cond b (option_map_or (λ id. waits_begun id now left) o left) left) → IsTried y.resends y.id first then
          by true (Some id) y there = begun-tries id y there
          by true None y there = old-tries y (settled-has was y there)
          by false o y there = old-tries y (settled-has was y there)

      made-tries : (text : List ℕ) (purpose : Purpose) (u : State) → u.transactions ≡ was.transactions → Tries (sent_at_once text purpose now u)
      made-tries text purpose u same y there = by (has-append y u.transactions (first_sent (fresh_id u) u.remote now text ∷ []) there)
        where
          by : Has y u.transactions ⊎ Has y (first_sent (fresh_id u) u.remote now text ∷ []) → IsTried y.resends y.id first then
          by (inl old) = still y.resends y.id calls (PollTransmit now) (all y (subst (Has y) same old))
          by (inr (inl is)) = subst (λ (w : Transaction). IsTried w.resends w.id first then) (sym is) tt
          by (inr (inr none)) = absurd none

      idle-tries : (p : Phase) → Tries (idle_step p now was)
      idle-tries New = let u = record was { phase = Requesting } in made-tries (first_allocate u (fresh_id u)) ForAllocation u refl
      idle-tries Allocated =
          by_found Tries _ (slice_get (flat_map (refreshes_in now was) (allocations was)) 0) (keepalive_step now was) (λ p e. made-tries (request_for was p (fresh_id was)) p was refl)
          (by_test Tries (list_any (λ time. nat_le time now) (keepalive_times was)) _ (None, was) (λ e. old-tries) (λ e. old-tries))
      idle-tries p = old-tries

      transmit-tries : Tries (transmit_step now was)
      transmit-tries =
          by_found Tries _ (due (agent_of was) now) _ (λ x e. again-tries x e)
          (by_test Tries (is_paused now was) (reply_step was) (queue_step now was) (λ e. old-tries)
          (λ e. by_found Tries _ (next_queued now was) (idle_step was.phase now was) (λ q f. front-tries q) (idle-tries was.phase)))

    -- any other call makes requests anew
    input-fresh : (call : Call) (x : Transaction) → IsDoneBy (L.IsMadeByInput x) call was → x.resends ≡ 0
    input-fresh call x (one, among, (purpose, answers, (made, is))) = ap (λ (y : Transaction). y.resends) is

    asked-fresh : (call : Call) (x : Transaction) → (L.IsSentAgain call was x → ⊥)
        → L.IsSentAgain call was x ⊎ ((purpose : Purpose) × (time : ℕ) × AsksFor call was purpose time × IsMadeAs purpose time was (state_after call was) x) → x.resends ≡ 0
    asked-fresh call x not (inl repeated) = absurd (not repeated)
    asked-fresh call x not (inr (purpose, time, asks, (made, is))) = ap (λ (y : Transaction). y.resends) is

    fresh : (call : Call) (x : Transaction) → SendsNone call → IsRequestOf call was x → x.resends ≡ 0
    fresh (PollTransmit now) x none made = absurd none
    fresh (Recv packet now) x none made = input-fresh (Recv packet now) x made
    fresh (PollRecv now) x none made = input-fresh (PollRecv now) x made
    fresh call x none made = asked-fresh call x (λ repeated. repeated) made

    other-tries : (call : Call) → SendsNone call → AllTried (calls ++ call ∷ [])
    other-tries call none x there = by (requests-made call was (state_after call was) x (inl refl)
        (has-contains x (state_after call was).transactions (subst (λ (t : State). Has x t.transactions) (joined first calls (call ∷ [])) there)))
      where
        by : Contains was.transactions x ⊎ IsRequestOf call was x → IsTried x.resends x.id first (calls ++ call ∷ [])
        by (inl old) = still x.resends x.id calls call (all x (contains-has x was.transactions old))
        by (inr made) = subst (λ (n : ℕ). IsTried n x.id first (calls ++ call ∷ [])) (sym (fresh call x none made)) tt

    call-tries : (call : Call) → AllTried (calls ++ call ∷ [])
    call-tries (PollTransmit now) x there = transmit-tries now x (subst (λ (t : State). Has x t.transactions) (joined first calls (PollTransmit now ∷ [])) there)
    call-tries call x there = other-tries call tt x there

  run-tries : (before after : List Call) → AllTried before → AllTried (before ++ after)
  run-tries before [] all = subst AllTried (sym (append-nil before)) all
  run-tries before (call ∷ after) all =
      subst AllTried (append_assoc before (call ∷ []) after) (run-tries (before ++ call ∷ []) after (call-tries before all call))

  pub all-tried : first.transactions ≡ [] → (calls : List Call) → AllTried calls
  all-tried none calls = run-tries [] calls (λ x there. absurd (subst (Has x) none there))

-- ---- a time-out

module _ (now id : ℕ) where
  abbrev Ends : State → State → Type 0
  Ends s t = t.transactions ≡ without_transaction id s.transactions

  timed-ends : (s : State) (p : Phase) → Ends s (timed_step p (Some id) now (transaction_ended id s)).1
  timed-ends s New = refl
  timed-ends s Requesting = refl
  timed-ends s Authenticating =
      let u = transaction_ended id s in
      by_test (λ (t : State). Ends s (answer_step (Some id) now t).1) (is_listed_for_allocation id u) (closed u) u
      (λ e. answer-by (Ends s) (Some id) now (closed u) (λ closes. refl)) (λ e. answer-by (Ends s) (Some id) now u (λ closes. refl))
  timed-ends s Allocated =
      let u = transaction_ended id s in
      answer-by (Ends s) (Some id) now (expired_at (Some id) now u) (λ closes. (expired_at-shrinks (Some id) now u).transactions)
  timed-ends s Closed = refl

times-out : (now : ℕ) (s : State) (x : Transaction) → timed_out_transaction (agent_of s) now ≡ Some x
    → (timed_out_step now s).1.transactions ≡ without_transaction x.id s.transactions
times-out now s x e = rw e (timed-ends now x.id s s.phase)

polls : (now : ℕ) (s : State) → s.events ≡ [] → has_reply s ≡ false → next_offer s ≡ None → poll_step now s ≡ timed_out_step now s
polls now s e r o = rw (e, r, o, poll_step) refl

-- ---- the clause

once-tried : (first : State) → first.transactions ≡ [] → (calls : List Call) → GivesUpOnceTried first calls
once-tried first none calls earlier now later x split e =
    let s = state_after_all first earlier in
    let (there, is) = has-found (is_timed_out (timers_of s.config) s.transport now) x s.transactions e in
    let says = over-says now s x is in
    (says.0, says.1, all-tried first none earlier x there)

repeats-in-time : (first : State) (calls : List Call) → RepeatsInTime first calls
repeats-in-time first calls earlier now later x split there repeats waited =
    let s = state_after_all first earlier in
    let (y, e) = some-found (is_due (timers_of s.config) s.transport now) x s.transactions (contains-has x s.transactions there) (says-due now s x repeats waited) in
    let (here, is) = has-found (is_due (timers_of s.config) s.transport now) y s.transactions e in
    let says = due-says now s y is in
    (y, has-contains y s.transactions here, says.0, says.1, given-again now s y e)

gives-up-in-time : (first : State) (calls : List Call) → GivesUpInTime first calls
gives-up-in-time first calls earlier now later x split events replies offers there last waited =
    let s = state_after_all first earlier in
    let (y, e) = some-found (is_timed_out (timers_of s.config) s.transport now) x s.transactions (contains-has x s.transactions there) (says-over now s x last waited) in
    let (here, is) = has-found (is_timed_out (timers_of s.config) s.transport now) y s.transactions e in
    let says = over-says now s y is in
    let ends = subst (λ (p : TurnPollRet × State). p.1.transactions ≡ without_transaction y.id s.transactions) (sym (polls now s events replies offers)) (times-out now s y e) in
    (y, has-contains y s.transactions here, says.0, says.1, ends)

pub run-tried : HoldsOfRuns RequestsAreTried
run-tried transport local remote config seed calls =
    let first = initial transport local remote config seed in
    (once-tried first refl calls, repeats-in-time first calls, gives-up-in-time first calls)
