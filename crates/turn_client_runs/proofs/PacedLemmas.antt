-- Requests that are timed from their first copies leave in their turn.
use Rattle.turn_client_laws.proofs.Common.{◌≡◌, ◌⊎◌, ◌∙◌, ◌++◌, ◌+◌, ◌-◌, ◌^◌, ◌≤◌, ◌&&◌, ℕ, Bool, true, false, cond, eqb, leb, List, [], ◌∷◌, Option, Some, None, refl, subst, sym, ap, inl, inr}
use Rattle.turn_client_laws.proofs.Common.{arith, min, is_none, slice_get, filter_map, flat_map, list_any, drop, nat_le, All, All-head, All-tail, Contains, append_assoc, append-nil, and_parts}
use Rattle.turn_client_laws.proofs.Common.{option_map_or, eqb-true, leb-true, cond_some, ltb, ltb-false, same_Some}
use Rattle.turn_client_laws.proofs.Machine.{id_of, header_fault_of, Transmit, TransportType, Timers, resends_of, due, is_due, is_timed_out, transaction_timeout, resent, sent_again, waiting_from, waits_begun}
use Rattle.turn_client_laws.proofs.Machine.{first_sent, Transaction, Config, timers_of, State, agent_of, later_by, initial, Call, Delete, CreatePermission, BindChannel, TcpConnect, AllocatedTcpSocket}
use Rattle.turn_client_laws.proofs.Machine.{TcpClosed, SendTo, Recv, PollRecv, Poll, PollTransmit, PollEvent, RelayedAddresses, Permissions, HavePermission, ProtocolError, SetPermissionKept, SetChannelKept}
use Rattle.turn_client_laws.proofs.Machine.{Phase, New, Requesting, Allocated, Purpose, Queued, is_paused, pause_end, keepalive_times, allocations, waits_from, fresh_id, first_allocate}
use Rattle.turn_client_laws.proofs.Machine.{request_for, to_server, state_after, state_after_all, idle_step, keepalive_step, next_queued, queue_step, front_sent, settled, id_in_header, refreshes_in, reply_in, reply_step}
use Rattle.turn_client_laws.proofs.Machine.{sent, sent_at_once, transmit_step, Has, has-append, has-found, filter_map-has, first-has, has_ended, map-has}
use Rattle.turn_client_laws.specs.LawsRequests as L
use Rattle.turn_client_laws.proofs.Laws.{AsksFor, IsRequestOf, IsMadeAs, Input, IsDoneBy, by_found, by_test, has-mapped, has-contains, contains-has, queued-there, requests-made, settled-has}
use Rattle.turn_client_laws.proofs.Laws.{before-kept, edits-IsKept, fixed-all-edits}
use Rattle.turn_client_runs.specs.Holds.{HoldsOfRuns}
use Rattle.turn_client_runs.specs.OnTime.{time_of}
use Rattle.turn_client_runs.specs.Paced.{HasLeft, IsApart, IsReply, IsRequestUnder, IsToLeave, IsSentAgain, RequestsArePaced, RequestsLeaveInTurn, TimesOutOnceSent}
use Rattle.turn_client_runs.proofs.ChallengeLemmas.{run-configured}
use Rattle.turn_client_runs.proofs.SendTimeLemmas.{SendsNone, others-same}

-- ---- lists of calls

behind : (s : State) (earlier later : List Call) → state_after_all s (earlier ++ later) ≡ state_after_all (state_after_all s earlier) later
behind s [] later = refl
behind s (call ∷ earlier) later = behind (state_after call s) earlier later

-- ---- when the last packet was sent

abbrev pub AtLeast : ℕ → Option ℕ → Type 0
AtLeast time None = ⊥
AtLeast time (Some last) = time ≤ last

-- what is sent later
module _ (time now : ℕ) (s : State) (later : time ≤ now) (old : AtLeast time s.last_send) where
  abbrev Later : {A : Type 0} → A × State → Type 0
  Later x = AtLeast time x.1.last_send

  idle-later : (p : Phase) → Later (idle_step p now s)
  idle-later New = later
  idle-later Allocated =
      by_found Later _ (slice_get (flat_map (refreshes_in now s) (allocations s)) 0) (keepalive_step now s) (λ p e. later)
      (by_test Later (list_any (λ time. nat_le time now) (keepalive_times s)) _ (None, s) (λ e. later) (λ e. old))
  idle-later p = old

  transmit-later : Later (transmit_step now s)
  transmit-later =
      by_found Later _ (due (agent_of s) now) _ (λ x e. later)
      (by_test Later (is_paused now s) (reply_step s) (queue_step now s) (λ e. old)
      (λ e. by_found Later _ (next_queued now s) (idle_step s.phase now s) (λ q f. later) (idle-later s.phase)))

call-later : (time : ℕ) (call : Call) (s : State) → time ≤ time_of time call → AtLeast time s.last_send → AtLeast time (state_after call s).last_send
call-later time (PollTransmit now) s later old = transmit-later time now s later old
call-later time (Delete now) s later old = subst (AtLeast time) (sym (others-same (Delete now) s tt)) old
call-later time (CreatePermission transport ip now) s later old = subst (AtLeast time) (sym (others-same (CreatePermission transport ip now) s tt)) old
call-later time (BindChannel transport peer now) s later old = subst (AtLeast time) (sym (others-same (BindChannel transport peer now) s tt)) old
call-later time (TcpConnect peer now) s later old = subst (AtLeast time) (sym (others-same (TcpConnect peer now) s tt)) old
call-later time (AllocatedTcpSocket id tuple peer local now) s later old = subst (AtLeast time) (sym (others-same (AllocatedTcpSocket id tuple peer local now) s tt)) old
call-later time (TcpClosed local remote now) s later old = subst (AtLeast time) (sym (others-same (TcpClosed local remote now) s tt)) old
call-later time (SendTo transport peer bytes now) s later old = subst (AtLeast time) (sym (others-same (SendTo transport peer bytes now) s tt)) old
call-later time (Recv packet now) s later old = subst (AtLeast time) (sym (others-same (Recv packet now) s tt)) old
call-later time (PollRecv now) s later old = subst (AtLeast time) (sym (others-same (PollRecv now) s tt)) old
call-later time (Poll now) s later old = subst (AtLeast time) (sym (others-same (Poll now) s tt)) old
call-later time call s later old = subst (AtLeast time) (sym (others-same call s tt)) old

calls-later : (time : ℕ) (calls : List Call) (s : State) → All (λ call. time ≤ time_of time call) calls → AtLeast time s.last_send → AtLeast time (state_after_all s calls).last_send
calls-later time [] s all old = old
calls-later time (call ∷ calls) s all old =
    calls-later time calls (state_after call s) (All-tail (λ call. time ≤ time_of time call) call calls all)
    (call-later time call s (All-head (λ call. time ≤ time_of time call) call calls all) old)

-- a packet that is no reply begins a pause
module _ (now : ℕ) (s : State) where
  abbrev Begins : Option (Transmit (List ℕ)) × State → Type 0
  Begins x = (packet : Transmit (List ℕ)) → x.0 ≡ Some packet → IsReply packet s ⊎ AtLeast now x.1.last_send

  idle-begins : (p : Phase) → Begins (idle_step p now s)
  idle-begins New = λ packet e. inr (omega arith)
  idle-begins Allocated =
      by_found Begins _ (slice_get (flat_map (refreshes_in now s) (allocations s)) 0) (keepalive_step now s) (λ p e packet f. inr (omega arith))
      (by_test Begins (list_any (λ time. nat_le time now) (keepalive_times s)) _ (None, s) (λ e packet f. inr (omega arith)) (λ e packet f. cc))
  idle-begins p = λ packet e. cc

  pub replies : (packet : Transmit (List ℕ)) → (reply_step s).0 ≡ Some packet → IsReply packet s
  replies packet e = has-contains packet (filter_map reply_in s.queue) (first-has packet (filter_map reply_in s.queue) e)

  transmit-begins : Begins (transmit_step now s)
  transmit-begins =
      by_found Begins _ (due (agent_of s) now) _ (λ x e packet f. inr (omega arith))
      (by_test Begins (is_paused now s) (reply_step s) (queue_step now s) (λ e packet f. inl (replies packet f))
      (λ e. by_found Begins _ (next_queued now s) (idle_step s.phase now s) (λ q f packet g. inr (omega arith)) (idle-begins s.phase)))

  -- ---- what kind of packet is sent

  abbrev IsDueFor : Transmit (List ℕ) → Type 0
  IsDueFor packet = (x : Transaction) × (due (agent_of s) now ≡ Some x) × (packet.payload ≡ x.request)

  abbrev Kinds : Option (Transmit (List ℕ)) × State → Type 0
  Kinds x = (packet : Transmit (List ℕ)) → x.0 ≡ Some packet → IsReply packet s ⊎ (IsDueFor packet ⊎ ((is_paused now s ≡ false) × IsToLeave now packet s))

  front-kinds : is_paused now s ≡ false → (q : Queued) → next_queued now s ≡ Some q → Kinds (Some q.packet, front_sent now q (settled s))
  front-kinds over q f packet g = by q.is_request refl
    where
      same : q.packet ≡ packet
      same = same_Some q.packet packet g

      found : Has q s.queue × (has_ended s q ≡ false)
      found = queued-there now s q f

      by : (b : Bool) → q.is_request ≡ b → IsReply packet s ⊎ (IsDueFor packet ⊎ ((is_paused now s ≡ false) × IsToLeave now packet s))
      by true e = inr (inr (over, inl (q, has-contains q s.queue found.0, same, rw (found.1, e) refl)))
      by false e = inl (has-contains packet (filter_map reply_in s.queue) (filter_map-has reply_in q packet s.queue found.0 (rw e g)))

  transmit-kinds : Kinds (transmit_step now s)
  transmit-kinds =
      by_found Kinds _ (due (agent_of s) now) _
      (λ x e packet f.
      let same : record (to_server s s.local x.request) { to = x.to } ≡ packet = cc in
      inr (inl (x, e, ap (λ (p : Transmit (List ℕ)). p.payload) (sym same))))
      (by_test Kinds (is_paused now s) (reply_step s) (queue_step now s) (λ e packet f. inl (replies packet f))
      (λ e. by_found Kinds _ (next_queued now s) (idle_step s.phase now s) (front-kinds e) (λ packet f. inr (inr (e, inr f)))))

-- ---- a request that has not left waits for no time

abbrev never : ℕ
never = 2 ^ 63 - 1

never-due : (timers : Timers) (transport : TransportType) (now : ℕ) (x : Transaction) → now ≤ 2 ^ 62 → x.last_send ≡ never → is_due timers transport now x ≡ true → ⊥
never-due timers transport now x range unsent is =
    let late : transaction_timeout timers transport x ≤ now = leb-true (transaction_timeout timers transport x) now (and_parts (ltb x.resends (resends_of timers transport)) (leb (transaction_timeout timers transport x) now) is).1 in
    omega (arith, range, unsent, late)

never-over : (timers : Timers) (transport : TransportType) (now : ℕ) (x : Transaction) → now ≤ 2 ^ 62 → x.last_send ≡ never → is_timed_out timers transport now x ≡ true → ⊥
never-over timers transport now x range unsent is =
    let late : transaction_timeout timers transport x ≤ now = leb-true (transaction_timeout timers transport x) now (and_parts (leb (resends_of timers transport) x.resends) (leb (transaction_timeout timers transport x) now) is).1 in
    omega (arith, range, unsent, late)

-- ---- the state after some calls

module _ (first : State) (timed : first.config.timed_from_send ≡ true) where
  abbrev at : List Call → State
  at calls = state_after_all first calls

  -- each outstanding request waits for its first copy, or that was given
  abbrev Waits : List Call → Transaction → Type 0
  Waits calls x = (x.last_send ≡ never) ⊎ HasLeft x.id first calls

  abbrev AllWait : List Call → Type 0
  AllWait calls = (x : Transaction) → Has x (at calls).transactions → Waits calls x

  still : (calls : List Call) (call : Call) (id : ℕ) → HasLeft id first calls → HasLeft id first (calls ++ call ∷ [])
  still calls call id left = record {
    earlier = left.earlier;
    now = left.now;
    later = left.later ++ call ∷ [];
    split = ap (λ (l : List Call). l ++ call ∷ []) left.split ∙ append_assoc left.earlier (PollTransmit left.now ∷ left.later) (call ∷ []);
    copy = left.copy;
    given = left.given;
    carries = left.carries;
  }

  waits-still : (calls : List Call) (call : Call) (x : Transaction) → Waits calls x → Waits (calls ++ call ∷ []) x
  waits-still calls call x (inl unsent) = inl unsent
  waits-still calls call x (inr left) = inr (still calls call x.id left)

  -- ---- a packet is sent

  module _ (calls : List Call) (now : ℕ) (all : AllWait calls) where
    abbrev s : State
    s = at calls

    abbrev more : List Call
    more = calls ++ PollTransmit now ∷ []

    -- these requests are outstanding after the call that gives this packet
    abbrev Sends : Option (Transmit (List ℕ)) × State → Type 0
    Sends x = transmit_step now s ≡ x → (y : Transaction) → Has y x.1.transactions → Waits more y

    left-now : (x : Option (Transmit (List ℕ)) × State) (copy : Transmit (List ℕ)) (id : ℕ) → transmit_step now s ≡ x → x.0 ≡ Some copy
        → (id_of copy.payload ≡ id) ⊎ IsRequestUnder id copy.payload x.1 → HasLeft id first more
    left-now x copy id e gives carries = record {
      earlier = calls;
      now = now;
      later = [];
      split = refl;
      copy = copy;
      given = ap (λ (p : Option (Transmit (List ℕ)) × State). p.0) e ∙ gives;
      carries = subst (λ (t : State). (id_of copy.payload ≡ id) ⊎ IsRequestUnder id copy.payload t) (sym (ap (λ (p : Option (Transmit (List ℕ)) × State). p.1) e)) carries;
    }

    old-waits : (x : Option (Transmit (List ℕ)) × State) → x.1.transactions ≡ s.transactions → Sends x
    old-waits x same e y there = waits-still calls (PollTransmit now) y (all y (subst (Has y) same there))

    -- a retransmission
    again-waits : (x : Transaction) → Has x s.transactions
        → Sends (Some (record (to_server s s.local x.request) { to = x.to }), sent now (record s { transactions = resent x.id now s.transactions }))
    again-waits x here e y there = by (has-mapped again y s.transactions there)
      where
        again : Transaction → Transaction
        again z = cond (eqb z.id x.id) (sent_again now z) z

        packet : Transmit (List ℕ)
        packet = record (to_server s s.local x.request) { to = x.to }

        t : State
        t = sent now (record s { transactions = resent x.id now s.transactions })

        same-id : (z : Transaction) → (again z).id ≡ z.id
        same-id z = for (eqb z.id x.id)
          where
            for : (b : Bool) → (cond b (sent_again now z) z).id ≡ z.id
            for true = refl
            for false = refl

        same-request : (z : Transaction) → (again z).request ≡ z.request
        same-request z = for (eqb z.id x.id)
          where
            for : (b : Bool) → (cond b (sent_again now z) z).request ≡ z.request
            for true = refl
            for false = refl

        left : HasLeft x.id first more
        left = left-now (Some packet, t) packet x.id e refl
            (inr (again x, has-contains (again x) t.transactions (map-has again x s.transactions here), same-id x, same-request x))

        by : (z : Transaction) × Has z s.transactions × (y ≡ again z) → Waits more y
        by (z, is, f) = for (eqb z.id x.id) refl
          where
            for : (b : Bool) → eqb z.id x.id ≡ b → Waits more y
            for true g =
                let is-it : y.id ≡ x.id = ap (λ (w : Transaction). w.id) f ∙ (same-id z ∙ eqb-true z.id x.id g) in
                inr (rw is-it left)
            for false g = let other : again z ≡ z = rw g refl in subst (Waits more) (sym (f ∙ other)) (waits-still calls (PollTransmit now) z (all z is))

    -- what is left of the requests
    abbrev kept : List Transaction
    kept = (settled s).transactions

    -- the first copy of a queued request
    begun-waits : (q : Queued) (queue : List Queued) (id : ℕ) → id_in_header q.packet.payload ≡ Some id
        → Sends (Some q.packet, sent now (record s { queue = queue; transactions = waits_begun id now kept }))
    begun-waits q queue id header e y there = by (has-mapped begun y kept there)
      where
        begun : Transaction → Transaction
        begun z = cond (eqb z.id id) (waiting_from now z) z

        t : State
        t = sent now (record s { queue = queue; transactions = waits_begun id now kept })

        same-id : (z : Transaction) → (begun z).id ≡ z.id
        same-id z = for (eqb z.id id)
          where
            for : (b : Bool) → (cond b (waiting_from now z) z).id ≡ z.id
            for true = refl
            for false = refl

        left : HasLeft id first more
        left = left-now (Some q.packet, t) q.packet id e refl (inl (cond_some (is_none (header_fault_of q.packet.payload)) (id_of q.packet.payload) id header).1)

        by : (z : Transaction) × Has z kept × (y ≡ begun z) → Waits more y
        by (z, is, f) = for (eqb z.id id) refl
          where
            for : (b : Bool) → eqb z.id id ≡ b → Waits more y
            for true g =
                let is-it : y.id ≡ id = ap (λ (w : Transaction). w.id) f ∙ (same-id z ∙ eqb-true z.id id g) in
                inr (rw is-it left)
            for false g = let other : begun z ≡ z = rw g refl in subst (Waits more) (sym (f ∙ other)) (waits-still calls (PollTransmit now) z (all z (settled-has s z is)))

    kept-waits : (x : Option (Transmit (List ℕ)) × State) → x.1.transactions ≡ kept → Sends x
    kept-waits x same e y there = waits-still calls (PollTransmit now) y (all y (settled-has s y (subst (Has y) same there)))

    front-waits : (q : Queued) → Sends (Some q.packet, front_sent now q (settled s))
    front-waits q = by (s.config.timed_from_send && q.is_request) (id_in_header q.packet.payload) refl
      where
        queue : List Queued
        queue = drop 1 (settled s).queue

        by : (b : Bool) (o : Option ℕ) → id_in_header q.packet.payload ≡ o
            → Sends (Some q.packet, sent now (record s { queue = queue; transactions = cond b (option_map_or (λ id. waits_begun id now kept) o kept) kept }))
        by true (Some id) e = begun-waits q queue id e
        by true None e = kept-waits _ refl
        by false o e = kept-waits _ refl

    -- a request that is made and sent at once
    made-waits : (text : List ℕ) (purpose : Purpose) (u : State) → u.transactions ≡ s.transactions → Sends (sent_at_once text purpose now u)
    made-waits text purpose u same e y there = by (has-append y u.transactions (new ∷ []) there)
      where
        new : Transaction
        new = first_sent (fresh_id u) u.remote now text

        x : Option (Transmit (List ℕ)) × State
        x = sent_at_once text purpose now u

        by : Has y u.transactions ⊎ Has y (new ∷ []) → Waits more y
        by (inl old) = waits-still calls (PollTransmit now) y (all y (subst (Has y) same old))
        by (inr (inl is)) = inr (left-now x (to_server u u.local text) y.id e refl
            (inr (y, has-contains y x.1.transactions there, refl, ap (λ (w : Transaction). w.request) is)))
        by (inr (inr none)) = absurd none

    idle-waits : (p : Phase) → Sends (idle_step p now s)
    idle-waits New = let u = record s { phase = Requesting } in made-waits (first_allocate u (fresh_id u)) _ u refl
    idle-waits Allocated =
        by_found Sends _ (slice_get (flat_map (refreshes_in now s) (allocations s)) 0) (keepalive_step now s) (λ p e. made-waits (request_for s p (fresh_id s)) p s refl)
        (by_test Sends (list_any (λ time. nat_le time now) (keepalive_times s)) _ (None, s) (λ e. old-waits _ refl) (λ e. old-waits _ refl))
    idle-waits p = old-waits _ refl

    transmit-waits : AllWait more
    transmit-waits y there = sends refl y (subst (λ (t : State). Has y t.transactions) (behind first calls (PollTransmit now ∷ [])) there)
      where
        sends : Sends (transmit_step now s)
        sends =
            by_found Sends _ (due (agent_of s) now) _ (λ x e. again-waits x (has-found (is_due (timers_of s.config) s.transport now) x s.transactions e).0)
            (by_test Sends (is_paused now s) (reply_step s) (queue_step now s) (λ e. old-waits (reply_step s) refl)
            (λ e. by_found Sends _ (next_queued now s) (idle_step s.phase now s) (λ q f. front-waits q) (idle-waits s.phase)))

  -- ---- any other call

  configured : (calls : List Call) → (at calls).config.timed_from_send ≡ true
  configured calls = ap (λ (c : Config). c.timed_from_send) (run-configured first calls) ∙ timed

  never-from : (now : ℕ) (s : State) → s.config.timed_from_send ≡ true → waits_from now s ≡ never
  never-from now s is = rw is refl

  abbrev Configured : State → State → Type 0
  Configured s t = t.config ≡ s.config

  module _ (calls : List Call) (all : AllWait calls) where
    abbrev was : State
    was = at calls

    made-never : (x : Transaction) (call : Call) → ((at : ℕ) (purpose : Purpose) → AsksFor call was purpose at → at ≡ never)
        → ((purpose : Purpose) × (at : ℕ) × AsksFor call was purpose at × IsMadeAs purpose at was (state_after call was) x) → x.last_send ≡ never
    made-never x call later (purpose, at, asks, (made, is)) = ap (λ (y : Transaction). y.last_send) is ∙ later at purpose asks

    input-never : (x : Transaction) (one : Input) → one.before.config ≡ was.config → (time : ℕ) → waits_from time one.before ≡ never
    input-never x one same time = never-from time one.before (ap (λ (c : Config). c.timed_from_send) same ∙ configured calls)

    input-made : (call : Call) (x : Transaction) → IsDoneBy (L.IsMadeByInput x) call was → x.last_send ≡ never
    input-made call x (one, among, (purpose, answers, (made, is))) =
        ap (λ (y : Transaction). y.last_send) is
        ∙ input-never x one (before-kept Configured (edits-IsKept Configured (fixed-all-edits (λ f. f.1.0)) (λ s streams. refl)) call was one among) one.time

    asked-never : (call : Call) (x : Transaction) → ((at : ℕ) (purpose : Purpose) → AsksFor call was purpose at → at ≡ never) → (L.IsSentAgain call was x → ⊥)
        → L.IsSentAgain call was x ⊎ ((purpose : Purpose) × (at : ℕ) × AsksFor call was purpose at × IsMadeAs purpose at was (state_after call was) x)
        → x.last_send ≡ never
    asked-never call x later not (inl again) = absurd (not again)
    asked-never call x later not (inr made) = made-never x call later made

    new-waits : (call : Call) (x : Transaction) → SendsNone call → IsRequestOf call was x → x.last_send ≡ never
    new-waits (Recv packet now) x none made = input-made (Recv packet now) x made
    new-waits (PollRecv now) x none made = input-made (PollRecv now) x made
    new-waits (PollTransmit now) x none made = absurd none
    new-waits (Delete now) x none made = asked-never (Delete now) x (λ at p asks. asks.0 ∙ never-from now was (configured calls)) (λ a. a) made
    new-waits (CreatePermission transport ip now) x none made = asked-never (CreatePermission transport ip now) x (λ at p asks. asks.0 ∙ never-from now was (configured calls)) (λ a. a) made
    new-waits (BindChannel transport peer now) x none made = asked-never (BindChannel transport peer now) x (λ at p asks. asks.0 ∙ never-from now was (configured calls)) (λ a. a) made
    new-waits (TcpConnect peer now) x none made = asked-never (TcpConnect peer now) x (λ at p asks. asks.0 ∙ never-from now was (configured calls)) (λ a. a) made
    new-waits (AllocatedTcpSocket id tuple peer (Some local) now) x none made = asked-never (AllocatedTcpSocket id tuple peer (Some local) now) x (λ at p asks. asks.0 ∙ never-from now was (configured calls)) (λ a. a) made
    new-waits (TcpClosed local remote now) x none made = asked-never (TcpClosed local remote now) x (λ at p asks. absurd asks) (λ a. a) made
    new-waits (SendTo transport peer bytes now) x none made = asked-never (SendTo transport peer bytes now) x (λ at p asks. absurd asks) (λ a. a) made
    new-waits (Poll now) x none made = asked-never (Poll now) x (λ at p asks. absurd asks) (λ a. a) made
    new-waits PollEvent x none made = asked-never PollEvent x (λ at p asks. absurd asks) (λ a. a) made
    new-waits RelayedAddresses x none made = asked-never RelayedAddresses x (λ at p asks. absurd asks) (λ a. a) made
    new-waits (Permissions transport relayed) x none made = asked-never (Permissions transport relayed) x (λ at p asks. absurd asks) (λ a. a) made
    new-waits (HavePermission transport to) x none made = asked-never (HavePermission transport to) x (λ at p asks. absurd asks) (λ a. a) made
    new-waits ProtocolError x none made = asked-never ProtocolError x (λ at p asks. absurd asks) (λ a. a) made
    new-waits (SetPermissionKept transport ip is_kept) x none made = asked-never (SetPermissionKept transport ip is_kept) x (λ at p asks. absurd asks) (λ a. a) made
    new-waits (SetChannelKept transport peer is_kept) x none made = asked-never (SetChannelKept transport peer is_kept) x (λ at p asks. absurd asks) (λ a. a) made
    new-waits (AllocatedTcpSocket id tuple peer None now) x none made = asked-never (AllocatedTcpSocket id tuple peer None now) x (λ at p asks. absurd asks) (λ a. a) made

    other-waits : (call : Call) → SendsNone call → AllWait (calls ++ call ∷ [])
    other-waits call none x there = by (requests-made call was (state_after call was) x (inl refl)
        (has-contains x (state_after call was).transactions (subst (λ (t : State). Has x t.transactions) (behind first calls (call ∷ [])) there)))
      where
        by : Contains was.transactions x ⊎ IsRequestOf call was x → Waits (calls ++ call ∷ []) x
        by (inl old) = waits-still calls call x (all x (contains-has x was.transactions old))
        by (inr made) = inl (new-waits call x none made)

    call-waits : (call : Call) → AllWait (calls ++ call ∷ [])
    call-waits (PollTransmit now) = transmit-waits calls now all
    call-waits call = other-waits call tt

  run-waits : (before after : List Call) → AllWait before → AllWait (before ++ after)
  run-waits before [] all = subst AllWait (sym (append-nil before)) all
  run-waits before (call ∷ after) all =
      subst AllWait (append_assoc before (call ∷ []) after) (run-waits (before ++ call ∷ []) after (call-waits before all call))

  pub all-wait : first.transactions ≡ [] → (calls : List Call) → AllWait calls
  all-wait none calls = run-waits [] calls (λ x there. absurd (subst (Has x) none there))

  -- ---- the laws

  module _ (none : first.transactions ≡ []) (calls : List Call) where
    sent-again : (earlier : List Call) (now : ℕ) (packet : Transmit (List ℕ)) → now ≤ 2 ^ 62 → IsDueFor now (at earlier) packet → IsSentAgain packet first earlier
    sent-again earlier now packet range (x, e, same) =
        let s = at earlier in
        let (there, is) = has-found (is_due (timers_of s.config) s.transport now) x s.transactions e in
        (x, has-contains x s.transactions there, same, by x there is (all-wait none earlier x there))
      where
        by : (x : Transaction) → Has x (at earlier).transactions → is_due (timers_of (at earlier).config) (at earlier).transport now x ≡ true → Waits earlier x → HasLeft x.id first earlier
        by x there is (inl unsent) = absurd (never-due (timers_of (at earlier).config) (at earlier).transport now x range unsent is)
        by x there is (inr left) = left

    apart : (earlier : List Call) (now : ℕ) → is_paused now (at earlier) ≡ false → IsApart now first earlier
    apart earlier now over before then between other split all given request =
        let s = at before in
        let begun : AtLeast then (state_after (PollTransmit then) s).last_send = begins (transmit-begins then s other given) in
        let still-later = calls-later then between (state_after (PollTransmit then) s) all begun in
        let same : at earlier ≡ state_after_all (state_after (PollTransmit then) s) between = ap at split ∙ behind first before (PollTransmit then ∷ between) in
        ends (at earlier).last_send refl (subst (λ (t : State). AtLeast then t.last_send) (sym same) still-later)
      where
        begins : IsReply other (at before) ⊎ AtLeast then (state_after (PollTransmit then) (at before)).last_send → AtLeast then (state_after (PollTransmit then) (at before)).last_send
        begins (inl reply) = absurd (request reply)
        begins (inr begun) = begun

        cadence : (at earlier).config.request_cadence ≡ first.config.request_cadence
        cadence = ap (λ (c : Config). c.request_cadence) (run-configured first earlier)

        ended : pause_end (at earlier) ≤ now
        ended = ltb-false now (pause_end (at earlier)) over

        ends : (o : Option ℕ) → (at earlier).last_send ≡ o → AtLeast then o → later_by first.config.request_cadence then ≤ now
        ends None e none = absurd none
        ends (Some last) e later =
            let end : min (last + (at earlier).config.request_cadence) never ≤ now = rw e at ended in
            omega (arith, end, cadence, later)

    in-turn : RequestsLeaveInTurn first calls
    in-turn earlier now later packet split range given = by (transmit-kinds now (at earlier) packet given)
      where
        by : IsReply packet (at earlier) ⊎ (IsDueFor now (at earlier) packet ⊎ ((is_paused now (at earlier) ≡ false) × IsToLeave now packet (at earlier)))
            → IsReply packet (at earlier) ⊎ (IsSentAgain packet first earlier ⊎ (IsApart now first earlier × IsToLeave now packet (at earlier)))
        by (inl reply) = inl reply
        by (inr (inl again)) = inr (inl (sent-again earlier now packet range again))
        by (inr (inr (over, copy))) = inr (inr (apart earlier now over, copy))

    once-sent : TimesOutOnceSent first calls
    once-sent earlier now later x split range e =
        let s = at earlier in
        let (there, is) = has-found (is_timed_out (timers_of s.config) s.transport now) x s.transactions e in
        by is (all-wait none earlier x there)
      where
        by : is_timed_out (timers_of (at earlier).config) (at earlier).transport now x ≡ true → Waits earlier x → HasLeft x.id first earlier
        by is (inl unsent) = absurd (never-over (timers_of (at earlier).config) (at earlier).transport now x range unsent is)
        by is (inr left) = left

pub run-paced : HoldsOfRuns RequestsArePaced
run-paced transport local remote config seed calls timed =
    let first = initial transport local remote config seed in
    (in-turn first timed refl calls, once-sent first timed refl calls)
