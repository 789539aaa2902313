-- A client that has ended and returns nothing has nothing left to return.
use Rattle.turn_client_laws.proofs.Common.{◌≡◌, ◌∙◌, ℕ, Bool, true, false, cond, List, [], ◌∷◌, Option, Some, None, ap, filter_map, refl, slice_get, subst, sym, option_map_or, cons_option, list_any}
use Rattle.turn_client_laws.proofs.Common.{IfOk, OnOk, Result, Ok, Err, nat_le}
use Rattle.turn_client_laws.proofs.Machine.{Transmit, due, State, agent_of, Phase, New, Requesting, Authenticating, Allocated, Closed, Queued, is_paused, keepalive_times, binding_indication, fresh_id}
use Rattle.turn_client_laws.proofs.Machine.{id_used, to_server, idle_step, keepalive_step, next_queued, queue_step, refresh_step, reply_in, reply_step, sent, transmit_step, without_first_reply, TurnEvent}
use Rattle.turn_client_laws.proofs.Machine.{event_step}
use Rattle.turn_driver.specs.Next.{AnswersRest, answer_of, to_send, to_report, waiting}
use Rattle.turn_driver.specs.declared.next.Next.{Next}
use Rattle.turn_driver.specs.declared.task.Rest.{Rest}
use Rattle.turn_driver.specs.declared.task.Rest.TheVariants.{Now, Ended}

-- if no packet is returned, nothing changes
abbrev IsIdle : State → Option (Transmit (List ℕ)) × State → Type 0
IsIdle s p = p.0 ≡ None → p.1 ≡ s

none-given : (packet : Transmit (List ℕ)) → Some packet ≡ None → ⊥
none-given packet e = cc

some-IsIdle : (s t : State) (packet : Transmit (List ℕ)) → IsIdle s (Some packet, t)
some-IsIdle s t packet none = absurd (none-given packet none)

option-IsIdle : {A : Type 0} (s : State) (o : Option A) (gives : A → Option (Transmit (List ℕ)) × State) (other : Option (Transmit (List ℕ)) × State) → ((a : A) → IsIdle s (gives a)) → IsIdle s other
    → IsIdle s (option_map_or gives o other)
option-IsIdle s None gives other some none = none
option-IsIdle s (Some a) gives other some none = some a

replies-kept : (queue : List Queued) → slice_get (filter_map reply_in queue) 0 ≡ None → without_first_reply queue ≡ queue
replies-kept [] none = refl
replies-kept (q ∷ queue) none = by q.is_request (replies-kept queue) none
  where
    by : (is_request : Bool) → (slice_get (filter_map reply_in queue) 0 ≡ None → without_first_reply queue ≡ queue)
        → slice_get (cons_option (cond is_request None (Some q.packet)) (filter_map reply_in queue)) 0 ≡ None → cond is_request (q ∷ without_first_reply queue) queue ≡ q ∷ queue
    by true later none = ap (λ (qs : List Queued). q ∷ qs) (later none)
    by false later none = absurd (none-given q.packet none)

reply-IsIdle : (s : State) → IsIdle s (reply_step s)
reply-IsIdle s none = ap (λ (queue : List Queued). record s { queue = queue }) (replies-kept s.queue none)

keepalive-IsIdle : (now : ℕ) (s : State) → IsIdle s (keepalive_step now s)
keepalive-IsIdle now s = by (list_any (λ time. nat_le time now) (keepalive_times s))
  where
    by : (due : Bool) → IsIdle s (cond {A = Option (Transmit (List ℕ)) × State} due (Some (to_server s s.local (binding_indication (fresh_id s))), sent now (id_used s)) (None, s))
    by true = some-IsIdle s _ _
    by false = λ none. refl

refresh-IsIdle : (now : ℕ) (s : State) → IsIdle s (refresh_step now s)
refresh-IsIdle now s = option-IsIdle s _ _ (keepalive_step now s) (λ purpose. some-IsIdle s _ _) (keepalive-IsIdle now s)

idle-IsIdle : (phase : Phase) (now : ℕ) (s : State) → IsIdle s (idle_step phase now s)
idle-IsIdle New now s = some-IsIdle s _ _
idle-IsIdle Requesting now s = λ none. refl
idle-IsIdle Authenticating now s = λ none. refl
idle-IsIdle Allocated now s = refresh-IsIdle now s
idle-IsIdle Closed now s = λ none. refl

queue-IsIdle : (now : ℕ) (s : State) → IsIdle s (queue_step now s)
queue-IsIdle now s = option-IsIdle s (next_queued now s) _ (idle_step s.phase now s) (λ q. some-IsIdle s _ _) (idle-IsIdle s.phase now s)

paused-IsIdle : (paused : Bool) (now : ℕ) (s : State) → IsIdle s (cond paused (reply_step s) (queue_step now s))
paused-IsIdle true now s = reply-IsIdle s
paused-IsIdle false now s = queue-IsIdle now s

pub transmit-IsIdle : (now : ℕ) (s : State) → IsIdle s (transmit_step now s)
transmit-IsIdle now s = option-IsIdle s (due (agent_of s) now) _ _ (λ t. some-IsIdle s _ _) (paused-IsIdle (is_paused now s) now s)

-- ---- what is left of a client that has ended

sent-ended : (now : ℕ) (s : State) (p : Option (Transmit (List ℕ)) × State) → transmit_step now s ≡ p → IsIdle s p → s.events ≡ [] → AnswersRest (to_send Ended p).0 now (to_send Ended p).1
sent-ended now s (Some packet, t) e idle none = tt
sent-ended now s (None, t) e idle none =
    let same : t ≡ s = idle refl in
    (ap (λ (u : State). u.events) same ∙ none, subst (λ (u : State). transmit_step now u ≡ (None, u)) (sym same) (e ∙ ap (λ (u : State). (None, u)) same))

waiting-ended : (now : ℕ) (s : State) → AnswersRest (waiting now Ended s).0 now (waiting now Ended s).1
waiting-ended now s = by s.events
  where
    by : (events : List TurnEvent) → AnswersRest (waiting now Ended (record s { events = events })).0 now (waiting now Ended (record s { events = events })).1
    by [] = let u : State = record s { events = [] } in sent-ended now u (transmit_step now u) refl (transmit-IsIdle now u) refl
    by (event ∷ events) = tt

-- ---- work may be left

sent-now : (now : ℕ) (p : Option (Transmit (List ℕ)) × State) → AnswersRest (to_send Now p).0 now (to_send Now p).1
sent-now now (Some packet, t) = tt
sent-now now (None, t) = tt

reported-now : (now : ℕ) (p : Option TurnEvent × State) → AnswersRest (to_report now Now p).0 now (to_report now Now p).1
reported-now now (Some event, t) = tt
reported-now now (None, t) = sent-now now (transmit_step now t)

-- ---- the answer of the code

restful : {E : Type 0} (r : Result Next E) (rest : Rest) (now : ℕ) (s t : State) → AnswersRest (waiting now rest s).0 now (waiting now rest s).1
    → IfOk r (λ next. answer_of next ≡ (waiting now rest s).0) → OnOk r (t ≡ (waiting now rest s).1) → IfOk r (λ next. AnswersRest (answer_of next) now t)
restful (Ok next) rest now s t is reported after = rw (reported, after) is
restful (Err e) rest now s t is reported after = tt

pub restful-ended : {E : Type 0} (r : Result Next E) (now : ℕ) (s t : State) → IfOk r (λ next. answer_of next ≡ (waiting now Ended s).0) → OnOk r (t ≡ (waiting now Ended s).1)
    → IfOk r (λ next. AnswersRest (answer_of next) now t)
restful-ended r now s t reported after = restful r Ended now s t (waiting-ended now s) reported after

pub restful-now : {E : Type 0} (r : Result Next E) (now : ℕ) (s t : State) → IfOk r (λ next. answer_of next ≡ (waiting now Now s).0) → OnOk r (t ≡ (waiting now Now s).1)
    → IfOk r (λ next. AnswersRest (answer_of next) now t)
restful-now r now s t reported after = restful r Now now s t (reported-now now (event_step s)) reported after
