-- What time brings, and what is sent, is independent of the streams.
use Rattle.turn_client_laws.proofs.Common.{◌≡◌, ℕ, Bool, true, false, cond, ◌&&◌, ◌||◌, leb, List, [], ◌∷◌, ◌++◌, filter, filter_map, fold, map, Option, Some, None, refl, ap, ◌∙◌, find, flat_map}
use Rattle.turn_client_laws.proofs.Common.{is_some, max, min, option_to_list, reverse, slice_get, list_any, option_map_or, SocketAddr}
use Rattle.turn_client_laws.proofs.Machine.{AddressFamily, due, timed_out_transaction, transaction_timeout, is_allocated, end_of, has_event, has_reply, has_request_to_send, is_new, is_paused}
use Rattle.turn_client_laws.proofs.Machine.{is_refreshable, keepalive_times, latest_wakeup, next_wakeup, pause_end, refresh_time, closed, transaction_ended, allocations, family_of, is_connect, is_of}
use Rattle.turn_client_laws.proofs.Machine.{is_pending_channel, is_pending_permission, allocation_expires, answer_by, answer_step, channel_expired, connections_unbound, failed_by_timeout}
use Rattle.turn_client_laws.proofs.Machine.{is_expired_channel, is_listed_for_allocation, expired_at, expired_allocation, expired_in, next_offer, offers_timed_out, permissions_expired, poll_step}
use Rattle.turn_client_laws.proofs.Machine.{refreshes_timed_out, set_free, timed_out_purposes, timed_out_step, timed_step, State, agent_of, later_by, max_time, idle_step, is_ranked, is_refresh_due}
use Rattle.turn_client_laws.proofs.Machine.{keepalive_step, next_queued, next_refresh, queue_step, refresh_purpose, refresh_step, transmit_step, Grant, Allocation, Channel, Active, Purpose, Relay, Phase, New}
use Rattle.turn_client_laws.proofs.Machine.{Requesting, Authenticating, Allocated, Closed, Stream}
use Rattle.turn_client_api.specs.declared.poll.TurnPollRet.TheVariants as Do
use Rattle.turn_client_laws.proofs.AnyStreamsLemmas.{alike-cond, alike-fold, both_with, pair-cond, with_streams}

-- functions that give the same everywhere are the same
pointwise-same : {A B : Type 0} (f g : A → B) → ((a : A) → f a ≡ g a) → f ≡ g
pointwise-same f g same = λ i a. same a i

module _ (x : List Stream) where
  -- what is found, or else what follows
  pair-found : {A B : Type 0} (o : Option B) (f g : B → A × State) (p q : A × State) → ((b : B) → f b ≡ both_with x (g b)) → p ≡ both_with x q
      → option_map_or f o p ≡ both_with x (option_map_or g o q)
  pair-found None f g p q found none = none
  pair-found (Some b) f g p q found none = found b

  -- ---- what is sent

  keepalive-alike : (now : ℕ) (s : State) → keepalive_step now (with_streams x s) ≡ both_with x (keepalive_step now s)
  keepalive-alike now s = pair-cond x (list_any (λ time. leb time now) (keepalive_times s)) _ _ _ _ refl refl

  able-alike : (g : Grant) (s : State) → is_refreshable g (with_streams x s) ≡ is_refreshable g s
  able-alike (Allocation a) s = refl
  able-alike g s = refl

  time-alike : (s : State) (g : Grant) → refresh_time (with_streams x s) g ≡ refresh_time s g
  unfolding refresh_time
  time-alike s g = rw (able-alike g s) refl

  due-alike : (now : ℕ) (s : State) (g : Grant) → is_refresh_due now (with_streams x s) g ≡ is_refresh_due now s g
  unfolding is_refresh_due
  due-alike now s g = rw (time-alike s g) refl

  next-alike : (now : ℕ) (s : State) → next_refresh now (with_streams x s) ≡ next_refresh now s
  next-alike now s = ap by (pointwise-same (is_refresh_due now (with_streams x s)) (is_refresh_due now s) (due-alike now s))
    where
      of_rank : (Grant → Bool) → Relay → ℕ → List Purpose
      of_rank due a rank = filter_map (refresh_purpose now) (filter (λ g. is_ranked rank g && is_of (family_of a.relayed) g && due g) s.grants)

      by : (Grant → Bool) → Option Purpose
      by due = slice_get (flat_map (λ a. cond (leb now a.expiry) (flat_map (of_rank due a) (0 ∷ 1 ∷ 2 ∷ [])) []) (allocations s)) 0

  refresh-alike : (now : ℕ) (s : State) → refresh_step now (with_streams x s) ≡ both_with x (refresh_step now s)
  refresh-alike now s = rw (next-alike now s) (pair-found (next_refresh now s) _ _ _ _ (λ purpose. refl) (keepalive-alike now s))

  idle-alike : (p : Phase) (now : ℕ) (s : State) → idle_step p now (with_streams x s) ≡ both_with x (idle_step p now s)
  idle-alike New now s = refl
  idle-alike Allocated now s = refresh-alike now s
  idle-alike p now s = refl

  queue-alike : (now : ℕ) (s : State) → queue_step now (with_streams x s) ≡ both_with x (queue_step now s)
  queue-alike now s = rw (next-alike now s) (pair-found (next_queued now s) _ _ _ _ (λ q. refl) (idle-alike s.phase now s))

  pub transmit-alike : (now : ℕ) (s : State) → transmit_step now (with_streams x s) ≡ both_with x (transmit_step now s)
  transmit-alike now s =
      pair-found (due (agent_of s) now) _ _ _ _ (λ t. refl) (pair-cond x (is_paused now s) _ _ _ _ refl (queue-alike now s))

  -- ---- what expires

  last-alike : (o : Option Grant) (s : State) → channel_expired o (with_streams x s) ≡ with_streams x (channel_expired o s)
  last-alike (Some (Channel number peer (Active lease))) s = refl
  last-alike o s = refl

  expired_in-alike : (family : AddressFamily) (given : Option ℕ) (purposes : List Purpose) (now : ℕ) (s : State)
      → expired_in family given purposes now (with_streams x s) ≡ with_streams x (expired_in family given purposes now s)
  expired_in-alike family given purposes now s =
      let t = failed_by_timeout family purposes is_pending_permission (failed_by_timeout family purposes is_pending_channel s) in
      ap behind (last-alike (find (λ g. is_of family g && is_expired_channel now g) (reverse t.grants)) t)
    where
      behind : State → State
      behind t =
          set_free family now (refreshes_timed_out family purposes (offers_timed_out family given
          (connections_unbound family purposes now (failed_by_timeout family purposes is_connect (permissions_expired family now t)))))

  expired_at-alike : (given : Option ℕ) (now : ℕ) (s : State) → expired_at given now (with_streams x s) ≡ with_streams x (expired_at given now s)
  expired_at-alike given now s = alike-fold x (expired_allocation given purposes now) one (allocations s) s
    where
      purposes : List Purpose
      purposes = timed_out_purposes given s

      one : (t : State) (a : Relay) → expired_allocation given purposes now (with_streams x t) a ≡ with_streams x (expired_allocation given purposes now t a)
      one t a = alike-cond x (allocation_expires purposes now t a) _ _ _ _ refl (expired_in-alike (family_of a.relayed) given purposes now t)

  -- ---- poll

  wakeup-alike : (is : Bool) (now : ℕ) (s : State) → next_wakeup is now (with_streams x s) ≡ next_wakeup is now s
  wakeup-alike is now s = ap by (pointwise-same (refresh_time (with_streams x s)) (refresh_time s) (time-alike s))
    where
      times : (Grant → Option ℕ) → List ℕ
      times refresh =
          latest_wakeup now s
          ∷ cond (has_request_to_send s) (pause_end s ∷ []) []
          ++ map (transaction_timeout (agent_of s).timers s.transport) s.transactions
          ++ flat_map (λ g. end_of now g ++ map (max (pause_end s)) (option_to_list (refresh g))) s.grants
          ++ keepalive_times s

      least : (Grant → Option ℕ) → ℕ
      least refresh = fold min max_time (times refresh)

      by : (Grant → Option ℕ) → ℕ
      by refresh =
          cond (is_new s.phase || has_event s || has_reply s || is) now
          (cond (is_allocated s.phase) (max now (least refresh)) (least refresh))

  answer-alike : (given : Option ℕ) (now : ℕ) (s : State) → answer_step given now (with_streams x s) ≡ both_with x (answer_step given now s)
  answer-alike given now s = by s.closes s.phase (allocations s)
    where
      by : (closes : List SocketAddr) (p : Phase) (relays : List Relay) → answer_by closes p relays given now (with_streams x s) ≡ both_with x (answer_by closes p relays given now s)
      by (local ∷ others) p relays = refl
      by [] Allocated [] = refl
      by [] p relays = ap (λ time. (Do.WaitUntil time, with_streams x s)) (wakeup-alike (is_some given) now s)

  timed-alike : (p : Phase) (given : Option ℕ) (now : ℕ) (s : State) → timed_step p given now (with_streams x s) ≡ both_with x (timed_step p given now s)
  timed-alike New given now s = refl
  timed-alike Requesting None now s = answer-alike None now s
  timed-alike Requesting (Some id) now s = refl
  timed-alike Authenticating None now s = answer-alike None now s
  timed-alike Authenticating (Some id) now s = by (is_listed_for_allocation id s)
    where
      by : (b : Bool) → answer_step (Some id) now (cond b (closed (with_streams x s)) (with_streams x s)) ≡ both_with x (answer_step (Some id) now (cond b (closed s) s))
      by true = answer-alike (Some id) now (closed s)
      by false = answer-alike (Some id) now s
  timed-alike Allocated given now s = ap (answer_step given now) (expired_at-alike given now s) ∙ answer-alike given now (expired_at given now s)
  timed-alike Closed given now s = refl

  timed_out-alike : (now : ℕ) (s : State) → timed_out_step now (with_streams x s) ≡ both_with x (timed_out_step now s)
  timed_out-alike now s =
      pair-found (timed_out_transaction (agent_of s) now) _ _ _ _ (λ t. timed-alike s.phase (Some t.id) now (transaction_ended t.id s)) (timed-alike s.phase None now s)

  pub poll-alike : (now : ℕ) (s : State) → poll_step now (with_streams x s) ≡ both_with x (poll_step now s)
  poll-alike now s =
      pair-cond x (has_event s || has_reply s) _ _ _ _ refl (pair-found (next_offer s) _ _ _ _ (λ offer. refl) (timed_out-alike now s))
