-- A client that sends a packet has less left to do, if there is a pause between two requests.
use Rattle.turn_client_laws.proofs.Common.{◌≡◌, ◌∙◌, ℕ, ◌+◌, ◌-◌, ◌^◌, ◌<◌, ◌≤◌, Bool, true, false, cond, eqb, List, [], ◌∷◌, Option, Some, None, ap, arith, filter_map, inl, inr, length, min, refl}
use Rattle.turn_client_laws.proofs.Common.{slice_get, sym, nat_le, cons_option, list_any, option_map_or, and_parts, eq-eqb, lt-ltb, ltb-true}
use Rattle.turn_client_laws.proofs.Machine.{TransportType, Transmit, due, is_due, resent, Timers, resends_of, Transaction, timers_of, is_paused, keepalive_times, pause_end, binding_indication}
use Rattle.turn_client_laws.proofs.Machine.{fresh_id, id_used, request_for, to_server, State, agent_of, idle_step, keepalive_step, next_queued, next_refresh, queue_step, front_sent, settled, refresh_step, reply_in, reply_step, sent}
use Rattle.turn_client_laws.proofs.Machine.{sent_at_once, transmit_step, without_first_reply, Purpose, Phase, New, Requesting, Authenticating, Allocated, Closed, Queued, Has, has-found}
use Rattle.turn_client_laws.proofs.Laws.{weight}
use Rattle.turn_driver.proofs.RestWeights.{GetsOn, left_to_do, may_send, resends_left}

-- ---- the pause

-- once a packet was sent, no request is sent at this time
silenced : (now : ℕ) (s : State) → s.last_send ≡ Some now → 0 < s.config.request_cadence → now ≤ 2 ^ 62 → may_send now s ≡ 0
silenced now s e pauses range =
    let ends : pause_end s ≡ min (now + s.config.request_cadence) (2 ^ 63 - 1) = rw e refl in
    let paused : is_paused now s ≡ true = rw ends (lt-ltb now (min (now + s.config.request_cadence) (2 ^ 63 - 1)) (omega (arith, pauses, range))) in
    rw paused refl

-- ---- a retransmission

resent-one : (timers : Timers) (transport : TransportType) (id now : ℕ) (t : Transaction)
    → resends_of timers transport - (cond (eqb t.id id) (record t { resends = t.resends + 1; last_send = now }) t).resends
    ≤ resends_of timers transport - t.resends
resent-one timers transport id now t = by (eqb t.id id)
  where
    by : (b : Bool) → resends_of timers transport - (cond b (record t { resends = t.resends + 1; last_send = now }) t).resends ≤ resends_of timers transport - t.resends
    by true = omega arith
    by false = omega arith

resent-all : (timers : Timers) (transport : TransportType) (id now : ℕ) (ts : List Transaction) → resends_left timers transport (resent id now ts) ≤ resends_left timers transport ts
resent-all timers transport id now [] = omega arith
resent-all timers transport id now (t ∷ ts) = let one = resent-one timers transport id now t in let later = resent-all timers transport id now ts in omega (arith, one, later)

resent-less : (timers : Timers) (transport : TransportType) (now : ℕ) (x : Transaction) (ts : List Transaction) → Has x ts → x.resends < resends_of timers transport
    → resends_left timers transport (resent x.id now ts) < resends_left timers transport ts
resent-less timers transport now x [] none less = absurd none
resent-less timers transport now x (t ∷ ts) (inl same) less =
    let later = resent-all timers transport x.id now ts in
    let here : eqb t.id x.id ≡ true = eq-eqb t.id x.id (ap (λ (y : Transaction). y.id) (sym same)) in
    let few : t.resends ≡ x.resends = ap (λ (y : Transaction). y.resends) (sym same) in
    rw here (omega (arith, later, few, less))
resent-less timers transport now x (t ∷ ts) (inr there) less =
    let one = resent-one timers transport x.id now t in let later = resent-less timers transport now x ts there less in omega (arith, one, later)

resent-length : (id now : ℕ) (ts : List Transaction) → length (resent id now ts) ≡ length ts
resent-length id now [] = refl
resent-length id now (t ∷ ts) = let later = resent-length id now ts in omega (arith, later)

-- ---- a reply

pub reply-shorter : (queue : List Queued) (packet : Transmit (List ℕ)) → slice_get (filter_map reply_in queue) 0 ≡ Some packet → length (without_first_reply queue) < length queue
reply-shorter [] packet e = cc
reply-shorter (q ∷ queue) packet e = by q.is_request e (λ f. reply-shorter queue packet f)
  where
    by : (b : Bool) → slice_get (cons_option (cond b None (Some q.packet)) (filter_map reply_in queue)) 0 ≡ Some packet
        → (slice_get (filter_map reply_in queue) 0 ≡ Some packet → length (without_first_reply queue) < length queue)
        → length (cond b (q ∷ without_first_reply queue) queue) < length (q ∷ queue)
    by true f later = let less = later f in omega (arith, less)
    by false f later = omega arith

-- ---- a request

-- a packet that is returned was sent now
abbrev SentNow : ℕ → State → Option (Transmit (List ℕ)) × State → Type 0
SentNow now s p = (packet : Transmit (List ℕ)) → p.0 ≡ Some packet → (p.1.last_send ≡ Some now) × (p.1.config ≡ s.config) × (p.1.streams ≡ s.streams)

keepalive-SentNow : (now : ℕ) (s : State) → SentNow now s (keepalive_step now s)
keepalive-SentNow now s = by (list_any (λ time. nat_le time now) (keepalive_times s))
  where
    by : (b : Bool) → SentNow now s (cond {A = Option (Transmit (List ℕ)) × State} b (Some (to_server s s.local (binding_indication (fresh_id s))), sent now (id_used s)) (None, s))
    by true packet e = (refl, refl, refl)
    by false packet e = cc

refresh-SentNow : (now : ℕ) (s : State) → SentNow now s (refresh_step now s)
refresh-SentNow now s = by (next_refresh now s)
  where
    by : (o : Option Purpose) → SentNow now s (option_map_or (λ purpose. sent_at_once (request_for s purpose (fresh_id s)) purpose now s) o (keepalive_step now s))
    by None packet e = keepalive-SentNow now s packet e
    by (Some purpose) packet e = (refl, refl, refl)

idle-SentNow : (p : Phase) (now : ℕ) (s : State) → SentNow now s (idle_step p now s)
idle-SentNow New now s packet e = (refl, refl, refl)
idle-SentNow Requesting now s packet e = cc
idle-SentNow Authenticating now s packet e = cc
idle-SentNow Allocated now s packet e = refresh-SentNow now s packet e
idle-SentNow Closed now s packet e = cc

queue-SentNow : (now : ℕ) (s : State) → SentNow now s (queue_step now s)
queue-SentNow now s = by (next_queued now s)
  where
    by : (o : Option Queued) → SentNow now s (option_map_or (λ q. (Some q.packet, front_sent now q (settled s))) o (idle_step s.phase now s))
    by None packet e = idle-SentNow s.phase now s packet e
    by (Some q) packet e = (refl, refl, refl)

-- ---- the call

module _ (now : ℕ) (s : State) (pauses : 0 < s.config.request_cadence) (range : now ≤ 2 ^ 62) where
  abbrev Sends : Option (Transmit (List ℕ)) × State → Type 0
  Sends p = (packet : Transmit (List ℕ)) → p.0 ≡ Some packet → GetsOn (left_to_do now) s p.1

  retransmits : (x : Transaction) → due (agent_of s) now ≡ Some x → GetsOn (left_to_do now) s (sent now (record s { transactions = resent x.id now s.transactions }))
  retransmits x e = by (is_paused now s) refl
    where
      t : State
      t = sent now (record s { transactions = resent x.id now s.transactions })

      zero : may_send now t ≡ 0
      zero = silenced now t refl pauses range

      found : Has x s.transactions × (is_due (timers_of s.config) s.transport now x ≡ true)
      found = has-found _ x s.transactions e

      few : x.resends < resends_of (timers_of s.config) s.transport
      few = ltb-true x.resends (resends_of (timers_of s.config) s.transport) (and_parts _ _ found.1).0

      by : (b : Bool) → is_paused now s ≡ b → GetsOn (left_to_do now) s t
      by true f =
          let none : may_send now s ≡ 0 = rw f refl in
          let less = resent-less (timers_of s.config) s.transport now x s.transactions found.0 few in
          inr (refl, inr (zero ∙ sym none, inr (resent-length x.id now s.transactions, inr (refl, inl (omega (arith, less))))))
      by false f =
          let one : may_send now s ≡ 1 = rw f refl in
          inr (refl, inl (omega (arith, zero, one)))

  replies : Sends (reply_step s)
  replies packet e = let less = reply-shorter s.queue packet e in inr (refl, inr (refl, inr (refl, inr (refl, inl (omega (arith, less))))))

  requests : is_paused now s ≡ false → Sends (queue_step now s)
  requests f packet e =
      let (last_send, config, streams) = queue-SentNow now s packet e in
      let t = (queue_step now s).1 in
      let zero : may_send now t ≡ 0 = silenced now t last_send (rw config pauses) range in
      let one : may_send now s ≡ 1 = rw f refl in
      inr (ap weight streams, inl (omega (arith, zero, one)))

  pub transmit-GetsOn : Sends (transmit_step now s)
  transmit-GetsOn = by (due (agent_of s) now) refl
    where
      paused : (b : Bool) → is_paused now s ≡ b → Sends (cond b (reply_step s) (queue_step now s))
      paused true f = replies
      paused false f = requests f

      by : (o : Option Transaction) → due (agent_of s) now ≡ o → Sends (option_map_or
          (λ t. (Some (record (to_server s s.local t.request) { to = t.to }), sent now (record s { transactions = resent t.id now s.transactions }))) o
          (cond (is_paused now s) (reply_step s) (queue_step now s)))
      by None e = paused (is_paused now s) refl
      by (Some x) e = λ packet f. retransmits x e
