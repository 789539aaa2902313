-- What is of a peer changes nothing that may be due.
use Rattle.turn_client_laws.proofs.Common.{◌≡◌, ◌∙◌, ℕ, Bool, true, false, not, cond, eqb, leb, ltb, ◌&&◌, List, [], ◌∷◌, filter, filter_map, flat_map, Option, Some, None, refl, ap, inl, inr, slice_get, list_any}
use Rattle.turn_client_laws.proofs.Common.{AllByRecursion, cases_Bool, SocketAddr}
use Rattle.turn_client_laws.proofs.Machine.{TransportType, Udp, Tcp, Transmit, Source, State, agent_of, Phase, New, Authenticating, Allocated, Challenge, Purpose, Stream, Mode, Control, Waiting, Bound, Broken}
use Rattle.turn_client_laws.proofs.Machine.{Judgement, Unrelated, Challenged, Fatal, LateResponse, DataIndication, ConnectionAttempt, SignedRequest, SignedSuccess, SignedError, judgement_of, method_in}
use Rattle.turn_client_laws.proofs.Machine.{Outcome, Handled, Ignored, attempt_indicated, attempt_requested, answered_purposes, begins_message, bind_step, challenge_step, channel_sent, connection_attempt_method}
use Rattle.turn_client_laws.proofs.Machine.{datagram_step, frame_step, is_channel_frame, is_message, message_step, outcome_for, purposes_of, id_of, refresh_method, retried, signed_step, same_address}
use Rattle.turn_client_laws.proofs.Machine.{is_from_server, recv_step, due, is_paused, idle_step, keepalive_step, keepalive_times, next_queued, next_refresh, queue_step, refresh_step, reply_in, reply_step}
use Rattle.turn_client_laws.proofs.Machine.{transmit_step, without_first_reply, IsIdleUntil, cases_Option, Grant, Allocation, Relay, allocations, family_of, is_of, is_ranked, is_refreshable, refresh_purpose}
unfoldable use Rattle.turn_client_laws.proofs.Machine.{refresh_time, is_refresh_due}
use Rattle.turn_client_laws.proofs.Laws.{Input, processed, InputsLead, by_found, by_test, both_with, transmit-alike}
use Rattle.turn_client_runs.specs.Calm.{IsOfPeer}

-- ---- one input

-- if it is of a peer the state stays
abbrev Stays : State → Outcome × State → Type 0
Stays s r = IsOfPeer r.0 → r.1 ≡ s

outcome-none : (message : List ℕ) (purposes : List Purpose) → IsOfPeer (outcome_for message purposes) → ⊥
outcome-none message [] = by_test (λ (o : Outcome). IsOfPeer o → ⊥) (eqb (method_in message) refresh_method) Handled Ignored (λ e f. f) (λ e f. f)
outcome-none message (purpose ∷ others) = λ f. f

signed-none : (p : Phase) (is_granted : Bool) (message : List ℕ) (now : ℕ) (s : State) → IsOfPeer (signed_step is_granted message now (record s { phase = p })).0 → ⊥
signed-none Authenticating true message now s = λ f. f
signed-none Authenticating false message now s = λ f. f
signed-none p is_granted message now s = outcome-none message (answered_purposes message (record s { phase = p }))

challenge-stays : (message : List ℕ) (c : Challenge) (now : ℕ) (s : State) → Stays s (challenge_step message c now s)
challenge-stays message c now s =
    by_test (Stays s) (ltb s.challenges s.config.max_stale_nonces) _ _
    (λ e. by_found (Stays s) _ (retried (purposes_of (id_of message) s)) (Ignored, s) (λ p g f. absurd f) (λ f. absurd f)) (λ e f. absurd f)

message-stays : (message : List ℕ) (now : ℕ) (s : State) → Stays s (message_step message now s)
message-stays message now s = by (judgement_of s message) refl
  where
    by : (j : Judgement) → judgement_of s message ≡ j → Stays s (message_step message now s)
    by Unrelated e = rw e (λ f. refl)
    by (Challenged c) e = rw e (challenge-stays message c now s)
    by Fatal e = rw e (λ f. absurd f)
    by LateResponse e = rw e (λ f. refl)
    by DataIndication e = rw e (λ f. refl)
    by ConnectionAttempt e = rw e (by_found (Stays s) (λ (t : State). (Handled, t)) (attempt_indicated message s) (Ignored, s) (λ t g f. absurd f) (λ f. absurd f))
    by SignedRequest e = rw e (by_test (Stays s) (eqb (method_in message) connection_attempt_method) (Handled, attempt_requested message s) (Ignored, s) (λ g f. absurd f) (λ g f. absurd f))
    by SignedSuccess e = rw e (λ f. absurd (signed-none s.phase true message now s f))
    by SignedError e = rw e (λ f. absurd (signed-none s.phase false message now s f))

datagram-stays : (bytes : List ℕ) (now : ℕ) (s : State) → Stays s (datagram_step bytes now s)
datagram-stays bytes now s =
    by_test (Stays s) (is_message bytes) (message_step bytes now s) _ (λ e. message-stays bytes now s)
    (λ e. by_test (Stays s) (is_channel_frame bytes) (channel_sent s bytes, s) (Ignored, s) (λ g f. refl) (λ g f. refl))

frame-stays : (m : Mode) (stream : Stream) (frame : List ℕ) (now : ℕ) (s : State) → Stays s (frame_step (record stream { mode = m }) frame now s)
frame-stays Control stream frame now s =
    by_test (Stays s) (not (begins_message frame)) (channel_sent s frame, s) _ (λ e f. refl)
    (λ e. by_test (Stays s) (is_message frame) (message_step frame now s) (Handled, s) (λ g. message-stays frame now s) (λ g f. refl))
frame-stays Waiting stream frame now s =
    by_test (Stays s) (not (begins_message frame)) (Ignored, s) _ (λ e f. refl)
    (λ e. by_test (Stays s) (is_message frame) (Handled, bind_step stream.local frame now s) (Handled, s) (λ g f. absurd f) (λ g f. refl))
frame-stays (Bound peer) stream frame now s = λ f. refl
frame-stays Broken stream frame now s = λ f. refl

pub input-stays : (one : Input) → IsOfPeer (processed one).0 → (processed one).1 ≡ one.before
input-stays one = by one.stream one
  where
    by : (o : Option Stream) (t : Input) → Stays t.before (processed (record t { stream = o }))
    by None t = datagram-stays t.bytes t.time t.before
    by (Some stream) t = frame-stays stream.mode stream t.bytes t.time t.before

-- ---- a call

-- inputs of peers change the bytes in the streams alone
pub lead-stays : (inputs : List Input) (s t : State) → AllByRecursion (λ one. IsOfPeer (processed one).0) inputs → InputsLead inputs s t → t ≡ record s { streams = t.streams }
lead-stays [] s t all lead = lead.others
lead-stays (one ∷ later) s t all lead =
    lead-stays later (processed one).1 t all.1 lead.1
    ∙ ap (λ (u : State). record u { streams = t.streams }) (input-stays one all.0 ∙ lead.0.others)

-- over UDP a packet of a peer changes nothing
pub datagram-calm : (transport : TransportType) (from to : SocketAddr) (bytes : List ℕ) (now : ℕ) (carrier : TransportType) (s : State) → carrier ≡ Udp
    → let u = record s { transport = carrier } in Stays u (recv_step transport from to bytes now u)
datagram-calm transport from to bytes now Tcp s e = cc
datagram-calm transport from to bytes now Udp s e =
    let u = record s { transport = Udp } in
    by_test (Stays u) (is_from_server transport from u) _ (Ignored, u)
    (λ g. by_test (Stays u) (same_address to u.local) (datagram_step bytes now u) (Ignored, u) (λ h. datagram-stays bytes now u) (λ h f. refl)) (λ g f. refl)

-- ---- what is due

-- with other streams
pub idle-streams : (now time : ℕ) (streams : List Stream) (s : State) → IsIdleUntil now time s → IsIdleUntil now time (record s { streams = streams })
idle-streams now time streams s idle = record {
  sends_nothing = λ t from below. transmit-alike streams t s ∙ ap (both_with streams) (idle.sends_nothing t from below);
  ends_nothing = idle.ends_nothing;
  no_event = idle.no_event;
  no_offer = idle.no_offer;
  no_close = idle.no_close;
  grants_last = idle.grants_last;
}

module _ (t : ℕ) (s : State) (ids : Source) where
  u : State
  u = record s { ids = ids }

  -- where the first sends nothing and stays, the second does
  abbrev Alike : Option (Transmit (List ℕ)) × State → Option (Transmit (List ℕ)) × State → Type 0
  Alike x y = x ≡ (None, s) → y ≡ (None, record s { ids = ids })

  sends-never : (packet : Transmit (List ℕ)) (a : State) (y : Option (Transmit (List ℕ)) × State) → Alike (Some packet, a) y
  sends-never packet a y e = let no : Some packet ≡ None = ap (λ (x : Option (Transmit (List ℕ)) × State). x.0) e in cc

  reply-alike : Alike (reply_step s) (reply_step (record s { ids = ids }))
  reply-alike e =
      let none : slice_get (filter_map reply_in s.queue) 0 ≡ None = ap (λ (x : Option (Transmit (List ℕ)) × State). x.0) e in
      let same : without_first_reply s.queue ≡ s.queue = ap (λ (x : Option (Transmit (List ℕ)) × State). x.1.queue) e in
      rw (none, same) refl

  keepalive-alike : Alike (keepalive_step t s) (keepalive_step t (record s { ids = ids }))
  keepalive-alike = elim (cases_Bool (list_any (λ time. leb time t) (keepalive_times s))) [
    | inl due ↦ rw due (sends-never _ _ _)
    | inr not ↦ rw not (λ e. refl)
  ]

  able-alike : (g : Grant) → is_refreshable g (record s { ids = ids }) ≡ is_refreshable g s
  able-alike (Allocation a) = refl
  able-alike g = refl

  time-alike : (g : Grant) → refresh_time (record s { ids = ids }) g ≡ refresh_time s g
  unfolding refresh_time
  time-alike g = rw (able-alike g) refl

  due-alike : (g : Grant) → is_refresh_due t (record s { ids = ids }) g ≡ is_refresh_due t s g
  unfolding is_refresh_due
  due-alike g = rw (time-alike g) refl

  next-alike : next_refresh t (record s { ids = ids }) ≡ next_refresh t s
  next-alike = ap by (λ i g. due-alike g i)
    where
      of_rank : (Grant → Bool) → Relay → ℕ → List Purpose
      of_rank due a rank = filter_map (refresh_purpose t) (filter (λ g. is_ranked rank g && is_of (family_of a.relayed) g && due g) s.grants)

      by : (Grant → Bool) → Option Purpose
      by due = slice_get (flat_map (λ a. cond (leb t a.expiry) (flat_map (of_rank due a) (0 ∷ 1 ∷ 2 ∷ [])) []) (allocations s)) 0

  refresh-alike : Alike (refresh_step t s) (refresh_step t (record s { ids = ids }))
  refresh-alike = rw next-alike (elim (cases_Option (next_refresh t s)) [
    | inl none ↦ rw none keepalive-alike
    | inr (p, found) ↦ rw found (sends-never _ _ _)
  ])

  idle-alike : (p : Phase) → Alike (idle_step p t s) (idle_step p t (record s { ids = ids }))
  idle-alike New = sends-never _ _ _
  idle-alike Allocated = refresh-alike
  idle-alike p = λ e. refl

  queue-alike : Alike (queue_step t s) (queue_step t (record s { ids = ids }))
  queue-alike = rw next-alike (elim (cases_Option (next_queued t s)) [
    | inl none ↦ rw none (idle-alike s.phase)
    | inr (q, found) ↦ rw found (sends-never _ _ _)
  ])

  ids-alike : Alike (transmit_step t s) (transmit_step t (record s { ids = ids }))
  ids-alike = elim (cases_Option (due (agent_of s) t)) [
    | inl none ↦ rw none (elim (cases_Bool (is_paused t s)) [ inl paused ↦ rw paused reply-alike | inr not ↦ rw not queue-alike ])
    | inr (x, found) ↦ rw found (sends-never _ _ _)
  ]

-- with other IDs to come
pub idle-ids : (now time : ℕ) (ids : Source) (s : State) → IsIdleUntil now time s → IsIdleUntil now time (record s { ids = ids })
idle-ids now time ids s idle = record {
  sends_nothing = λ t from below. ids-alike t s ids (idle.sends_nothing t from below);
  ends_nothing = idle.ends_nothing;
  no_event = idle.no_event;
  no_offer = idle.no_offer;
  no_close = idle.no_close;
  grants_last = idle.grants_last;
}
