-- The purpose for which a request is made again, and listed: the first in order of those that the old one
-- is listed for.
use Rattle.turn_client_laws.proofs.Common.{◌≡◌, ◌⊎◌, ℕ, eqb, ltb, leb, Bool, true, false, not, cond, ◌&&◌, List, [], ◌∷◌, filter, length, Option, Some, None, refl, inl, inr, find, IfSome, is_some}
use Rattle.turn_client_laws.proofs.Common.{option_map_or, socket_ip, SocketAddr}
use Rattle.turn_client_laws.proofs.Machine.{id_of, Tcp, begins_message, IPV4, IPV6, Challenge, first_sent, Transaction, State, AllocationCreateFailed, DataConnection, Listing, Purpose, ForAllocation}
use Rattle.turn_client_laws.proofs.Machine.{Phase, New, Authenticating, Allocated, Mode, Control, Waiting, Stream, attempt_indicated, attempt_requested, bind_again, bind_answered, bind_step}
use Rattle.turn_client_laws.proofs.Machine.{connection_at, is_connected, accepts_attempt, not_bound, allocate_denied, allocate_granted, closed, transaction_ended, fail_all, family_not_supported}
use Rattle.turn_client_laws.proofs.Machine.{has_code, in_phase, find_allocation_to, is_connection_from, is_for_allocation, purposes_of, unlisted, wait, Judgement, Challenged, Fatal, ConnectionAttempt}
use Rattle.turn_client_laws.proofs.Machine.{SignedRequest, SignedSuccess, SignedError, bind_judgement, connection_id_in, is_bind_of, judgement_of, lifetime_in, method_in, peer_in, Outcome, Handled}
use Rattle.turn_client_laws.proofs.Machine.{Ignored, challenge_step, channel_sent, datagram_step, is_channel_frame, is_message, message_step, response_step, signed_step, wrong_step}
use Rattle.turn_client_laws.proofs.Machine.{connection_attempt_method, connection_bind_method, fresh_id, listings, request_for, requested, waits_from, retried, state_after_retry, with_held, frame_step, Has}
use Rattle.turn_client_laws.proofs.Machine.{has-right}
use Rattle.turn_client_laws.proofs.Laws.{Input, processed, IsMade, has-mapped, Adds, Never, adds-filter, adds-more, adds-same, adds-wider, on_test, requested-made, has-contains}
use Rattle.turn_agent.specs.Agent as A
use Rattle.turn_client_laws.proofs.MoveLemmas.{by_test}
use Rattle.turn_client_laws.proofs.MoveReplyLemmas.{response-fits}

-- the new request is for this alone, or for the first in order of what the old one is listed for
abbrev pub IsRetriedFor : List ℕ → State → Purpose → Purpose → Type 0
IsRetriedFor message s purpose p =
    (p ≡ purpose) ⊎ ((retried (purposes_of (id_of message) s) ≡ Some purpose) × Has p (purposes_of (id_of message) s))

abbrev pub IsRelisted : List ℕ → ℕ → State → State → Listing → Type 0
IsRelisted message now s t l = (purpose : Purpose) × IsMade purpose (waits_from now s) s t × (l.id ≡ fresh_id s) × IsRetriedFor message s purpose l.purpose

-- what is listed after the message was so before, or is listed so
abbrev pub Relists : List ℕ → ℕ → State → State → Type 0
Relists message now s t = Adds (IsRelisted message now s t) s.listed t.listed

still : (message : List ℕ) (now : ℕ) (s t : State) → Adds Never s.listed t.listed → Relists message now s t
still message now s t adds = adds-wider Never (IsRelisted message now s t) s.listed t.listed (λ l never. absurd never) adds

same : (message : List ℕ) (now : ℕ) (s t : State) → t.listed ≡ s.listed → Relists message now s t
same message now s t e = still message now s t (rw e (adds-same Never s.listed))

-- the listings of a request that is made for one purpose
relisted : (message : List ℕ) (now : ℕ) (s t : State) (purpose : Purpose) → IsMade purpose (waits_from now s) s t → (some : List Purpose) → ((p : Purpose) → Has p some → IsRetriedFor message s purpose p)
    → (l : Listing) → Has l (listings (fresh_id s) some) → IsRelisted message now s t l
relisted message now s t purpose made some each l there =
    let (p, h, e) = has-mapped (λ (p : Purpose). record { id = fresh_id s; purpose = p }) l some there in
    rw e (purpose, made, refl, each p h)

alone : (message : List ℕ) (s : State) (purpose p : Purpose) → Has p (purpose ∷ []) → IsRetriedFor message s purpose p
alone message s purpose p (inl e) = inl e
alone message s purpose p (inr none) = absurd none

-- ---- over the control connection

retry-relists : (message : List ℕ) (purpose : Purpose) (d : Challenge) (now : ℕ) (s : State) → retried (purposes_of (id_of message) s) ≡ Some purpose
    → Relists message now s (state_after_retry s (id_of message) purpose d now)
retry-relists message purpose d now s first =
    adds-more _ s.listed s.listed _ (adds-same _ s.listed) (relisted message now s t purpose made (purposes_of (id_of message) s) (λ p h. inr (first, h)))
  where
    t : State
    t = state_after_retry s (id_of message) purpose d now

    x : Transaction
    x = first_sent (fresh_id s) t.remote (waits_from now s) (request_for t purpose (fresh_id s))

    made : IsMade purpose (waits_from now s) s t
    made = record {
      text = request_for t purpose (fresh_id s);
      spelled = inl refl;
      outstanding = has-contains x t.transactions (has-right x (A.without_transaction (id_of message) s.transactions) (x ∷ []) (inl refl));
    }

challenge-relists : (message : List ℕ) (d : Challenge) (now : ℕ) (s : State) → Relists message now s (challenge_step message d now s).1
challenge-relists message d now s =
    by_test (Relists message now s) (ltb s.challenges s.config.max_stale_nonces) _ (Handled, closed (fail_all s)) (by (retried (purposes_of (id_of message) s)) (λ p e. e))
    (still message now s (closed (fail_all s)) (adds-filter Never _ s.listed))
  where
    by : (o : Option Purpose) → ((p : Purpose) → o ≡ Some p → retried (purposes_of (id_of message) s) ≡ Some p)
        → Relists message now s (option_map_or {T = Purpose} {U = Outcome × State} (λ purpose. (Handled, state_after_retry s (id_of message) purpose d now)) o (Ignored, s)).1
    by None is = same message now s s refl
    by (Some purpose) is = retry-relists message purpose d now s (is purpose refl)

wrong-relists : (p : Phase) (message : List ℕ) (now : ℕ) (s : State) → Relists message now (record s { phase = p }) (wrong_step message (record s { phase = p })).1
wrong-relists New message now s = still message now (record s { phase = New }) _ (adds-filter Never _ s.listed)
wrong-relists p message now s = still message now (record s { phase = p }) _ (adds-filter Never _ s.listed)

granted-relists : (message : List ℕ) (now : ℕ) (s : State) → Relists message now s (allocate_granted message now (transaction_ended (id_of message) s))
granted-relists message now s = by (lifetime_in message) refl
  where
    by : (o : Option ℕ) → lifetime_in message ≡ o → Relists message now s (allocate_granted message now (transaction_ended (id_of message) s))
    by None e = rw e (still message now s _ (adds-filter Never _ s.listed))
    by (Some lifetime) e = rw e (still message now s _ (adds-filter Never _ s.listed))

denied-relists : (message : List ℕ) (now : ℕ) (s : State) → Relists message now s (allocate_denied (fresh_id s) message now (transaction_ended (id_of message) s))
denied-relists message now s = by (has_code family_not_supported message && leb 2 (length s.families)) refl
  where
    u : State
    u = wait (AllocationCreateFailed IPV4 ∷ []) (record (in_phase s.phase (transaction_ended (id_of message) s)) { families = IPV6 ∷ [] })

    by : (b : Bool) → (has_code family_not_supported message && leb 2 (length s.families)) ≡ b → Relists message now s (allocate_denied (fresh_id s) message now (transaction_ended (id_of message) s))
    by false e = rw e (still message now s _ (adds-filter Never _ s.listed))
    by true e = rw e (
        adds-more _ s.listed (filter (λ l. not (is_for_allocation l.purpose)) s.listed) _ (adds-filter _ _ s.listed)
        (relisted message now s (requested (fresh_id s) ForAllocation now u) ForAllocation (requested-made ForAllocation now s u) (ForAllocation ∷ []) (alone message s ForAllocation))
        )

reply-relists : (is_granted : Bool) (message : List ℕ) (now : ℕ) (s : State) → Relists message now s (response_step is_granted message now s).1
reply-relists is_granted message now s = still message now s _ (response-fits is_granted message now s).1

signed-relists : (is_granted : Bool) (p : Phase) (message : List ℕ) (now : ℕ) (s : State) → Relists message now (record s { phase = p }) (signed_step is_granted message now (record s { phase = p })).1
signed-relists true Authenticating message now s = granted-relists message now (record s { phase = Authenticating })
signed-relists false Authenticating message now s = denied-relists message now (record s { phase = Authenticating })
signed-relists b p message now s = reply-relists b message now (record s { phase = p })

-- ---- what the server requests lists nothing

requested-listed : (message : List ℕ) (s : State) → (attempt_requested message s).listed ≡ s.listed
requested-listed message s = by (connection_id_in message) refl (peer_in message) refl
  where
    by : (i : Option ℕ) → connection_id_in message ≡ i → (p : Option SocketAddr) → peer_in message ≡ p → (attempt_requested message s).listed ≡ s.listed
    by (Some id) e (Some peer) f =
        rw (e, f) (on_test (λ t. t.listed ≡ s.listed) (not (is_some (find_allocation_to Tcp (socket_ip peer) s))) _ _ refl (on_test (λ t. t.listed ≡ s.listed) (is_connected peer s) _ _ refl refl))
    by (Some id) e None f = rw (e, f) refl
    by None e p f = rw e refl

indicated-listed : (message : List ℕ) (s : State) → IfSome (attempt_indicated message s) (λ t. t.listed ≡ s.listed)
indicated-listed message s = by (connection_id_in message) refl (peer_in message) refl
  where
    accepted_if : (b : Bool) (t : State) → t.listed ≡ s.listed → IfSome (cond b (Some t) None) (λ u. u.listed ≡ s.listed)
    accepted_if true t k = k
    accepted_if false t k = tt

    by : (i : Option ℕ) → connection_id_in message ≡ i → (p : Option SocketAddr) → peer_in message ≡ p → IfSome (attempt_indicated message s) (λ t. t.listed ≡ s.listed)
    by (Some id) e (Some peer) f = rw (e, f) (accepted_if (accepts_attempt peer s) _ refl)
    by (Some id) e None f = rw (e, f) tt
    by None e p f = rw e tt

-- ---- a whole message

message-relists : (message : List ℕ) (now : ℕ) (s : State) → Relists message now s (message_step message now s).1
message-relists message now s = by (judgement_of s message) refl
  where
    indicated : (o : Option State) → IfSome o (λ t. t.listed ≡ s.listed) → Relists message now s (option_map_or {T = State} {U = Outcome × State} (λ t. (Handled, t)) o (Ignored, s)).1
    indicated None k = same message now s s refl
    indicated (Some t) k = same message now s t k

    by : (j : Judgement) → judgement_of s message ≡ j → Relists message now s (message_step message now s).1
    by (Challenged d) e = rw e (challenge-relists message d now s)
    by Fatal e = rw e (wrong-relists s.phase message now s)
    by ConnectionAttempt e = rw e (indicated (attempt_indicated message s) (indicated-listed message s))
    by SignedRequest e = rw e (by_test (Relists message now s) (eqb (method_in message) connection_attempt_method)
        (Handled, attempt_requested message s) (Ignored, s) (same message now s _ (requested-listed message s)) (same message now s s refl))
    by SignedSuccess e = rw e (signed-relists true s.phase message now s)
    by SignedError e = rw e (signed-relists false s.phase message now s)
    by j e = rw e (same message now s s refl)

-- ---- connections that wait to be bound

again-relists : (c : DataConnection) (message : List ℕ) (d : Challenge) (now : ℕ) (s : State) → Relists message now s (bind_again c (id_of message) d now s)
again-relists c message d now s = by (find (is_bind_of c.local) (purposes_of (id_of message) s)) refl
  where
    u : State
    u = unlisted (is_connection_from c.local) (with_held d s)

    by : (o : Option Purpose) → find (is_bind_of c.local) (purposes_of (id_of message) s) ≡ o → Relists message now s (bind_again c (id_of message) d now s)
    by None e = rw e (same message now s s refl)
    by (Some purpose) e =
        let asked = requested (fresh_id s) purpose now u in
        let made : IsMade purpose (waits_from now s) s asked = record { text = request_for u purpose (fresh_id s); spelled = inl refl; outstanding = (requested-made purpose now s u).outstanding } in
        rw e (
        adds-more _ s.listed u.listed (listings (fresh_id s) (purpose ∷ [])) (adds-filter _ _ s.listed)
        (relisted message now s _ purpose (record { text = made.text; spelled = made.spelled; outstanding = made.outstanding }) (purpose ∷ []) (alone message s purpose))
        )

answered-relists : (c : DataConnection) (message : List ℕ) (now : ℕ) (s : State) → Relists message now s (bind_answered c message now s)
answered-relists c message now s = by (bind_judgement s c.local message) refl
  where
    unbound : Relists message now s (not_bound c s)
    unbound = still message now s (not_bound c s) (adds-filter Never _ s.listed)

    by : (j : Judgement) → bind_judgement s c.local message ≡ j → Relists message now s (bind_answered c message now s)
    by (Challenged d) e = rw e (again-relists c message d now s)
    by SignedSuccess e = rw e (still message now s _ (adds-filter Never _ s.listed))
    by SignedError e = rw e (still message now s _ (adds-filter Never _ s.listed))
    by j e = rw e unbound

bind_in_phase : (p : Phase) (local : SocketAddr) (message : List ℕ) (now : ℕ) (s : State) → Relists message now (record s { phase = p }) (bind_step local message now (record s { phase = p }))
bind_in_phase Allocated local message now s = by (connection_at local s) refl
  where
    u : State
    u = record s { phase = Allocated }

    by : (o : Option DataConnection) → connection_at local s ≡ o → Relists message now u (bind_step local message now u)
    by None e = rw e (same message now u u refl)
    by (Some c) e = rw e (on_test (Relists message now u) (eqb (method_in message) connection_bind_method) (bind_answered c message now u) u (answered-relists c message now u)
        (same message now u u refl))
bind_in_phase p local message now s = same message now (record s { phase = p }) _ refl

-- ---- datagrams and frames

frame_in_mode : (m : Mode) (stream : Stream) (bytes : List ℕ) (now : ℕ) (s : State) → Relists bytes now s (frame_step (record stream { mode = m }) bytes now s).1
frame_in_mode Control stream bytes now s =
    by_test (Relists bytes now s) (not (begins_message bytes)) (channel_sent s bytes, s) _ (same bytes now s s refl)
    (by_test (Relists bytes now s) (is_message bytes) (message_step bytes now s) (Handled, s) (message-relists bytes now s) (same bytes now s s refl))
frame_in_mode Waiting stream bytes now s =
    by_test (Relists bytes now s) (not (begins_message bytes)) (Ignored, s) _ (same bytes now s s refl)
    (by_test (Relists bytes now s) (is_message bytes) (Handled, bind_step stream.local bytes now s) (Handled, s) (bind_in_phase s.phase stream.local bytes now s) (same bytes now s s refl))
frame_in_mode m stream bytes now s = same bytes now s s refl

datagram-relists : (bytes : List ℕ) (now : ℕ) (s : State) → Relists bytes now s (datagram_step bytes now s).1
datagram-relists bytes now s =
    by_test (Relists bytes now s) (is_message bytes) (message_step bytes now s) _ (message-relists bytes now s)
    (by_test (Relists bytes now s) (is_channel_frame bytes) (channel_sent s bytes, s) (Ignored, s) (same bytes now s s refl) (same bytes now s s refl))

pub input-relists : (one : Input) → Relists one.bytes one.time one.before (processed one).1
input-relists one = elim one.stream as (λ o. Relists one.bytes one.time one.before (processed (record one { stream = o })).1) [
  | None ↦ datagram-relists one.bytes one.time one.before
  | Some stream ↦ frame_in_mode stream.mode stream one.bytes one.time one.before
]
