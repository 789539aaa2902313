-- Which packets messages queue, and which requests they make.
use Rattle.turn_client_laws.proofs.Common.{◌≡◌, ◌⊎◌, ℕ, Bool, true, false, not, cond, ◌&&◌, ◌||◌, eqb, leb, ltb, List, [], ◌∷◌, ◌++◌, fold, length, Option, Some, None, refl, inl, inr, ◌∙◌, codes, IsSome, subst, sym}
use Rattle.turn_client_laws.proofs.Common.{find, is_some, socket_ip, IpAddr, SocketAddr}
use Rattle.turn_client_laws.proofs.Machine.{Challenge, id_of, Tcp, AddressFamily, IPV4, IPV6, State, AllocationCreateFailed, DataConnection, Listing, ServerIndication, ServerRequest, Progress, Active, Transaction, challenge_in, challenged_or, first_allocate, request_for, to_server, Unrelated, has-filter, requesting_judgement}
use Rattle.turn_client_laws.proofs.Machine.{Pending, Purpose, ForAllocation, ForBind, ForChannel, ForConnect, ForPermission, ForRefresh, Phase, Authenticating, Queued, attempt_indicated}
use Rattle.turn_client_laws.proofs.Machine.{attempt_requested, bind_again, bind_answered, bind_step, bound, is_connected, not_bound, allocate_denied, allocate_granted, allocated, allocation_mismatch}
use Rattle.turn_client_laws.proofs.Machine.{challenges_reset, channel_answered, closed, connect_answered, effect, all_gone, fail_all, family_not_supported, has_code, in_phase, min_lifetime}
use Rattle.turn_client_laws.proofs.Machine.{permission_answered, permission_answered_for, prolonged, refreshed, relayed_in, taken_addresses, transaction_ended, with_offer, channel_at}
use Rattle.turn_client_laws.proofs.Machine.{find_allocation_to, first_in, is_connection_from, permission_state, purposes_of, unlisted, wait, Challenged, ConnectionAttempt, Fatal, Judgement}
use Rattle.turn_client_laws.proofs.Machine.{SignedError, SignedRequest, SignedSuccess, bind_judgement, connection_id_in, is_bind_of, judgement_of, lifetime_in, method_in, peer_in, Handled, Ignored}
use Rattle.turn_client_laws.proofs.Machine.{Outcome, answered_purposes, challenge_step, message_step, response_step, signed_step, wrong_step, connection_attempt_method}
use Rattle.turn_client_laws.proofs.Machine.{bad_request, fresh_id, refused_reply, replied, requested, retried, state_after_retry, with_held, Has, has-found}
use Rattle.turn_client_laws.proofs.Laws.{bind-by, by_found, by_accepted, by_test, indicated-by, purposes-listed, Adds, adds-one, adds-same, Challenged-is, bind-is, retried-has}
use Rattle.turn_stun.specs.Refusal.{Refusal}
use Rattle.turn_client_laws.specs.LawsStates.{HoldsChallenge, IsHeldIn}
use Rattle.turn_client_runs.specs.Leaving.{refusals}
use Rattle.turn_client_runs.proofs.AppendLemmas.{has-last}
use Rattle.turn_client_runs.proofs.SentTexts.{IsElse, Requests, Responds, retried-else}
use Rattle.turn_client_laws.proofs.Machine.{Allocated, Requesting, answers_one, is_kept}

-- ---- what a client may queue and await

-- This is asked, and signed under such a challenge.
module _ (Asked : Purpose → Type 0) (Taken : Challenge → Type 0) (s : State) where
  -- a request that binds no data connection, or a response
  abbrev pub IsControlText : List ℕ → Type 0
  IsControlText text = ((p : Purpose) × IsElse p × Asked p × Requests Taken s.config p text) ⊎ Responds Taken s.config text

  -- a request that binds the data connection from this local address
  abbrev pub IsBindText : SocketAddr → List ℕ → Type 0
  IsBindText local text = (peer : SocketAddr) × (id : ℕ) × Asked (ForBind local peer id) × Requests Taken s.config (ForBind local peer id) text

  -- the packet goes to the server, from the control address, or binds a data connection over itself
  abbrev pub GoesOut : Queued → Type 0
  GoesOut q =
      (q.packet.transport ≡ s.transport) × (q.packet.to ≡ s.remote)
      × (((q.packet.from ≡ s.local) × IsControlText q.packet.payload) ⊎ IsBindText q.packet.from q.packet.payload)

  -- the first ALLOCATE, which is not signed
  abbrev pub IsFirstText : List ℕ → Type 0
  IsFirstText text = (u : State) × (u.config ≡ s.config) × ((id : ℕ) × (text ≡ first_allocate u id))

  abbrev pub IsRequestText : List ℕ → Type 0
  IsRequestText text = ((p : Purpose) × Asked p × Requests Taken s.config p text) ⊎ IsFirstText text

  -- a request with these bytes was outstanding, or it is one of these
  abbrev pub IsOutstandingText : List ℕ → Type 0
  IsOutstandingText text = ((y : Transaction) × Has y s.transactions × (text ≡ y.request)) ⊎ IsRequestText text

  -- What is queued later was queued before, or goes out so; what is outstanding was so before, or is requested so; and such a
  -- challenge is held.
  abbrev pub Queues : State → Type 0
  Queues t =
      Adds GoesOut s.queue t.queue × ((x : Transaction) → Has x t.transactions → IsOutstandingText x.request)
      × ((d : Challenge) → t.held ≡ Some d → Taken d)

  -- fewer requests are outstanding
  pub fewer-outstanding : (xs : List Transaction) → ((x : Transaction) → Has x xs → Has x s.transactions) → (x : Transaction) → Has x xs → IsOutstandingText x.request
  fewer-outstanding xs within x there = inl (x, within x there, refl)

  -- and one more
  pub one-outstanding : (xs : List Transaction) (new : Transaction) → ((x : Transaction) → Has x xs → Has x s.transactions) → IsRequestText new.request
      → (x : Transaction) → Has x (xs ++ new ∷ []) → IsOutstandingText x.request
  one-outstanding xs new within is x there = elim (has-last x xs new there) [
    | inl old ↦ fewer-outstanding xs within x old
    | inr e ↦ inr (subst (λ (y : Transaction). IsRequestText y.request) (sym e) is)
  ]

  pub queues-same : (t : State) → t.queue ≡ s.queue → ((x : Transaction) → Has x t.transactions → Has x s.transactions) → ((d : Challenge) → t.held ≡ Some d → Taken d) → Queues t
  queues-same t e within held = (rw e (adds-same GoesOut s.queue), fewer-outstanding t.transactions within, held)

  -- one packet more from the control address
  pub one-queued : (from : SocketAddr) (text : List ℕ) (is_request : Bool) → from ≡ s.local → IsControlText text
      → Adds GoesOut s.queue (s.queue ++ record { packet = to_server s from text; is_request = is_request } ∷ [])
  one-queued from text is_request e is = adds-one GoesOut s.queue s.queue _ (adds-same GoesOut s.queue) (refl, refl, inl (e, is))

-- ---- the effects of a signed reply queue nothing, and make no request

abbrev Quiet : State → State → Type 0
Quiet s t = (t.queue ≡ s.queue) × (t.transactions ≡ s.transactions) × (t.held ≡ s.held)

then-quiet : (s t u : State) → Quiet s t → Quiet t u → Quiet s u
then-quiet s t u (e, f, g) (h, i, j) = (h ∙ e, i ∙ f, j ∙ g)

permission-quiet : (ip : IpAddr) (is_granted : Bool) (now : ℕ) (s : State) → Quiet s (permission_answered ip is_granted now s)
permission-quiet ip is_granted now s = by (permission_state ip s) refl is_granted
  where
    by : (o : Option Progress) → permission_state ip s ≡ o → (g : Bool) → Quiet s (permission_answered ip g now s)
    by (Some (Pending is_kept)) e true = rw e (refl, refl, refl)
    by (Some (Pending is_kept)) e false = rw e (refl, refl, refl)
    by (Some (Active lease)) e true = rw e (refl, refl, refl)
    by (Some (Active lease)) e false = rw e (refl, refl, refl)
    by o e g = rw e (refl, refl, refl)

permissions-quiet : (is_granted : Bool) (now : ℕ) (purposes : List Purpose) (s : State) → Quiet s (fold (permission_answered_for is_granted now) s purposes)
permissions-quiet is_granted now [] s = (refl, refl, refl)
permissions-quiet is_granted now (p ∷ purposes) s =
    let t = permission_answered_for is_granted now s p in
    then-quiet s t (fold (permission_answered_for is_granted now) t purposes) (one p) (permissions-quiet is_granted now purposes t)
  where
    one : (p : Purpose) → Quiet s (permission_answered_for is_granted now s p)
    one (ForPermission ip) = permission-quiet ip is_granted now s
    one p = (refl, refl, refl)

channel-quiet : (number id : ℕ) (is_granted : Bool) (now : ℕ) (s : State) → Quiet s (channel_answered number id is_granted now s)
channel-quiet number id is_granted now s = by (first_in (channel_at number) s) refl is_granted
  where
    by : (o : Option (SocketAddr × Progress)) → first_in (channel_at number) s ≡ o → (g : Bool) → Quiet s (channel_answered number id g now s)
    by (Some (peer, Pending is_kept)) e true = rw e (permissions-quiet true now (purposes_of id s) s)
    by (Some (peer, Pending is_kept)) e false = rw e (refl, refl, refl)
    by (Some (peer, Active lease)) e true = rw e (refl, refl, refl)
    by (Some (peer, Active lease)) e false = rw e (refl, refl, refl)
    by o e g = rw e (refl, refl, refl)

refreshed-quiet : (family : AddressFamily) (lifetime : ℕ) (is_granted : Bool) (message : List ℕ) (now : ℕ) (s : State) → Quiet s (refreshed family lifetime is_granted message now s)
refreshed-quiet family lifetime is_granted message now s =
    by_test (Quiet s) (eqb lifetime 0) _ _
    (λ e. by_test (Quiet s) (is_granted || has_code allocation_mismatch message) (challenges_reset (all_gone s)) s (λ f. (refl, refl, refl)) (λ f. (refl, refl, refl)))
    (λ e. by_test (Quiet s) is_granted _ s
    (λ f. by_found (Quiet s) (λ granted. prolonged family granted now s) (lifetime_in message) s
    (λ granted g. by_test (Quiet s) (leb min_lifetime granted) _ s (λ h. (refl, refl, refl)) (λ h. (refl, refl, refl))) (refl, refl, refl))
    (λ f. (refl, refl, refl)))

effect-quiet : (id : ℕ) (is_granted : Bool) (message : List ℕ) (now : ℕ) (s : State) (p : Purpose) → Quiet s (effect id is_granted message now s p)
effect-quiet id is_granted message now s (ForRefresh family lifetime) = refreshed-quiet family lifetime is_granted message now s
effect-quiet id is_granted message now s (ForPermission ip) = permission-quiet ip is_granted now s
effect-quiet id is_granted message now s (ForChannel number peer) = channel-quiet number id is_granted now s
effect-quiet id is_granted message now s (ForConnect peer) = by (cond is_granted (connection_id_in message) None)
  where
    by : (o : Option ℕ) → Quiet s (challenges_reset (connect_answered peer o s))
    by (Some connection_id) = (refl, refl, refl)
    by None = (refl, refl, refl)
effect-quiet id is_granted message now s p = (refl, refl, refl)

effects-quiet : (id : ℕ) (is_granted : Bool) (message : List ℕ) (now : ℕ) (purposes : List Purpose) (s : State) → Quiet s (fold (effect id is_granted message now) s purposes)
effects-quiet id is_granted message now [] s = (refl, refl, refl)
effects-quiet id is_granted message now (p ∷ purposes) s =
    let t = effect id is_granted message now s p in
    then-quiet s t (fold (effect id is_granted message now) t purposes) (effect-quiet id is_granted message now s p) (effects-quiet id is_granted message now purposes t)

-- ---- a message

-- something is held while the client requests an allocation again, or has one
pub held-some : (o : Option Challenge) → IsSome o → (d : Challenge) × (o ≡ Some d)
held-some (Some d) some = (d, refl)
held-some None some = cc

-- A request is listed for this; or it is an ALLOCATE.
abbrev pub IsListedOrFirst : State → Purpose → Type 0
IsListedOrFirst s p = ((l : Listing) × Has l s.listed × (l.purpose ≡ p)) ⊎ (p ≡ ForAllocation)

-- the challenge was held before, or the message is it
abbrev pub IsTakenBy : List ℕ → State → Challenge → Type 0
IsTakenBy message s d = (s.held ≡ Some d) ⊎ (challenge_in s message ≡ Some d)

module _ (message : List ℕ) (now : ℕ) (s : State) where
  abbrev After : State → Type 0
  After t = Queues (IsListedOrFirst s) (IsTakenBy message s) s t

  -- the request that the message answers is outstanding no more
  left : List Transaction
  left = (transaction_ended (id_of message) s).transactions

  within-left : (x : Transaction) → Has x (transaction_ended (id_of message) s).transactions → Has x s.transactions
  within-left x there = (has-filter _ x s.transactions there).0

  same : (t : State) → Quiet s t → After t
  same t (e, f, g) = queues-same (IsListedOrFirst s) (IsTakenBy message s) s t e (λ x there. subst (Has x) f there) (λ d held. inl (sym g ∙ held))

  ended : (t : State) → Quiet (transaction_ended (id_of message) s) t → After t
  ended t (e, f, g) =
      queues-same (IsListedOrFirst s) (IsTakenBy message s) s t e (λ x there. within-left x (subst (Has x) f there)) (λ d held. inl (sym g ∙ held))

  -- what is held before or after is held so
  was-held : (d : Challenge) → s.held ≡ Some d → IsTakenBy message s d
  was-held d held = inl held

  now-held : (d : Challenge) → challenge_in s message ≡ Some d → (c : Challenge) → ◌≡◌ {A = Option Challenge} (Some d) (Some c) → IsTakenBy message s c
  now-held d is c e = inr (is ∙ e)

  -- a request is made under this challenge, in place of the one that the message answers
  abbrev Request : State → Purpose → List ℕ
  Request u p = request_for u p (fresh_id s)

  asked : (p : Purpose) → Has p (purposes_of (id_of message) s) → IsListedOrFirst s p
  asked p there = inl (purposes-listed (id_of message) s p there)

  under : (u : State) (d : Challenge) → u.config ≡ s.config → u.held ≡ Some d → IsTakenBy message s d → (p : Purpose) → Requests (IsTakenBy message s) s.config p (Request u p)
  under u d config held taken p = (u, (config, (d, held, taken)), (fresh_id s, refl))

  challenge-queues : (d : Challenge) → challenge_in s message ≡ Some d → After (challenge_step message d now s).1
  unfolding left
  challenge-queues d is =
      by_test (λ (x : Outcome × State). After x.1) (ltb s.challenges s.config.max_stale_nonces) _ (Handled, closed (fail_all s))
      (λ few. by_found (λ (x : Outcome × State). After x.1) again (retried (purposes_of (id_of message) s)) (Ignored, s) made (same s (refl, refl, refl)))
      (λ many. same (closed (fail_all s)) (refl, refl, refl))
    where
      again : Purpose → Outcome × State
      again purpose = (Handled, state_after_retry s (id_of message) purpose d now)

      made : (purpose : Purpose) → retried (purposes_of (id_of message) s) ≡ Some purpose → After (again purpose).1
      made purpose e =
          let listed = asked purpose (retried-has (purposes_of (id_of message) s) purpose e) in
          let text = under (again purpose).1 d refl refl (inr is) purpose in (
            one-queued (IsListedOrFirst s) (IsTakenBy message s) s s.local (Request (again purpose).1 purpose) true refl
                (inl (purpose, retried-else (purposes_of (id_of message) s) purpose e, listed, text)),
            one-outstanding (IsListedOrFirst s) (IsTakenBy message s) s left _ within-left (inl (purpose, listed, text)),
            now-held d is,
          )

  wrong-queues : (p : Phase) → After (wrong_step message (record s { phase = p })).1
  wrong-queues Requesting = ended (wrong_step message (record s { phase = Requesting })).1 (refl, refl, refl)
  wrong-queues p = same (wrong_step message (record s { phase = p })).1 (refl, refl, refl)

  granted-queues : After (allocate_granted message now (transaction_ended (id_of message) s))
  granted-queues =
      let u = transaction_ended (id_of message) s in
      ended (allocate_granted message now u)
      (by_found (Quiet u) (λ lifetime. allocated lifetime (taken_addresses s.families (relayed_in message)) now u) (lifetime_in message) (closed (fail_all u)) (λ lifetime e. (refl, refl, refl)) (refl, refl, refl))

  denied-queues : IsSome s.held → After (allocate_denied (fresh_id s) message now (transaction_ended (id_of message) s))
  unfolding left
  denied-queues some =
      by_test After (has_code family_not_supported message && leb 2 (length s.families)) (requested (fresh_id s) ForAllocation now u) (closed (fail_all (transaction_ended (id_of message) s)))
      (λ e.
      let (d, held) = held-some s.held some in
      let text = under u d refl held (inl held) ForAllocation in (
        one-queued (IsListedOrFirst s) (IsTakenBy message s) s s.local (Request u ForAllocation) true refl (inl (ForAllocation, tt, inr refl, text)),
        one-outstanding (IsListedOrFirst s) (IsTakenBy message s) s left _ within-left (inl (ForAllocation, inr refl, text)),
        was-held,
      ))
      (λ e. ended (closed (fail_all (transaction_ended (id_of message) s))) (refl, refl, refl))
    where
      u : State
      u = wait (AllocationCreateFailed IPV4 ∷ []) (record (in_phase s.phase (transaction_ended (id_of message) s)) { families = IPV6 ∷ [] })

  reply-queues : (is_granted : Bool) → After (response_step is_granted message now s).1
  reply-queues is_granted = ended (response_step is_granted message now s).1 (effects-quiet (id_of message) is_granted message now (answered_purposes message s) (transaction_ended (id_of message) s))

  -- the server's request for a data connection is refused
  module _ (some : IsSome s.held) where
    refused-queues : (r : Refusal) → Has r refusals → After (replied (refused_reply r.code r.reason s (id_of message)) s)
    refused-queues r listed =
        let (d, held) = held-some s.held some in (
          one-queued (IsListedOrFirst s) (IsTakenBy message s) s s.local (refused_reply r.code r.reason s (id_of message)) false refl
              (inr (s, (refl, (d, held, inl held)), (id_of message, inr (r, listed, refl)))),
          fewer-outstanding (IsListedOrFirst s) (IsTakenBy message s) s s.transactions (λ x there. there),
          was-held,
        )

    bad : After (replied (refused_reply bad_request (codes "Bad Request") s (id_of message)) s)
    bad = refused-queues (record { code = 400; reason = codes "Bad Request" }) (inl refl)

    attempt-queues : After (attempt_requested message s)
    attempt-queues = by (connection_id_in message) refl (peer_in message) refl
      where
        by : (i : Option ℕ) → connection_id_in message ≡ i → (p : Option SocketAddr) → peer_in message ≡ p → After (attempt_requested message s)
        by (Some id) e (Some peer) f =
            rw (e, f)
            (by_test After (not (is_some (find_allocation_to Tcp (socket_ip peer) s))) _ _ (λ g. bad)
            (λ g. by_test After (is_connected peer s) _ _ (λ h. refused-queues (record { code = 446; reason = codes "Connection Already Exists" }) (inr (inl refl)))
            (λ h. same (with_offer id peer (ServerRequest (id_of message)) s) (refl, refl, refl))))
        by (Some id) e None f = rw (e, f) bad
        by None e p f = rw e bad

  -- ---- over a connection that waits to be bound

  bind-listed : (local : SocketAddr) (p : Purpose) (d : Challenge) → challenge_in s message ≡ Some d → Has p (purposes_of (id_of message) s) → is_bind_of local p ≡ true
      → (u : State) → u.config ≡ s.config → u.transport ≡ s.transport → u.remote ≡ s.remote → u.held ≡ Some d
      → u.queue ≡ s.queue → u.transactions ≡ s.transactions → After (requested (fresh_id s) p now u)
  bind-listed local (ForBind from peer id) d is there to_bind u config transport to held queue transactions =
      let listed = asked (ForBind from peer id) there in
      let text = under u d config held (inr is) (ForBind from peer id) in (
        rw queue (adds-one (GoesOut (IsListedOrFirst s) (IsTakenBy message s) s) s.queue s.queue _ (adds-same _ s.queue) (transport, to, inr (peer, id, listed, text))),
        one-outstanding (IsListedOrFirst s) (IsTakenBy message s) s u.transactions _ (λ x h. subst (Has x) transactions h) (inl (ForBind from peer id, listed, text)),
        λ c e. inr (is ∙ (sym held ∙ e)),
      )
  bind-listed local p d is there to_bind u config transport to held queue transactions = cc

  again-queues : (c : DataConnection) (d : Challenge) → challenge_in s message ≡ Some d → After (bind_again c (id_of message) d now s)
  again-queues c d is = by (find (is_bind_of c.local) (purposes_of (id_of message) s)) refl
    where
      by : (o : Option Purpose) → find (is_bind_of c.local) (purposes_of (id_of message) s) ≡ o → After (bind_again c (id_of message) d now s)
      by None e = rw e (same s (refl, refl, refl))
      by (Some purpose) e =
          let (there, to_bind) = has-found (is_bind_of c.local) purpose (purposes_of (id_of message) s) e in
          rw e (bind-listed c.local purpose d is there to_bind (unlisted (is_connection_from c.local) (with_held d s)) refl refl refl refl refl refl)

  answered-queues : (c : DataConnection) → After (bind_answered c message now s)
  answered-queues c = by (bind_judgement s c.local message) refl
    where
      by : (j : Judgement) → bind_judgement s c.local message ≡ j → After (bind_answered c message now s)
      by (Challenged d) e = rw e (again-queues c d (bind-is s c.local message d e))
      by SignedSuccess e = rw e (ended (bound c (transaction_ended (id_of message) s)) (refl, refl, refl))
      by SignedError e = rw e (ended (not_bound c (transaction_ended (id_of message) s)) (refl, refl, refl))
      by j e = rw e (same (not_bound c s) (refl, refl, refl))

  pub bind-queues : (local : SocketAddr) → After (bind_step local message now s)
  bind-queues local = bind-by After local message now s (same s (refl, refl, refl)) (λ c phase found method. answered-queues c)

-- ---- a whole message

signed-queues : (p : Phase) (is_granted : Bool) (message : List ℕ) (now : ℕ) (s : State) → IsHeldIn p s.held
    → After message now (record s { phase = p }) (signed_step is_granted message now (record s { phase = p })).1
signed-queues Authenticating true message now s held = granted-queues message now (record s { phase = Authenticating })
signed-queues Authenticating false message now s held = denied-queues message now (record s { phase = Authenticating }) held
signed-queues p is_granted message now s held = reply-queues message now (record s { phase = p }) is_granted

-- before the first challenge nothing is signed
requesting-unsigned : (b : Bool) (o : Option Challenge) → cond b (challenged_or Fatal o) Unrelated ≡ SignedRequest → ⊥
requesting-unsigned true (Some d) e = cc
requesting-unsigned b o e = cc

request-held : (message : List ℕ) (s : State) → HoldsChallenge s → judgement_of s message ≡ SignedRequest → IsSome s.held
request-held message s holds judged = by s.phase refl
  where
    by : (p : Phase) → s.phase ≡ p → IsSome s.held
    by Authenticating e = subst (λ (p : Phase). IsHeldIn p s.held) e holds
    by Allocated e = subst (λ (p : Phase). IsHeldIn p s.held) e holds
    by Requesting e =
        let is : judgement_of s message ≡ requesting_judgement s message = rw e refl in
        absurd (requesting-unsigned (answers_one s message) (challenge_in s message) (sym is ∙ judged))
    by p e = let no : Unrelated ≡ SignedRequest = rw e at judged in cc

pub message-queues : (message : List ℕ) (now : ℕ) (s : State) → HoldsChallenge s → Queues (IsListedOrFirst s) (IsTakenBy message s) s (message_step message now s).1
message-queues message now s holds = by (judgement_of s message) refl
  where
    by : (j : Judgement) → judgement_of s message ≡ j → After message now s (message_step message now s).1
    by (Challenged d) e = rw e (challenge-queues message now s d (Challenged-is s message d e))
    by Fatal e = rw e (wrong-queues message now s s.phase)
    by ConnectionAttempt e =
        rw e (by_accepted (After message now s) (attempt_indicated message s) s
        (indicated-by (After message now s) message s (λ id peer accepts. same message now s (with_offer id peer ServerIndication s) (refl, refl, refl))) (same message now s s (refl, refl, refl)))
    by SignedRequest e =
        rw e (by_test (λ (x : Outcome × State). After message now s x.1) (eqb (method_in message) connection_attempt_method) (Handled, attempt_requested message s) (Ignored, s)
        (λ is. attempt-queues message now s (request-held message s holds e)) (λ other. same message now s s (refl, refl, refl)))
    by SignedSuccess e = rw e (signed-queues s.phase true message now s holds)
    by SignedError e = rw e (signed-queues s.phase false message now s holds)
    by j e = rw e (same message now s s (refl, refl, refl))
