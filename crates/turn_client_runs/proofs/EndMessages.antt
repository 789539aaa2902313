-- Which message ends a client.
use Rattle.turn_client_laws.proofs.Common.{arith, ◌≡◌, ◌⊎◌, ◌∙◌, ◌&&◌, ◌||◌, ℕ, Bool, true, false, cond, eqb, leb, ltb, List, [], ◌∷◌, ◌++◌, find, fold, length, list_any, Option, Some, None}
use Rattle.turn_client_laws.proofs.Common.{inl, inr, refl, sym, ap, subst, ⊤, IpAddr, SocketAddr, and_parts, cases_Bool, eqb-true, eq-eqb, le-ltb, leb-false, ltb-false, lt-leb, or_cases}
use Rattle.turn_client_laws.proofs.Common.{or_parts, map, not}
use Rattle.turn_client_laws.proofs.Machine.{AddressFamily, Challenge, Error, Grant, Has, Judgement, LateResponse, MessageClass, Outcome, Allocated, Authenticating, Challenged, Closed}
use Rattle.turn_client_laws.proofs.Machine.{ConnectionAttempt, DataIndication, Fatal, ForAllocation, ForChannel, ForConnect, ForPermission, ForRefresh, Handled, Ignored, Indication, New}
use Rattle.turn_client_laws.proofs.Machine.{Pending, Active, Phase, Progress, Purpose, Refused, Request, Requesting, ResendRequest, SignedError, SignedRequest, SignedSuccess, State, Success}
use Rattle.turn_client_laws.proofs.Machine.{Unrelated, Validated, Validation, Connection, DataConnection, Origin, ServerIndication, ServerRequest, filter-has, allocate_denied}
use Rattle.turn_client_laws.proofs.Machine.{allocate_granted, allocated_judgement, allocation_mismatch, answered_purposes, answers_allocate, answers_one, attempt_indicated}
use Rattle.turn_client_laws.proofs.Machine.{attempt_requested, auth_of, authenticating_judgement, bind_again, bind_answered, bind_judgement, bind_step, by_class, challenge_in}
use Rattle.turn_client_laws.proofs.Machine.{challenge_step, challenged_or, changed_allocation, channel_answered, channel_at, class_in, connect_answered, connection_attempt_method}
use Rattle.turn_client_laws.proofs.Machine.{connection_id_in, data_method, deadline_set, effect, family_not_supported, first_in, fresh_id, has_code, has-filter, has-right, id_of}
use Rattle.turn_client_laws.proofs.Machine.{is_answered, is_asked_permission, is_bind_of, is_channel_of, is_connect_to, is_connection_from, is_for_allocation, is_outstanding}
use Rattle.turn_client_laws.proofs.Machine.{is_permission_of, is_response, judgement_of, lasting, lasting_if, lifetime_in, listed_permissions_answered, message_step, method_in, min_lifetime}
use Rattle.turn_client_laws.proofs.Machine.{new_allocation, pending_channel_answered, permission_answered, permission_answered_for, permission_state, phase_after, prolonged, purposes_of}
use Rattle.turn_client_laws.proofs.Machine.{refresh_method, refreshed, relayed_in, requesting_judgement, response_step, retried, same_address, signed_step, taken_addresses}
use Rattle.turn_client_laws.proofs.Machine.{transaction_ended, validation_of, with_offer, without_grants}
use Rattle.turn_client_laws.proofs.Laws.{Input, IsAccepted, IsSignedReply, bind-by, by_accepted, by_found, by_test, contains-has, has-contains, indicated-by, input-by, judgement-says}
use Rattle.turn_client_laws.proofs.Laws.{outline, processed, requested-by}
use Rattle.turn_client_laws.proofs.ChallengeJudgement.{AnswersAllocate}
use Rattle.turn_client_laws.proofs.EditsOfReplies.{changed-outline}
use Rattle.turn_client_laws.proofs.GrantOriginMessageLemmas.{for-allocation}
use Rattle.turn_client_laws.proofs.InAllocationLemmas.{has-any}
use Rattle.turn_client_runs.specs.Ends.{ConfirmsDelete, DeniesAll, EndsClient, GrantsNone, IsOneTooMany, IsUntrusted, RefusesAllocation}
use Rattle.turn_client_runs.proofs.EndLemmas.{Alike, IsGone, Lives, Over, alike-filter, alike-instead, alike-map, alike-more, lives-back, lives-over, lives-same, lives-then}
use Rattle.turn_client_runs.proofs.MadeLemmas.{control-made}

-- ---- a signed reply to a request for a grant

lasting-outline : (expiry : ℕ) (g : Grant) → outline (lasting expiry g) ≡ outline g
lasting-outline expiry g = grind arith

renewed-outline : (which : Grant → Bool) (expiry : ℕ) (g : Grant) → outline (lasting_if which expiry g) ≡ outline g
renewed-outline which expiry g = by_test (λ (h : Grant). outline h ≡ outline g) (which g) _ _ (λ e. lasting-outline expiry g) (λ e. refl)

renewed-alike : (which : Grant → Bool) (expiry : ℕ) (gs : List Grant) → Alike gs (map (lasting_if which expiry) gs)
renewed-alike which expiry gs = alike-map (lasting_if which expiry) (renewed-outline which expiry) gs

permission-lives : (ip : IpAddr) (is_granted : Bool) (now : ℕ) (s : State) → Lives s (permission_answered ip is_granted now s)
permission-lives ip is_granted now s = by (permission_state ip s) refl is_granted
  where
    gone : Alike s.grants (without_grants (is_permission_of ip) s).grants
    gone = alike-filter (is_permission_of ip) (λ a. refl) s.grants

    by : (o : Option Progress) → permission_state ip s ≡ o → (g : Bool) → Lives s (permission_answered ip g now s)
    by (Some (Pending is_kept)) e true = rw e (refl, alike-instead (is_permission_of ip) (λ a. refl) _ (λ a e. cc) s.grants)
    by (Some (Pending is_kept)) e false = rw e (refl, gone)
    by (Some (Active lease)) e true = rw e (refl, renewed-alike (is_permission_of ip) _ s.grants)
    by (Some (Active lease)) e false = rw e (refl, gone)
    by o e g = rw e (lives-same s)

permissions-live : (is_granted : Bool) (now : ℕ) (purposes : List Purpose) (s : State) → Lives s (fold (permission_answered_for is_granted now) s purposes)
permissions-live is_granted now [] s = lives-same s
permissions-live is_granted now (p ∷ purposes) s =
    let t = permission_answered_for is_granted now s p in
    lives-then s t (fold (permission_answered_for is_granted now) t purposes) (one p) (permissions-live is_granted now purposes t)
  where
    one : (p : Purpose) → Lives s (permission_answered_for is_granted now s p)
    one (ForPermission ip) = permission-lives ip is_granted now s
    one p = lives-same s

pending-lives : (number : ℕ) (peer : SocketAddr) (is_kept : Bool) (id : ℕ) (is_granted : Bool) (now : ℕ) (s : State) → Lives s (pending_channel_answered number peer is_kept id is_granted now s)
pending-lives number peer is_kept id true now s =
    let t = listed_permissions_answered id true now s in
    lives-then s t (pending_channel_answered number peer is_kept id true now s) (permissions-live true now (purposes_of id s) s)
    (refl, alike-instead (is_channel_of number) (λ a. refl) _ (λ a e. cc) t.grants)
pending-lives number peer is_kept id false now s =
    let t = without_grants (is_channel_of number) s in
    lives-then s t (pending_channel_answered number peer is_kept id false now s) (refl, alike-filter (is_channel_of number) (λ a. refl) s.grants)
    (refl, alike-filter (is_asked_permission (purposes_of id s)) (λ a. refl) t.grants)

channel-lives : (number id : ℕ) (is_granted : Bool) (now : ℕ) (s : State) → Lives s (channel_answered number id is_granted now s)
channel-lives number id is_granted now s = by (first_in (channel_at number) s) refl is_granted
  where
    by : (o : Option (SocketAddr × Progress)) → first_in (channel_at number) s ≡ o → (g : Bool) → Lives s (channel_answered number id g now s)
    by (Some (peer, Pending is_kept)) e g = rw e (pending-lives number peer is_kept id g now s)
    by (Some (peer, Active lease)) e true = rw e (refl, renewed-alike (is_channel_of number) _ s.grants)
    by (Some (peer, Active lease)) e false = rw e (refl, alike-instead (is_channel_of number) (λ a. refl) _ (λ a e. cc) s.grants)
    by o e g = rw e (lives-same s)

connect-lives : (peer : SocketAddr) (o : Option ℕ) (s : State) → Lives s (connect_answered peer o s)
connect-lives peer (Some id) s = (refl, alike-instead (is_connect_to peer) (λ a. refl) _ (λ a e. cc) s.grants)
connect-lives peer None s = (refl, alike-filter (is_connect_to peer) (λ a. refl) s.grants)

prolonged-lives : (family : AddressFamily) (lifetime now : ℕ) (s : State) → Lives s (prolonged family lifetime now s)
prolonged-lives family lifetime now s =
    by_test (Lives s) (leb min_lifetime lifetime) _ _ (λ e. (refl, alike-map (changed_allocation _ _) (changed-outline _ _ (λ a. refl)) s.grants)) (λ e. lives-same s)

-- ---- a signed reply to what is to delete all allocations

module _ (is_granted : Bool) (message : List ℕ) where
  -- the server deleted them, or there were none
  abbrev pub IsDeleted : Type 0
  IsDeleted = (is_granted ≡ true) ⊎ (has_code allocation_mismatch message ≡ true)

  -- one of these purposes was to delete them
  abbrev pub Deletes : List Purpose → Type 0
  Deletes purposes = ((family : AddressFamily) × Has (ForRefresh family 0) purposes) × IsDeleted

  refreshed-ends : (family : AddressFamily) (lifetime now : ℕ) (s : State) → Over (refreshed family lifetime is_granted message now s) → Over s ⊎ ((lifetime ≡ 0) × IsDeleted)
  refreshed-ends family lifetime now s =
      let Back = λ (t : State). Over t → Over s ⊎ ((lifetime ≡ 0) × IsDeleted) in
      by_test Back (eqb lifetime 0) _ _
      (λ zero. by_test Back (is_granted || has_code allocation_mismatch message) _ _
      (λ e h. inr (eqb-true lifetime 0 zero, or_cases is_granted (has_code allocation_mismatch message) e)) (λ e h. inl h))
      (λ other. by_test Back is_granted _ _
      (λ e. by_found Back (λ granted. prolonged family granted now s) (lifetime_in message) s (λ n f h. inl (lives-back s (prolonged family n now s) (prolonged-lives family n now s) h)) (λ h. inl h))
      (λ e h. inl h))

  effect-ends : (id now : ℕ) (s : State) (p : Purpose) → Over (effect id is_granted message now s p) → Over s ⊎ Deletes (p ∷ [])
  effect-ends id now s (ForRefresh family lifetime) h = elim (refreshed-ends family lifetime now s h) [
    | inl over ↦ inl over
    | inr (zero, why) ↦ inr ((family, inl (ap (ForRefresh family) (sym zero))), why)
  ]
  effect-ends id now s (ForPermission ip) h = inl (lives-back s (permission_answered ip is_granted now s) (permission-lives ip is_granted now s) h)
  effect-ends id now s (ForChannel number peer) h = inl (lives-back s (channel_answered number id is_granted now s) (channel-lives number id is_granted now s) h)
  effect-ends id now s (ForConnect peer) h =
      let o = cond is_granted (connection_id_in message) None in inl (lives-back s (connect_answered peer o s) (connect-lives peer o s) h)
  effect-ends id now s p h = inl h

  effects-end : (id now : ℕ) (purposes : List Purpose) (s : State) → Over (fold (effect id is_granted message now) s purposes) → Over s ⊎ Deletes purposes
  effects-end id now [] s h = inl h
  effects-end id now (p ∷ purposes) s h = elim (effects-end id now purposes (effect id is_granted message now s p) h) [
    | inl over ↦ elim (effect-ends id now s p over) [
      | inl before ↦ inl before
      | inr ((family, inl e), why) ↦ inr ((family, inl e), why)
      | inr ((family, inr none), why) ↦ absurd none
    ]
    | inr ((family, there), why) ↦ inr ((family, inr there), why)
  ]

  -- ---- and a client that has ended stays so

  refreshed-over : (family : AddressFamily) (lifetime now : ℕ) (s : State) → Over s → Over (refreshed family lifetime is_granted message now s)
  refreshed-over family lifetime now s h =
      by_test Over (eqb lifetime 0) _ _
      (λ zero. by_test Over (is_granted || has_code allocation_mismatch message) _ _ (λ e. inl refl) (λ e. h))
      (λ other. by_test Over is_granted _ _
      (λ e. by_found Over (λ granted. prolonged family granted now s) (lifetime_in message) s (λ n f. lives-over s (prolonged family n now s) (prolonged-lives family n now s) h) h)
      (λ e. h))

  effect-over : (id now : ℕ) (s : State) (p : Purpose) → Over s → Over (effect id is_granted message now s p)
  effect-over id now s (ForRefresh family lifetime) h = refreshed-over family lifetime now s h
  effect-over id now s (ForPermission ip) h = lives-over s (permission_answered ip is_granted now s) (permission-lives ip is_granted now s) h
  effect-over id now s (ForChannel number peer) h = lives-over s (channel_answered number id is_granted now s) (channel-lives number id is_granted now s) h
  effect-over id now s (ForConnect peer) h =
      let o = cond is_granted (connection_id_in message) None in lives-over s (connect_answered peer o s) (connect-lives peer o s) h
  effect-over id now s p h = h

  effects-over : (id now : ℕ) (purposes : List Purpose) (s : State) → Over s → Over (fold (effect id is_granted message now) s purposes)
  effects-over id now [] s h = h
  effects-over id now (p ∷ purposes) s h = effects-over id now purposes (effect id is_granted message now s p) (effect-over id now s p h)

  deleted-over : (family : AddressFamily) (now : ℕ) (s : State) → IsDeleted → Over (refreshed family 0 is_granted message now s)
  deleted-over family now s why = by_test Over (is_granted || has_code allocation_mismatch message) _ _ (λ e. inl refl) (λ e. absurd (neither e))
    where
      neither : (is_granted || has_code allocation_mismatch message) ≡ false → ⊥
      neither e = elim why [
        | inl granted ↦ let clash : true ≡ false = rw granted at e in cc
        | inr mismatch ↦ let (first, second) = or_parts is_granted (has_code allocation_mismatch message) e in let clash : true ≡ false = sym mismatch ∙ second in cc
      ]

  pub deletes-over : (id now : ℕ) (purposes : List Purpose) (s : State) → Deletes purposes → Over (fold (effect id is_granted message now) s purposes)
  deletes-over id now [] s ((family, none), why) = absurd none
  deletes-over id now (p ∷ purposes) s ((family, inl e), why) =
      effects-over id now purposes (effect id is_granted message now s p) (subst (λ (q : Purpose). Over (effect id is_granted message now s q)) e (deleted-over family now s why))
  deletes-over id now (p ∷ purposes) s ((family, inr there), why) = deletes-over id now purposes (effect id is_granted message now s p) ((family, there), why)

-- ---- what a signed reply is in each phase

module _ (is_granted : Bool) (message : List ℕ) (now : ℕ) (s : State) where
  pub signed-other : (s.phase ≡ Authenticating → ⊥) → signed_step is_granted message now s ≡ response_step is_granted message now s
  signed-other other = by s.phase refl
    where
      by : (p : Phase) → s.phase ≡ p → signed_step is_granted message now s ≡ response_step is_granted message now s
      by New e = rw e refl
      by Requesting e = rw e refl
      by Authenticating e = absurd (other e)
      by Allocated e = rw e refl
      by Closed e = rw e refl

pub signed-granted : (message : List ℕ) (now : ℕ) (s : State) → s.phase ≡ Authenticating
    → signed_step true message now s ≡ (Handled, allocate_granted message now (transaction_ended (id_of message) s))
signed-granted message now s e = rw e refl

pub signed-denied : (message : List ℕ) (now : ℕ) (s : State) → s.phase ≡ Authenticating
    → signed_step false message now s ≡ (Handled, allocate_denied (fresh_id s) message now (transaction_ended (id_of message) s))
signed-denied message now s e = rw e refl

-- ---- in which phase it is judged so

requesting-judged : (P : Judgement → Type 0) (s : State) (message : List ℕ) → P Unrelated → ((d : Challenge) → P (Challenged d))
    → (answers_one s message ≡ true → challenge_in s message ≡ None → P Fatal)
    → P (requesting_judgement s message)
requesting-judged P s message unrelated challenged fatal = by_test P (answers_one s message) _ Unrelated (λ a. of a (challenge_in s message) refl) (λ n. unrelated)
  where
    of : answers_one s message ≡ true → (o : Option Challenge) → challenge_in s message ≡ o → P (challenged_or Fatal o)
    of a None e = fatal a e
    of a (Some d) e = challenged d

abbrev IsFatal : Judgement → Type 0
IsFatal Fatal = ⊤
IsFatal j = ⊥

class-fatal : (c : MessageClass) → IsFatal (by_class c) → ⊥
class-fatal Request h = h
class-fatal Indication h = h
class-fatal Success h = h
class-fatal Error h = h

-- a message that is signed, or not
challenged-fatal : (j : Judgement) (o : Option Challenge) → (IsFatal j → ⊥) → IsFatal (challenged_or j o) → ⊥
challenged-fatal j None not h = not h
challenged-fatal j (Some d) not h = h

allocated-fatal : (s : State) (message : List ℕ) → IsFatal (allocated_judgement s message) → ⊥
allocated-fatal s message = by (class_in message) refl (validation_of (auth_of s) message) refl
  where
    Never : Judgement → Type 0
    Never j = IsFatal j → ⊥

    signed : Never (cond (is_response (class_in message) && not (is_outstanding (id_of message) s.transactions)) Unrelated (by_class (class_in message)))
    signed = by_test Never (is_response (class_in message) && not (is_outstanding (id_of message) s.transactions)) Unrelated _ (λ n h. h) (λ o. class-fatal (class_in message))

    by : (class : MessageClass) → class_in message ≡ class → (v : Validation) → validation_of (auth_of s) message ≡ v → IsFatal (allocated_judgement s message) → ⊥
    by Indication e v f = rw e
        (by_test Never (eqb (method_in message) data_method) DataIndication _ (λ is h. h)
        (λ n. by_test Never (eqb (method_in message) connection_attempt_method) ConnectionAttempt Unrelated (λ is h. h) (λ other h. h)))
    by Error e (Validated algorithm) f = rw (e, f) (challenged-fatal _ (challenge_in s message) signed)
    by Error e (Refused integrity) f = rw (e, f) (challenged-fatal Unrelated (challenge_in s message) (λ h. h))
    by Error e (ResendRequest algorithm) f = rw (e, f) (challenged-fatal Unrelated (challenge_in s message) (λ h. h))
    by Request e (Validated algorithm) f = rw (e, f) signed
    by Request e (Refused integrity) f = rw (e, f) (λ h. h)
    by Request e (ResendRequest algorithm) f = rw (e, f) (λ h. h)
    by Success e (Validated algorithm) f = rw (e, f) signed
    by Success e (Refused integrity) f = rw (e, f) (λ h. h)
    by Success e (ResendRequest algorithm) f = rw (e, f) (λ h. h)

module _ (one : Input) where
  abbrev message : List ℕ
  message = one.bytes

  abbrev before : State
  before = one.before

  untrusted-first : before.phase ≡ Requesting → answers_one before message ≡ true → challenge_in before message ≡ None → IsUntrusted one
  untrusted-first phase answers none =
      let both = and_parts (is_response (class_in message)) (is_outstanding (id_of message) before.transactions) answers in
      record { response = both.0; unchallenged = none; answers = inl (phase, both.1) }

  untrusted-later : before.phase ≡ Authenticating → IsFatal (authenticating_judgement before message) → IsUntrusted one
  untrusted-later phase = by (answers_allocate before message) refl (challenge_in before message) refl (validation_of (auth_of before) message) refl
    where
      late : (b : Bool) (c : MessageClass) → IsFatal (cond b (by_class c) LateResponse) → ⊥
      late true c h = class-fatal c h
      late false c h = h

      by : (b : Bool) → answers_allocate before message ≡ b → (o : Option Challenge) → challenge_in before message ≡ o → (v : Validation) → validation_of (auth_of before) message ≡ v
          → IsFatal (authenticating_judgement before message) → IsUntrusted one
      by false a o c v e h = absurd (rw a at h)
      by true a (Some d) c v e h = absurd (rw (a, c) at h)
      by true a None c (Validated algorithm) e h = absurd (late (is_outstanding (id_of message) before.transactions) (class_in message) (rw (e, a, c) at h))
      by true a None c (Refused true) e h =
          let (response, listed) = and_parts (is_response (class_in message)) (list_any is_for_allocation (purposes_of (id_of message) before)) a in
          let there = for-allocation (purposes_of (id_of message) before) listed in
          record {
            response = response;
            unchallenged = c;
            answers = inr (phase, has-contains ForAllocation (purposes_of (id_of message) before) there, e);
          }
      by true a None c (Refused false) e h = absurd (rw (e, a, c) at h)
      by true a None c (ResendRequest algorithm) e h = absurd (rw (e, a, c) at h)

  fatal-untrusted : IsFatal (judgement_of before message) → IsUntrusted one
  fatal-untrusted = by before.phase refl
    where
      by : (p : Phase) → before.phase ≡ p → IsFatal (judgement_of before message) → IsUntrusted one
      by New e h = absurd (rw e at h)
      by Requesting e h =
          requesting-judged (λ j. IsFatal j → IsUntrusted one) before message (λ f. absurd f) (λ d f. absurd f) (λ a c f. untrusted-first e a c) (rw e at h)
      by Authenticating e h = untrusted-later e (rw e at h)
      by Allocated e h = absurd (allocated-fatal before message (rw e at h))
      by Closed e h = absurd (rw e at h)

  -- a signed reply is for one of these phases
  signed-phase : IsAccepted (judgement_of before message) → (before.phase ≡ Authenticating) ⊎ (before.phase ≡ Allocated)
  signed-phase = by before.phase refl
    where
      requesting : IsAccepted (requesting_judgement before message) → ⊥
      requesting = requesting-judged (λ j. IsAccepted j → ⊥) before message (λ h. h) (λ d h. h) (λ a c h. h)

      by : (p : Phase) → before.phase ≡ p → IsAccepted (judgement_of before message) → (before.phase ≡ Authenticating) ⊎ (before.phase ≡ Allocated)
      by New e h = absurd (rw e at h)
      by Requesting e h = absurd (requesting (rw e at h))
      by Authenticating e h = inl e
      by Allocated e h = inr e
      by Closed e h = absurd (rw e at h)

  allocated-other : before.phase ≡ Allocated → before.phase ≡ Authenticating → ⊥
  allocated-other e f = let clash : Allocated ≡ Authenticating = sym e ∙ f in cc

-- ---- whether it ends the client

phase-back : (p q : Phase) → (q ≡ Authenticating → ⊥) → phase_after p ≡ q → p ≡ q
phase-back Requesting q other e = absurd (other (sym e))
phase-back New q other e = e
phase-back Authenticating q other e = e
phase-back Allocated q other e = e
phase-back Closed q other e = e

deadline-outline : (local : SocketAddr) (deadline : Option ℕ) (g : Grant) → outline (deadline_set local deadline g) ≡ outline g
deadline-outline local deadline (Connection c) = by_test (λ (g : Grant). outline g ≡ outline (Connection c)) (same_address c.local local) _ _ (λ e. refl) (λ e. refl)
deadline-outline local deadline g = refl

module _ (one : Input) (Cause : Type 0) (causes : IsUntrusted one ⊎ IsOneTooMany one ⊎ RefusesAllocation one ⊎ ConfirmsDelete one → Cause) where
  abbrev text : List ℕ
  text = one.bytes

  abbrev was : State
  was = one.before

  abbrev Ends : State → Type 0
  Ends t = Over t → Over was ⊎ Cause

  challenge-case : (d : Challenge) → judgement_of was text ≡ Challenged d → Ends (challenge_step text d one.time was).1
  challenge-case d j = by (ltb was.challenges was.config.max_stale_nonces) refl (retried (purposes_of (id_of text) was)) refl
    where
      back : (phase_after was.phase ≡ Closed) ⊎ ((phase_after was.phase ≡ Allocated) × IsGone was.grants) → Over was
      back (inl e) = inl (phase-back was.phase Closed (λ f. cc) e)
      back (inr (e, none)) = inr (phase-back was.phase Allocated (λ f. cc) e, none)

      by : (b : Bool) → ltb was.challenges was.config.max_stale_nonces ≡ b → (o : Option Purpose) → retried (purposes_of (id_of text) was) ≡ o → Ends (challenge_step text d one.time was).1
      by false e o f = rw e (λ h. inr (causes (inr (inl (d, j, ltb-false was.challenges was.config.max_stale_nonces e)))))
      by true e None f = rw (e, f) (λ h. inl h)
      by true e (Some purpose) f = rw (e, f) (λ h. inl (back h))

  module _ (class : MessageClass) (is : IsSignedReply class text was) (accepted : IsAccepted (judgement_of was text)) (answers : AnswersAllocate text was) where
    refuses : was.phase ≡ Authenticating → DeniesAll one ⊎ GrantsNone one → Over was ⊎ Cause
    refuses phase refused =
        let listed = (and_parts (is_response (class_in text)) (list_any is_for_allocation (purposes_of (id_of text) was)) (answers phase)).1 in
        inr (causes (inr (inr (inl (record {
          phase = phase;
          accepted = accepted;
          signed = is.signed;
          listed = has-contains ForAllocation (purposes_of (id_of text) was) (for-allocation (purposes_of (id_of text) was) listed);
          outstanding = is.outstanding;
          refused = refused;
        })))))

    deletes : (is_granted : Bool) → was.phase ≡ Allocated → (IsDeleted is_granted text → (class_in text ≡ Success) ⊎ ((class_in text ≡ Error) × (has_code allocation_mismatch text ≡ true)))
        → Ends (response_step is_granted text one.time was).1
    deletes is_granted phase says h = elim (effects-end is_granted text (id_of text) one.time (answered_purposes text was) (transaction_ended (id_of text) was) h) [
      | inl over ↦ inl over
      | inr ((family, there), why) ↦
          let (listed, answered) = has-filter (is_answered (method_in text)) (ForRefresh family 0) (purposes_of (id_of text) was) there in
          inr (causes (inr (inr (inr (record {
            phase = phase;
            accepted = accepted;
            signed = is.signed;
            listed = (family, has-contains (ForRefresh family 0) (purposes_of (id_of text) was) listed);
            outstanding = is.outstanding;
            method = sym (eqb-true refresh_method (method_in text) answered);
            deleted = says why;
          })))))
    ]

  success-case : judgement_of was text ≡ SignedSuccess → Ends (signed_step true text one.time was).1
  success-case j =
      let (answers, is) : AnswersAllocate text was × IsSignedReply Success text was = rw j at (judgement-says was text) in
      elim (signed-phase one (rw j tt)) [
        | inl phase ↦ rw (signed-granted text one.time was phase) (granted is answers phase (lifetime_in text) refl (taken_addresses was.families (relayed_in text)) refl)
        | inr phase ↦ rw (signed-other true text one.time was (allocated-other one phase)) (deletes Success is (rw j tt) answers true phase (λ why. inl is.class_is))
      ]
    where
      granted : IsSignedReply Success text was → AnswersAllocate text was → was.phase ≡ Authenticating → (o : Option ℕ) → lifetime_in text ≡ o
          → (addresses : List SocketAddr) → taken_addresses was.families (relayed_in text) ≡ addresses → Ends (allocate_granted text one.time (transaction_ended (id_of text) was))
      granted is answers phase None e addresses f = rw e (λ h. refuses Success is (rw j tt) answers phase (inr (is.class_is, rw e tt)))
      granted is answers phase (Some n) e [] f = rw (e, f) (λ h. refuses Success is (rw j tt) answers phase (inr (is.class_is, rw e f)))
      granted is answers phase (Some n) e (a ∷ others) f = rw (e, f) (λ h. absurd (alive h))
        where
          alive : (Allocated ≡ Closed) ⊎ ((Allocated ≡ Allocated) × IsGone (was.grants ++ map (new_allocation n one.time) (a ∷ others))) → ⊥
          alive (inl e) = cc
          alive (inr (same, none)) = none _ (has-right (new_allocation n one.time a) was.grants (map (new_allocation n one.time) (a ∷ others)) (inl refl))

  error-case : judgement_of was text ≡ SignedError → Ends (signed_step false text one.time was).1
  error-case j =
      let (answers, is) : AnswersAllocate text was × IsSignedReply Error text was = rw j at (judgement-says was text) in
      elim (signed-phase one (rw j tt)) [
        | inl phase ↦ rw (signed-denied text one.time was phase) (denied is answers phase (has_code family_not_supported text) refl (leb 2 (length was.families)) refl)
        | inr phase ↦ rw (signed-other false text one.time was (allocated-other one phase)) (deletes Error is (rw j tt) answers false phase (λ why. inr (is.class_is, mismatched why)))
      ]
    where
      mismatched : IsDeleted false text → has_code allocation_mismatch text ≡ true
      mismatched (inl e) = cc
      mismatched (inr code) = code

      denied : IsSignedReply Error text was → AnswersAllocate text was → was.phase ≡ Authenticating → (b : Bool) → has_code family_not_supported text ≡ b
          → (c : Bool) → leb 2 (length was.families) ≡ c → Ends (allocate_denied (fresh_id was) text one.time (transaction_ended (id_of text) was))
      denied is answers phase true e true f = rw (e, f) (λ h. absurd (alive h))
        where
          alive : (was.phase ≡ Closed) ⊎ ((was.phase ≡ Allocated) × IsGone was.grants) → ⊥
          alive (inl over) = let clash : Authenticating ≡ Closed = sym phase ∙ over in cc
          alive (inr (there, none)) = let clash : Authenticating ≡ Allocated = sym phase ∙ there in cc
      denied is answers phase true e false f = rw (e, f) (λ h. refuses Error is (rw j tt) answers phase (inl (is.class_is, λ code. leb-false 2 (length was.families) f)))
      denied is answers phase false e c f = rw e (λ h. refuses Error is (rw j tt) answers phase (inl (is.class_is, λ code. let clash : false ≡ true = sym e ∙ code in cc)))

  offered-lives : (id : ℕ) (peer : SocketAddr) (origin : Origin) → Lives was (with_offer id peer origin was)
  offered-lives id peer origin = (refl, alike-more was.grants _ (λ a e. cc))

  pub message-ends : Ends (message_step text one.time was).1
  message-ends = by (judgement_of was text) refl
    where
      by : (j : Judgement) → judgement_of was text ≡ j → Ends (message_step text one.time was).1
      by (Challenged d) e = rw e (challenge-case d e)
      by Fatal e = rw e (λ h. inr (causes (inl (fatal-untrusted one (rw e tt)))))
      by ConnectionAttempt e = rw e
          (by_accepted Ends (attempt_indicated text was) was
          (indicated-by Ends text was (λ id peer accepts h. inl (lives-back was (with_offer id peer ServerIndication was) (offered-lives id peer ServerIndication) h))) (λ h. inl h))
      by SignedRequest e = rw e
          (by_test (λ (p : Outcome × State). Ends p.1) (eqb (method_in text) connection_attempt_method) (Handled, attempt_requested text was) (Ignored, was)
          (λ is. requested-by Ends text was (λ queue h. inl h)
          (λ id peer room free h. inl (lives-back was (with_offer id peer (ServerRequest (id_of text)) was) (offered-lives id peer (ServerRequest (id_of text))) h)))
          (λ other h. inl h))
      by SignedSuccess e = rw e (success-case e)
      by SignedError e = rw e (error-case e)
      by j e = rw e (λ h. inl h)

-- a message of a data connection ends no client
bind-lives : (local : SocketAddr) (message : List ℕ) (now : ℕ) (s : State) → Lives s (bind_step local message now s)
bind-lives local message now s = bind-by (Lives s) local message now s (lives-same s) (λ c allocated found method. answered c)
  where
    answered : (c : DataConnection) → Lives s (bind_answered c message now s)
    answered c = by (bind_judgement s c.local message) refl
      where
        gone : Alike s.grants (without_grants (is_connection_from c.local) s).grants
        gone = alike-filter (is_connection_from c.local) (λ a. refl) s.grants

        again : (d : Challenge) (o : Option Purpose) → find (is_bind_of c.local) (purposes_of (id_of message) s) ≡ o → Lives s (bind_again c (id_of message) d now s)
        again d None e = rw e (lives-same s)
        again d (Some purpose) e = rw e (refl, alike-map (deadline_set c.local _) (deadline-outline c.local _) s.grants)

        by : (j : Judgement) → bind_judgement s c.local message ≡ j → Lives s (bind_answered c message now s)
        by (Challenged d) e = rw e (again d (find (is_bind_of c.local) (purposes_of (id_of message) s)) refl)
        by SignedSuccess e = rw e (refl, alike-map (deadline_set c.local None) (deadline-outline c.local None) s.grants)
        by SignedError e = rw e (refl, gone)
        by j e = rw e (refl, gone)

pub input-ends : (one : Input) → Over (processed one).1 → Over one.before ⊎ EndsClient one
input-ends one =
    input-by (λ t. Over t → Over one.before ⊎ EndsClient one) one (λ h. inl h)
    (λ over whole. message-ends one (EndsClient one) (λ cause. record { over = over; whole = whole; cause = cause }))
    (λ stream of waits whole h. inl (lives-back one.before (bind_step stream.local one.bytes one.time one.before) (bind-lives stream.local one.bytes one.time one.before) h))

-- ---- what ends the client does

module _ (one : Input) where
  abbrev Closes : Type 0
  Closes = Over (message_step one.bytes one.time one.before).1

  untrusted-fatal : IsUntrusted one → judgement_of one.before one.bytes ≡ Fatal
  untrusted-fatal is = elim is.answers [
    | inl (phase, awaited) ↦ rw phase (rw (is.response, awaited, is.unchallenged) refl)
    | inr (phase, listed, refused) ↦
        let purposes = purposes_of (id_of one.bytes) one.before in
        let allocates : list_any is_for_allocation purposes ≡ true = has-any is_for_allocation ForAllocation purposes (contains-has ForAllocation purposes listed) refl in
        rw phase (rw (refused, is.response, allocates, is.unchallenged) refl)
  ]

  untrusted-closes : IsUntrusted one → Closes
  untrusted-closes is = rw (untrusted-fatal is) (inl refl)

  many-closes : IsOneTooMany one → Closes
  many-closes (d, judged, many) = rw judged (rw (le-ltb one.before.challenges one.before.config.max_stale_nonces many) (inl refl))

  refused-closes : RefusesAllocation one → Closes
  refused-closes is = by (judgement_of one.before one.bytes) refl
    where
      granted : class_in one.bytes ≡ Success → DeniesAll one ⊎ GrantsNone one → Over (allocate_granted one.bytes one.time (transaction_ended (id_of one.bytes) one.before))
      granted class (inl (error, few)) = let clash : Success ≡ Error = sym class ∙ error in absurd cc
      granted class (inr (success, none)) = of (lifetime_in one.bytes) refl
        where
          of : (o : Option ℕ) → lifetime_in one.bytes ≡ o → Over (allocate_granted one.bytes one.time (transaction_ended (id_of one.bytes) one.before))
          of None e = rw e (inl refl)
          of (Some n) e = let empty : taken_addresses one.before.families (relayed_in one.bytes) ≡ [] = rw e at none in rw (e, empty) (inl refl)

      denied : class_in one.bytes ≡ Error → DeniesAll one ⊎ GrantsNone one → Over (allocate_denied (fresh_id one.before) one.bytes one.time (transaction_ended (id_of one.bytes) one.before))
      denied class (inr (success, none)) = let clash : Error ≡ Success = sym class ∙ success in absurd cc
      denied class (inl (error, few)) = elim (cases_Bool (has_code family_not_supported one.bytes)) [
        | inl e ↦ rw (e, lt-leb 2 (length one.before.families) (few e)) (inl refl)
        | inr e ↦ rw e (inl refl)
      ]

      by : (j : Judgement) → judgement_of one.before one.bytes ≡ j → Closes
      by SignedSuccess e =
          let (answers, reply) : AnswersAllocate one.bytes one.before × IsSignedReply Success one.bytes one.before = rw e at (judgement-says one.before one.bytes) in
          rw e (rw (signed-granted one.bytes one.time one.before is.phase) (granted reply.class_is is.refused))
      by SignedError e =
          let (answers, reply) : AnswersAllocate one.bytes one.before × IsSignedReply Error one.bytes one.before = rw e at (judgement-says one.before one.bytes) in
          rw e (rw (signed-denied one.bytes one.time one.before is.phase) (denied reply.class_is is.refused))
      by j e = absurd (rw e at is.accepted)

  deleted-closes : ConfirmsDelete one → Closes
  deleted-closes is = by (judgement_of one.before one.bytes) refl
    where
      answered : (family : AddressFamily) × Has (ForRefresh family 0) (answered_purposes one.bytes one.before)
      answered =
          let (family, listed) = is.listed in
          let there = contains-has (ForRefresh family 0) (purposes_of (id_of one.bytes) one.before) listed in
          (family, filter-has (is_answered (method_in one.bytes)) (ForRefresh family 0) (purposes_of (id_of one.bytes) one.before) there (eq-eqb refresh_method (method_in one.bytes) (sym is.method)))

      replied : (is_granted : Bool) → IsDeleted is_granted one.bytes → Over (signed_step is_granted one.bytes one.time one.before).1
      replied is_granted why =
          rw (signed-other is_granted one.bytes one.time one.before (allocated-other one is.phase))
          (deletes-over is_granted one.bytes (id_of one.bytes) one.time (answered_purposes one.bytes one.before) (transaction_ended (id_of one.bytes) one.before) (answered, why))

      mismatched : class_in one.bytes ≡ Error → IsDeleted false one.bytes
      mismatched class = elim is.deleted [
        | inl success ↦ let clash : Error ≡ Success = sym class ∙ success in absurd cc
        | inr (error, code) ↦ inr code
      ]

      by : (j : Judgement) → judgement_of one.before one.bytes ≡ j → Closes
      by SignedSuccess e = rw e (replied true (inl refl))
      by SignedError e =
          let (answers, reply) : AnswersAllocate one.bytes one.before × IsSignedReply Error one.bytes one.before = rw e at (judgement-says one.before one.bytes) in
          rw e (replied false (mismatched reply.class_is))
      by j e = absurd (rw e at is.accepted)

  pub input-closes : EndsClient one → Over (processed one).1
  input-closes ends = rw (control-made one ends.over ends.whole) (elim ends.cause [
    | inl is ↦ untrusted-closes is
    | inr (inl is) ↦ many-closes is
    | inr (inr (inl is)) ↦ refused-closes is
    | inr (inr (inr is)) ↦ deleted-closes is
  ])
