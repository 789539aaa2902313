-- The effect of a message is independent of the streams.
use Rattle.turn_client_laws.proofs.Common.{◌≡◌, ℕ, Bool, true, false, not, cond, ◌&&◌, ◌||◌, eqb, ltb, leb, List, [], ◌∷◌, length, fold, Option, Some, None, refl, ap, ◌∙◌, inl, inr, is_some}
use Rattle.turn_client_laws.proofs.Common.{option_map_or, socket_ip, IpAddr, SocketAddr, cases_Bool}
use Rattle.turn_client_laws.proofs.Machine.{cases_Option, id_of, Tcp, AddressFamily, Challenge, State, Stream, Progress, Pending, Active, Phase, New, Authenticating, Purpose, ForRefresh}
use Rattle.turn_client_laws.proofs.Machine.{ForPermission, ForChannel, ForConnect, find_allocation_to, channel_at, first_in, permission_state, purposes_of, connection_attempt_method, fresh_id}
use Rattle.turn_client_laws.proofs.Machine.{Judgement, Challenged, Fatal, ConnectionAttempt, SignedRequest, SignedSuccess, SignedError, judgement_of, connection_id_in, lifetime_in, method_in, peer_in}
use Rattle.turn_client_laws.proofs.Machine.{allocate_denied, allocate_granted, allocation_mismatch, channel_answered, connect_answered, effect, transaction_ended, family_not_supported, has_code}
use Rattle.turn_client_laws.proofs.Machine.{min_lifetime, permission_answered, permission_answered_for, listed_permissions_answered, prolonged, refreshed, retried, attempt_indicated}
use Rattle.turn_client_laws.proofs.Machine.{attempt_requested, is_connected, accepts_attempt, Outcome, Handled, Ignored, answered_purposes, challenge_step, message_step, response_step, signed_step}
use Rattle.turn_client_laws.proofs.Machine.{wrong_step}

-- the state with these streams
abbrev pub with_streams : List Stream → State → State
with_streams x s = record s { streams = x }

-- an outcome, with these streams after it
abbrev pub both_with : {A : Type 0} → List Stream → A × State → A × State
both_with x p = (p.0, with_streams x p.1)

module _ (x : List Stream) where
  pub alike-cond : (b : Bool) (t u v w : State) → t ≡ with_streams x v → u ≡ with_streams x w → cond b t u ≡ with_streams x (cond b v w)
  alike-cond true t u v w k l = k
  alike-cond false t u v w k l = l

  pub pair-cond : {A : Type 0} (b : Bool) (t u v w : A × State) → t ≡ both_with x v → u ≡ both_with x w → cond b t u ≡ both_with x (cond b v w)
  pair-cond true t u v w k l = k
  pair-cond false t u v w k l = l

  pub alike-fold : {X : Type 0} (f : State → X → State) → ((t : State) (y : X) → f (with_streams x t) y ≡ with_streams x (f t y)) → (ys : List X) (s : State)
      → fold f (with_streams x s) ys ≡ with_streams x (fold f s ys)
  alike-fold f step [] s = refl
  alike-fold f step (y ∷ ys) s = ap (λ t. fold f t ys) (step s y) ∙ alike-fold f step ys (f s y)

  -- ---- effects

  permission-alike : (ip : IpAddr) (is_granted : Bool) (now : ℕ) (s : State) → permission_answered ip is_granted now (with_streams x s) ≡ with_streams x (permission_answered ip is_granted now s)
  permission-alike ip is_granted now s = by (permission_state ip s) refl is_granted
    where
      by : (o : Option Progress) → permission_state ip s ≡ o → (g : Bool) → permission_answered ip g now (with_streams x s) ≡ with_streams x (permission_answered ip g now s)
      by (Some (Pending is_kept)) e true = rw e refl
      by (Some (Active expiry)) e true = rw e refl
      by o e g = rw e refl

  permission_state-alike : (is_granted : Bool) (now : ℕ) (t : State) (p : Purpose)
      → permission_answered_for is_granted now (with_streams x t) p ≡ with_streams x (permission_answered_for is_granted now t p)
  permission_state-alike is_granted now t (ForPermission ip) = permission-alike ip is_granted now t
  permission_state-alike is_granted now t p = refl

  permissions-alike : (id : ℕ) (is_granted : Bool) (now : ℕ) (s : State) → listed_permissions_answered id is_granted now (with_streams x s) ≡ with_streams x
      (listed_permissions_answered id is_granted now s)
  permissions-alike id is_granted now s = alike-fold (permission_answered_for is_granted now) (permission_state-alike is_granted now) (purposes_of id s) s

  channel-alike : (number id : ℕ) (is_granted : Bool) (now : ℕ) (s : State) → channel_answered number id is_granted now (with_streams x s) ≡ with_streams x
      (channel_answered number id is_granted now s)
  channel-alike number id is_granted now s = by (first_in (channel_at number) s) refl is_granted
    where
      by : (o : Option (SocketAddr × Progress)) → first_in (channel_at number) s ≡ o → (g : Bool)
          → channel_answered number id g now (with_streams x s) ≡ with_streams x (channel_answered number id g now s)
      by (Some (peer, Pending is_kept)) e true = rw (e, permissions-alike id true now s) refl
      by (Some (peer, Active expiry)) e true = rw e refl
      by o e g = rw e refl

  connect-alike : (peer : SocketAddr) (o : Option ℕ) (s : State) → connect_answered peer o (with_streams x s) ≡ with_streams x (connect_answered peer o s)
  connect-alike peer (Some id) s = refl
  connect-alike peer None s = refl

  refreshed-alike : (family : AddressFamily) (lifetime : ℕ) (is_granted : Bool) (message : List ℕ) (now : ℕ) (s : State)
      → refreshed family lifetime is_granted message now (with_streams x s) ≡ with_streams x (refreshed family lifetime is_granted message now s)
  refreshed-alike family lifetime is_granted message now s =
      alike-cond (eqb lifetime 0) _ _ _ _
      (alike-cond (is_granted || has_code allocation_mismatch message) _ _ _ _ refl refl)
      (alike-cond is_granted _ _ _ _ (by (lifetime_in message)) refl)
    where
      by : (o : Option ℕ) → option_map_or (λ granted. prolonged family granted now (with_streams x s)) o (with_streams x s) ≡ with_streams x
          (option_map_or (λ granted. prolonged family granted now s) o s)
      by None = refl
      by (Some granted) = alike-cond (leb min_lifetime granted) _ _ _ _ refl refl

  effect-alike : (id : ℕ) (is_granted : Bool) (message : List ℕ) (now : ℕ) (s : State) (p : Purpose)
      → effect id is_granted message now (with_streams x s) p ≡ with_streams x (effect id is_granted message now s p)
  effect-alike id is_granted message now s (ForRefresh family lifetime) = refreshed-alike family lifetime is_granted message now s
  effect-alike id is_granted message now s (ForPermission ip) = ap (λ (t : State). record t { challenges = 0 }) (permission-alike ip is_granted now s)
  effect-alike id is_granted message now s (ForChannel number peer) = ap (λ (t : State). record t { challenges = 0 }) (channel-alike number id is_granted now s)
  effect-alike id is_granted message now s (ForConnect peer) = ap (λ (t : State). record t { challenges = 0 }) (connect-alike peer (cond is_granted (connection_id_in message) None) s)
  effect-alike id is_granted message now s p = refl

  -- ---- over the control connection

  challenge-alike : (message : List ℕ) (d : Challenge) (now : ℕ) (s : State) → challenge_step message d now (with_streams x s) ≡ both_with x (challenge_step message d now s)
  challenge-alike message d now s = elim (cases_Bool (ltb s.challenges s.config.max_stale_nonces)) [
    | inl e ↦ elim (cases_Option (retried (purposes_of (id_of message) s))) [ inl f ↦ rw (e, f) refl | inr (purpose, f) ↦ rw (e, f) refl ]
    | inr e ↦ rw e refl
  ]

  wrong-alike : (p : Phase) (message : List ℕ) (s : State) → wrong_step message (with_streams x (record s { phase = p })) ≡ both_with x (wrong_step message (record s { phase = p }))
  wrong-alike New message s = refl
  wrong-alike p message s = refl

  response-alike : (is_granted : Bool) (message : List ℕ) (now : ℕ) (s : State) → response_step is_granted message now (with_streams x s) ≡ both_with x (response_step is_granted message now s)
  response-alike is_granted message now s =
      ap (λ (t : State). ((response_step is_granted message now s).0, t))
      (alike-fold (effect (id_of message) is_granted message now) (effect-alike (id_of message) is_granted message now) (answered_purposes message s) (transaction_ended (id_of message) s))

  granted-alike : (message : List ℕ) (now : ℕ) (s : State) → allocate_granted message now (with_streams x s) ≡ with_streams x (allocate_granted message now s)
  granted-alike message now s = elim (cases_Option (lifetime_in message)) [ inl e ↦ rw e refl | inr (lifetime, e) ↦ rw e refl ]

  denied-alike : (fresh : ℕ) (message : List ℕ) (now : ℕ) (s : State) → allocate_denied fresh message now (with_streams x s) ≡ with_streams x (allocate_denied fresh message now s)
  denied-alike fresh message now s = alike-cond (has_code family_not_supported message && leb 2 (length s.families)) _ _ _ _ refl refl

  signed-alike : (p : Phase) (is_granted : Bool) (message : List ℕ) (now : ℕ) (s : State)
      → signed_step is_granted message now (with_streams x (record s { phase = p })) ≡ both_with x (signed_step is_granted message now (record s { phase = p }))
  signed-alike Authenticating true message now s = ap (λ (t : State). (Handled, t)) (granted-alike message now (transaction_ended (id_of message) (record s { phase = Authenticating })))
  signed-alike Authenticating false message now s = ap (λ (t : State). (Handled, t)) (denied-alike (fresh_id s) message now (transaction_ended (id_of message) (record s { phase = Authenticating })))
  signed-alike p g message now s = response-alike g message now (record s { phase = p })

  requested-alike : (message : List ℕ) (s : State) → attempt_requested message (with_streams x s) ≡ with_streams x (attempt_requested message s)
  requested-alike message s = by (connection_id_in message) refl (peer_in message) refl
    where
      by : (i : Option ℕ) → connection_id_in message ≡ i → (p : Option SocketAddr) → peer_in message ≡ p → attempt_requested message (with_streams x s) ≡ with_streams x (attempt_requested message s)
      by (Some id) e (Some peer) f =
          rw (e, f)
          (alike-cond (not (is_some (find_allocation_to Tcp (socket_ip peer) s))) _ _ _ _ refl
          (alike-cond (is_connected peer s) _ _ _ _ refl refl))
      by (Some id) e None f = rw (e, f) refl
      by None e p f = rw e refl

  indicated-alike : (message : List ℕ) (s : State) → option_map_or {T = State} {U = Outcome × State} (λ t. (Handled, t)) (attempt_indicated message (with_streams x s))
      (Ignored, with_streams x s) ≡ both_with x (option_map_or {T = State} {U = Outcome × State} (λ t. (Handled, t)) (attempt_indicated message s) (Ignored, s))
  indicated-alike message s = by (connection_id_in message) refl (peer_in message) refl
    where
      accepted_if : (b : Bool) (t : State) → option_map_or {T = State} {U = Outcome × State} (λ t. (Handled, t)) (cond b (Some (with_streams x t)) None) (Ignored, with_streams x s) ≡ both_with x
          (option_map_or {T = State} {U = Outcome × State} (λ t. (Handled, t)) (cond b (Some t) None) (Ignored, s))
      accepted_if true t = refl
      accepted_if false t = refl

      by : (i : Option ℕ) → connection_id_in message ≡ i → (p : Option SocketAddr) → peer_in message ≡ p
          → option_map_or {T = State} {U = Outcome × State} (λ t. (Handled, t)) (attempt_indicated message (with_streams x s)) (Ignored, with_streams x s) ≡ both_with x
          (option_map_or {T = State} {U = Outcome × State} (λ t. (Handled, t)) (attempt_indicated message s) (Ignored, s))
      by (Some id) e (Some peer) f = rw (e, f) (accepted_if (accepts_attempt peer s) _)
      by (Some id) e None f = rw (e, f) refl
      by None e p f = rw e refl

  pub message-alike : (message : List ℕ) (now : ℕ) (s : State) → message_step message now (with_streams x s) ≡ both_with x (message_step message now s)
  message-alike message now s = by (judgement_of s message) refl
    where
      by : (j : Judgement) → judgement_of s message ≡ j → message_step message now (with_streams x s) ≡ both_with x (message_step message now s)
      by (Challenged d) e = rw e (challenge-alike message d now s)
      by Fatal e = rw e (wrong-alike s.phase message s)
      by ConnectionAttempt e = rw e (indicated-alike message s)
      by SignedRequest e = rw e (pair-cond (eqb (method_in message) connection_attempt_method) _ _ _ _ (ap (λ (t : State). (Handled, t)) (requested-alike message s)) refl)
      by SignedSuccess e = rw e (signed-alike s.phase true message now s)
      by SignedError e = rw e (signed-alike s.phase false message now s)
      by j e = rw e refl
