-- What messages request, and what they remove.
use Rattle.turn_client_laws.proofs.Common.{◌≡◌, ◌⊎◌, ℕ, eqb, ltb, leb, Bool, true, false, not, cond, ◌&&◌, List, [], ◌∷◌, ◌++◌, filter, length, Option, Some, None, refl, subst, inl, inr}
use Rattle.turn_client_laws.proofs.Common.{sym, find, is_some, IfSome, list_any, map, cases_Bool, option_map_or, and_parts, socket_ip, SocketAddr}
use Rattle.turn_client_laws.proofs.Machine.{Allocation, Channel, Connect, Connection, Offer, Permission, map-has, IPV4, IPV6, AllocationCreateFailed, id_of, Tcp, Challenge, first_sent}
use Rattle.turn_client_laws.proofs.Machine.{is_response, Transaction, State, later_by, Grant, DataConnection, Listing, Purpose, ForAllocation, Phase, Requesting, Authenticating}
use Rattle.turn_client_laws.proofs.Machine.{find_allocation_to, is_connection_from, is_for, is_for_allocation, purposes_of, unlisted, wait, connection_attempt_method, fresh_id, listings}
use Rattle.turn_client_laws.proofs.Machine.{request_for, requested, waits_from, Judgement, Unrelated, Challenged, Fatal, ConnectionAttempt, SignedRequest, SignedSuccess, SignedError}
use Rattle.turn_client_laws.proofs.Machine.{answers_allocate, authenticating_judgement, bind_judgement, class_in, connection_id_in, is_bind_of, judgement_of, lifetime_in, method_in, peer_in}
use Rattle.turn_client_laws.proofs.Machine.{allocate_denied, allocate_granted, transaction_ended, family_not_supported, has_code, in_phase, bind_time, retried, state_after_retry, with_held}
use Rattle.turn_client_laws.proofs.Machine.{attempt_indicated, attempt_requested, bind_again, bind_answered, bind_step, deadline_set, is_connected, accepts_attempt, bound, not_bound}
use Rattle.turn_client_laws.proofs.Machine.{with_deadline, Outcome, Handled, Ignored, challenge_step, message_step, response_step, signed_step, wrong_step, Has, has-right}
use Rattle.turn_agent.specs.Agent as A
use Rattle.turn_client_laws.specs.Handled.{Input, processed}
use Rattle.turn_client_laws.specs.LawsReplies.{IsAccepted}
use Rattle.turn_client_laws.specs.LawsRequests.{IsAnswer, IsListedAgain, IsMade, IsMadeAgain, Spells}
use Rattle.turn_client_laws.specs.LawsGone.{GivesBack, IsTakenByReply, IsRemovedByInput, grant_identity}
use Rattle.turn_client_laws.proofs.EditsOfMessages.{found-has, retried-has}
use Rattle.turn_client_laws.proofs.MoveLemmas.{Loses, Moves, Never, Settles, adds-filter, adds-more, adds-one, adds-same, loses-filter, loses-more, loses-same, loses-wider, on_test}
use Rattle.turn_client_laws.proofs.MoveLemmas.{settles-moves, settles-same, settles-wider}
use Rattle.turn_client_laws.proofs.MoveReplyLemmas.{IsFor, response-fits}
use Rattle.turn_client_laws.proofs.OneInputLemmas.{input-by}
use Rattle.turn_client_laws.proofs.CaseLemmas.{bind-by, found-local}
use Rattle.turn_client_laws.proofs.GrantOriginLemmas.{has-mapped}
use Rattle.turn_client_laws.proofs.StandLemmas.{has-contains}
use Rattle.turn_client_laws.proofs.GrantOriginMessageLemmas.{for-allocation}

-- the message requests this, and removes grants so
abbrev pub MovesByMessage : (Grant → Type 0) → List ℕ → ℕ → State → State → Type 0
MovesByMessage Taken message now s t = Moves (IsMadeAgain message now s t) (IsListedAgain message now s t) Taken s t

pub moves-settled : (Taken : Grant → Type 0) (message : List ℕ) (now : ℕ) (s t : State) → Settles Taken s t → MovesByMessage Taken message now s t
moves-settled Taken message now s t settles = settles-moves (IsMadeAgain message now s t) (IsListedAgain message now s t) Taken s t settles

pub moves_by_message-same : (Taken : Grant → Type 0) (message : List ℕ) (now : ℕ) (s : State) → MovesByMessage Taken message now s s
moves_by_message-same Taken message now s = moves-settled Taken message now s s (settles-same Taken s)

-- what holds of a request as it is listed for each of these purposes
pub each-listing : (P : Listing → Type 0) (id : ℕ) (all : List Purpose) → ((p : Purpose) → Has p all → P (record { id = id; purpose = p })) → (l : Listing)
    → Has l (listings id all) → P l
each-listing P id all each l there =
    let (p, h, e) = has-mapped (λ (p : Purpose). record { id = id; purpose = p }) l all there in
    subst P (sym e) (each p h)

-- the request is made for one purpose, and listed for some
module _ (message : List ℕ) (now : ℕ) (s t : State) (purpose : Purpose) (answers : Has purpose (purposes_of (id_of message) s)) (made : IsMade purpose (waits_from now s) s t) where
  made-again : IsMadeAgain message now s t (first_sent (fresh_id s) t.remote (waits_from now s) made.text)
  made-again = (purpose, has-contains purpose (purposes_of (id_of message) s) answers, (made, refl))

  listed-again : (some : List Purpose) → ((p : Purpose) → Has p some → Has p (purposes_of (id_of message) s)) → (l : Listing) → Has l (listings (fresh_id s) some) → IsListedAgain message now s t l
  listed-again some each = each-listing (IsListedAgain message now s t) (fresh_id s) some (λ p h. (
    purpose,
    has-contains purpose (purposes_of (id_of message) s) answers,
    has-contains p (purposes_of (id_of message) s) (each p h),
    (made, refl),
  ))

-- the transaction of a request for the purpose
abbrev pub request_made : Purpose → ℕ → State → State → Transaction
request_made purpose now s u = first_sent (fresh_id s) u.remote (waits_from now u) (request_for u purpose (fresh_id s))

-- these bytes request it, if they are outstanding after the others
abbrev pub made-of : (purpose : Purpose) (now : ℕ) (s t : State) (text : List ℕ) → Spells purpose (fresh_id s) text t → (ts : List Transaction)
    → t.transactions ≡ ts ++ first_sent (fresh_id s) t.remote now text ∷ [] → IsMade purpose now s t
made-of purpose now s t text spelled ts e = record {
  text = text;
  spelled = spelled;
  outstanding = rw e (has-contains _ _ (has-right (first_sent (fresh_id s) t.remote now text) ts _ (inl refl)));
}

-- whatever the state was in which it is requested
abbrev pub requested-made : (purpose : Purpose) (now : ℕ) (s u : State) → IsMade purpose (waits_from now u) s (requested (fresh_id s) purpose now u)
requested-made purpose now s u =
    made-of purpose (waits_from now u) s (requested (fresh_id s) purpose now u) (request_for u purpose (fresh_id s)) (inl refl) u.transactions refl

-- ---- over the control connection

retry-moves : (Taken : Grant → Type 0) (message : List ℕ) (purpose : Purpose) (d : Challenge) (now : ℕ) (s : State) → Has purpose (purposes_of (id_of message) s)
    → MovesByMessage Taken message now s (state_after_retry s (id_of message) purpose d now)
retry-moves Taken message purpose d now s answers = (
  adds-one _ s.transactions (A.without_transaction (id_of message) s.transactions) _ (adds-filter _ _ s.transactions) (made-again message now s t purpose answers made),
  adds-more _ s.listed s.listed _ (adds-same _ s.listed) (listed-again message now s t purpose answers made (purposes_of (id_of message) s) (λ p h. h)),
  loses-same Taken s.grants,
)
  where
    t : State
    t = state_after_retry s (id_of message) purpose d now

    made : IsMade purpose (waits_from now s) s t
    made = made-of purpose (waits_from now s) s t (request_for t purpose (fresh_id s)) (inl refl) (A.without_transaction (id_of message) s.transactions) refl

challenge-moves : (Taken : Grant → Type 0) (message : List ℕ) (d : Challenge) (now : ℕ) (s : State) → MovesByMessage Taken message now s (challenge_step message d now s).1
challenge-moves Taken message d now s = by (ltb s.challenges s.config.max_stale_nonces) refl (retried (purposes_of (id_of message) s)) refl
  where
    by : (b : Bool) → ltb s.challenges s.config.max_stale_nonces ≡ b → (o : Option Purpose)
        → retried (purposes_of (id_of message) s) ≡ o → MovesByMessage Taken message now s (challenge_step message d now s).1
    by false e o f =
        rw e (moves-settled Taken message now s _ (adds-same Never s.transactions, adds-filter Never _ s.listed, loses-same Taken s.grants))
    by true e None f = rw (e, f) (moves_by_message-same Taken message now s)
    by true e (Some purpose) f = rw (e, f) (retry-moves Taken message purpose d now s (retried-has (purposes_of (id_of message) s) purpose f))

wrong-moves : (Taken : Grant → Type 0) (p : Phase) (message : List ℕ) (now : ℕ) (s : State) → MovesByMessage Taken message now (record s { phase = p }) (wrong_step message (record s { phase = p })).1
wrong-moves Taken Requesting message now s = moves-settled Taken message now (record s { phase = Requesting }) _
    (adds-filter Never _ s.transactions, adds-filter Never _ s.listed, loses-same Taken s.grants)
wrong-moves Taken p message now s =
    moves-settled Taken message now (record s { phase = p }) _ (adds-same Never s.transactions, adds-filter Never _ s.listed, loses-same Taken s.grants)

granted-moves : (Taken : Grant → Type 0) (message : List ℕ) (now : ℕ) (s : State) → MovesByMessage Taken message now s (allocate_granted message now (transaction_ended (id_of message) s))
granted-moves Taken message now s = by (lifetime_in message) refl
  where
    by : (o : Option ℕ) → lifetime_in message ≡ o → MovesByMessage Taken message now s (allocate_granted message now (transaction_ended (id_of message) s))
    by None e = rw e (moves-settled Taken message now s _ (adds-filter Never _ s.transactions, adds-filter Never _ s.listed, loses-same Taken s.grants))
    by (Some lifetime) e = rw e (moves-settled Taken message now s _ (
      adds-filter Never _ s.transactions,
      adds-filter Never _ s.listed,
      loses-more Taken s.grants s.grants _
          (loses-same Taken s.grants),
    ))

-- an ALLOCATE is refused, and may be made again for IPv6 alone
denied-moves : (Taken : Grant → Type 0) (message : List ℕ) (now : ℕ) (s : State) → Has ForAllocation (purposes_of (id_of message) s)
    → MovesByMessage Taken message now s (allocate_denied (fresh_id s) message now (transaction_ended (id_of message) s))
denied-moves Taken message now s answers = by (has_code family_not_supported message && leb 2 (length s.families)) refl
  where
    u : State
    u = wait (AllocationCreateFailed IPV4 ∷ []) (record (in_phase s.phase (transaction_ended (id_of message) s)) { families = IPV6 ∷ [] })

    made : IsMade ForAllocation (waits_from now s) s (requested (fresh_id s) ForAllocation now u)
    made = requested-made ForAllocation now s u

    one : (p : Purpose) → Has p (ForAllocation ∷ []) → Has p (purposes_of (id_of message) s)
    one p (inl e) = rw e answers
    one p (inr h) = absurd h

    by : (b : Bool) → (has_code family_not_supported message && leb 2 (length s.families)) ≡ b
        → MovesByMessage Taken message now s (allocate_denied (fresh_id s) message now (transaction_ended (id_of message) s))
    by false e = rw e (moves-settled Taken message now s _ (adds-filter Never _ s.transactions, adds-filter Never _ s.listed, loses-same Taken s.grants))
    by true e = rw e (
      adds-one _ s.transactions (A.without_transaction (id_of message) s.transactions) _ (adds-filter _ _ s.transactions)
          (made-again message now s (requested (fresh_id s) ForAllocation now u) ForAllocation answers made),
      adds-more _ s.listed (filter (λ l. not (is_for_allocation l.purpose)) s.listed) _ (adds-filter _ _ s.listed)
          (listed-again message now s (requested (fresh_id s) ForAllocation now u) ForAllocation answers made (ForAllocation ∷ []) one),
      loses-same Taken s.grants,
    )

-- ---- what is so judged answers an ALLOCATE

error-answers : (s : State) (message : List ℕ) → authenticating_judgement s message ≡ SignedError → Has ForAllocation (purposes_of (id_of message) s)
error-answers s message e = by (answers_allocate s message) refl
  where
    by : (b : Bool) → answers_allocate s message ≡ b → Has ForAllocation (purposes_of (id_of message) s)
    by true f = for-allocation (purposes_of (id_of message) s) (and_parts (is_response (class_in message)) (list_any is_for_allocation (purposes_of (id_of message) s)) f).1
    by false f = let no : Unrelated ≡ SignedError = rw f at e in cc

-- ---- signed replies

-- what its request was made for
abbrev TakesFor : Judgement → List ℕ → State → Grant → Type 0
TakesFor j message s g = IsAccepted j × ((p : Purpose) × IsAnswer message s p × ((is_for p g ≡ true) ⊎ GivesBack p))

reply-moves : (j : Judgement) → IsAccepted j → (is_granted : Bool) (message : List ℕ) (now : ℕ) (s : State)
    → MovesByMessage (TakesFor j message s) message now s (response_step is_granted message now s).1
reply-moves j accepted is_granted message now s =
    moves-settled (TakesFor j message s) message now s (response_step is_granted message now s).1
    (settles-wider (IsFor all) (TakesFor j message s) s (response_step is_granted message now s).1 wider (response-fits is_granted message now s))
  where
    all : List Purpose
    all = purposes_of (id_of message) s

    wider : (g : Grant) → IsFor all g → TakesFor j message s g
    wider g (p, h, is) = (accepted, (p, has-contains p all h, is))

success-moves : (p : Phase) (message : List ℕ) (now : ℕ) (s : State) → MovesByMessage (TakesFor SignedSuccess message (record s { phase = p })) message now (record s { phase = p })
    (signed_step true message now (record s { phase = p })).1
success-moves Authenticating message now s = granted-moves _ message now (record s { phase = Authenticating })
success-moves p message now s = reply-moves SignedSuccess tt true message now (record s { phase = p })

error-moves : (p : Phase) (message : List ℕ) (now : ℕ) (s : State) → judgement_of (record s { phase = p }) message ≡ SignedError
    → MovesByMessage (TakesFor SignedError message (record s { phase = p })) message now (record s { phase = p }) (signed_step false message now (record s { phase = p })).1
error-moves Authenticating message now s e =
    let u = record s { phase = Authenticating } in denied-moves _ message now u (error-answers u message e)
error-moves p message now s e = reply-moves SignedError tt false message now (record s { phase = p })

-- ---- what the server requests

requested-moves : (Taken : Grant → Type 0) (message : List ℕ) (now : ℕ) (s : State) → MovesByMessage Taken message now s (attempt_requested message s)
requested-moves Taken message now s = moves-settled Taken message now s _ (by (connection_id_in message) refl (peer_in message) refl)
  where
    same : Settles Taken s s
    same = settles-same Taken s

    by : (i : Option ℕ) → connection_id_in message ≡ i → (p : Option SocketAddr) → peer_in message ≡ p → Settles Taken s (attempt_requested message s)
    by (Some id) e (Some peer) f =
        rw (e, f)
        (on_test (Settles Taken s) (not (is_some (find_allocation_to Tcp (socket_ip peer) s))) _ _ same
        (on_test (Settles Taken s) (is_connected peer s) _ _ same
        (adds-same Never s.transactions, adds-same Never s.listed, loses-more Taken s.grants s.grants _ (loses-same Taken s.grants))))
    by (Some id) e None f = rw (e, f) same
    by None e p f = rw e same

indicated-settles : (Taken : Grant → Type 0) (message : List ℕ) (s : State) → IfSome (attempt_indicated message s) (Settles Taken s)
indicated-settles Taken message s = by (connection_id_in message) refl (peer_in message) refl
  where
    accepted_if : (b : Bool) (t : State) → Settles Taken s t → IfSome (cond b (Some t) None) (Settles Taken s)
    accepted_if true t k = k
    accepted_if false t k = tt

    by : (i : Option ℕ) → connection_id_in message ≡ i → (p : Option SocketAddr) → peer_in message ≡ p → IfSome (attempt_indicated message s) (Settles Taken s)
    by (Some id) e (Some peer) f = rw (e, f) (accepted_if (accepts_attempt peer s) _
        (adds-same Never s.transactions, adds-same Never s.listed, loses-more Taken s.grants s.grants _ (loses-same Taken s.grants)))
    by (Some id) e None f = rw (e, f) tt
    by None e p f = rw e tt

-- ---- a whole message

pub message-moves : (message : List ℕ) (now : ℕ) (s : State) → MovesByMessage (IsTakenByReply message s) message now s (message_step message now s).1
message-moves message now s = by (judgement_of s message) refl
  where
    indicated : (Taken : Grant → Type 0) (o : Option State) → IfSome o (Settles Taken s)
        → MovesByMessage Taken message now s (option_map_or {T = State} {U = Outcome × State} (λ t. (Handled, t)) o (Ignored, s)).1
    indicated Taken None k = moves_by_message-same Taken message now s
    indicated Taken (Some t) k = moves-settled Taken message now s t k

    asked : (Taken : Grant → Type 0) (b : Bool) → MovesByMessage Taken message now s (cond {A = Outcome × State} b (Handled, attempt_requested message s) (Ignored, s)).1
    asked Taken true = requested-moves Taken message now s
    asked Taken false = moves_by_message-same Taken message now s

    by : (j : Judgement) → judgement_of s message ≡ j → MovesByMessage (TakesFor j message s) message now s (message_step message now s).1
    by (Challenged d) e = rw e (challenge-moves _ message d now s)
    by Fatal e = rw e (wrong-moves _ s.phase message now s)
    by ConnectionAttempt e = rw e (indicated _ (attempt_indicated message s) (indicated-settles _ message s))
    by SignedRequest e = rw e (asked _ (eqb (method_in message) connection_attempt_method))
    by SignedSuccess e = rw e (success-moves s.phase message now s)
    by SignedError e = rw e (error-moves s.phase message now s e)
    by j e = rw e (moves_by_message-same _ message now s)

-- ---- connections that wait to be bound

-- the deadline of the connection from this local address alone is set
deadline-loses : (Taken : Grant → Type 0) (local : SocketAddr) (deadline : Option ℕ) (gs : List Grant) → ((g : Grant) → is_connection_from local g ≡ true → Taken g)
    → Loses Taken gs (map (deadline_set local deadline) gs)
deadline-loses Taken local deadline gs takes g there = elim (cases_Bool (is_connection_from local g)) [
  | inl e ↦ inr (takes g e)
  | inr e ↦ inl (deadline_set local deadline g, map-has (deadline_set local deadline) g gs there, same g e)
]
  where
    same : (g : Grant) → is_connection_from local g ≡ false → grant_identity g ≡ grant_identity (deadline_set local deadline g)
    same (Connection c) e = rw e refl
    same (Allocation a) e = refl
    same (Permission ip progress) e = refl
    same (Channel number peer progress) e = refl
    same (Connect peer) e = refl
    same (Offer offer) e = refl

again-moves : (c : DataConnection) (message : List ℕ) (d : Challenge) (now : ℕ) (s : State)
    → MovesByMessage (λ g. is_connection_from c.local g ≡ true) message now s (bind_again c (id_of message) d now s)
again-moves c message d now s = by (find (is_bind_of c.local) (purposes_of (id_of message) s)) refl
  where
    u : State
    u = unlisted (is_connection_from c.local) (with_held d s)

    by : (o : Option Purpose) → find (is_bind_of c.local) (purposes_of (id_of message) s) ≡ o
        → MovesByMessage (λ g. is_connection_from c.local g ≡ true) message now s (bind_again c (id_of message) d now s)
    by None e = rw e (moves_by_message-same _ message now s)
    by (Some purpose) e =
        let answers = found-has (is_bind_of c.local) (purposes_of (id_of message) s) purpose e in
        let t = with_deadline c.local (Some (later_by bind_time now)) (requested (fresh_id s) purpose now u) in
        let made : IsMade purpose (waits_from now s) s t = record { text = request_for u purpose (fresh_id s); spelled = inl refl; outstanding = (requested-made purpose now s u).outstanding } in
        rw e (
          adds-one _ s.transactions s.transactions (request_made purpose now s u) (adds-same _ s.transactions) (made-again message now s t purpose answers made),
          adds-more _ s.listed u.listed (listings (fresh_id s) (purpose ∷ [])) (adds-filter _ _ s.listed) (listed-again message now s t purpose answers made (purpose ∷ []) (only purpose answers)),
          deadline-loses _ c.local _ s.grants (λ g e. e),
        )
      where
        only : (purpose : Purpose) → Has purpose (purposes_of (id_of message) s) → (p : Purpose) → Has p (purpose ∷ []) → Has p (purposes_of (id_of message) s)
        only purpose answers p (inl e) = rw e answers
        only purpose answers p (inr h) = absurd h

answered-moves : (c : DataConnection) (message : List ℕ) (now : ℕ) (s : State) → MovesByMessage (λ g. is_connection_from c.local g ≡ true) message now s (bind_answered c message now s)
answered-moves c message now s = by (bind_judgement s c.local message) refl
  where
    Taken : Grant → Type 0
    Taken g = is_connection_from c.local g ≡ true

    unbound : MovesByMessage Taken message now s (not_bound c s)
    unbound = moves-settled Taken message now s (not_bound c s)
        (adds-same Never s.transactions, adds-filter Never _ s.listed, loses-filter Taken (is_connection_from c.local) s.grants (λ g e. e))

    by : (j : Judgement) → bind_judgement s c.local message ≡ j → MovesByMessage Taken message now s (bind_answered c message now s)
    by (Challenged d) e = rw e (again-moves c message d now s)
    by SignedSuccess e = rw e (moves-settled Taken message now s (bound c (transaction_ended (id_of message) s))
        (adds-filter Never _ s.transactions, adds-filter Never _ s.listed, deadline-loses Taken c.local None s.grants (λ g e. e)))
    by SignedError e = rw e (moves-settled Taken message now s (not_bound c (transaction_ended (id_of message) s))
        (adds-filter Never _ s.transactions, adds-filter Never _ s.listed, loses-filter Taken (is_connection_from c.local) s.grants (λ g e. e)))
    by j e = rw e unbound

pub bind-moves : (local : SocketAddr) (message : List ℕ) (now : ℕ) (s : State)
    → MovesByMessage (λ g. is_connection_from local g ≡ true) message now s (bind_step local message now s)
bind-moves local message now s =
    let Taken = λ (a : SocketAddr) (g : Grant). is_connection_from a g ≡ true in
    bind-by (MovesByMessage (Taken local) message now s) local message now s (moves_by_message-same (Taken local) message now s)
    (λ c allocated found method. subst (λ a. MovesByMessage (Taken a) message now s (bind_answered c message now s)) (found-local local c _ found) (answered-moves c message now s))

-- ---- datagrams and frames

moves-wider : (Taken Other : Grant → Type 0) (message : List ℕ) (now : ℕ) (s t : State)
    → ((g : Grant) → Taken g → Other g) → MovesByMessage Taken message now s t → MovesByMessage Other message now s t
moves-wider Taken Other message now s t wider (made, listed, lost) = (made, listed, loses-wider Taken Other s.grants t.grants wider lost)

-- an input that is processed requests this, and removes grants by its message, or since it was received over
-- the connection itself
pub input-moves : (one : Input) → MovesByMessage (λ g. IsRemovedByInput g one) one.bytes one.time one.before (processed one).1
input-moves one =
    let bytes = one.bytes in
    let now = one.time in
    let s = one.before in
    let Taken = λ (g : Grant). IsRemovedByInput g one in
    let Over = λ (local : SocketAddr) (g : Grant). is_connection_from local g ≡ true in
    input-by (MovesByMessage Taken bytes now s) one (moves_by_message-same Taken bytes now s)
    (λ over whole. moves-wider (IsTakenByReply bytes s) Taken bytes now s _ (λ g h. inl h) (message-moves bytes now s))
    (λ stream of waits whole. moves-wider (Over stream.local) Taken bytes now s _ (λ g h. inr (rw of (waits, h))) (bind-moves stream.local bytes now s))
