-- Requests that are made in place of another one.
use Rattle.turn_client_laws.proofs.Common.{◌≡◌, ◌∙◌, ℕ, Bool, true, false, List, [], ◌∷◌, ◌++◌, Some, None, ap, cond, refl, sym, map, eqb-true, false_from_ne_true, lt-ltb, or_parts, list_any, filter}
use Rattle.turn_client_laws.proofs.Common.{SocketAddr}
use Rattle.turn_client_laws.proofs.Machine.{is_outstanding, without_transaction, Transaction, Challenge, transaction_ended, purposes_of, Handled, Ignored, challenge_step, request_started, fresh_id}
use Rattle.turn_client_laws.proofs.Machine.{queued, request_for, requested, phase_after, retried, state_after_retry, waits_from, with_held, State, Listing, Purpose, ForAllocation, id_of}
use Rattle.std.specs.Prelude.{◌==◌, ◌+◌, ◌<◌}

-- the old request is no longer outstanding, whether it ends before the new one is made or after it
pub without-other : (id : ℕ) (t : Transaction) (transactions : List Transaction) → (t.id == id) ≡ false
    → without_transaction id (transactions ++ t ∷ []) ≡ without_transaction id transactions ++ t ∷ []
without-other id t [] other = rw other refl
without-other id t (u ∷ others) other = by (u.id == id) refl (without-other id t others other)
  where
    by : (b : Bool) → (u.id == id) ≡ b → without_transaction id (others ++ t ∷ []) ≡ without_transaction id others ++ t ∷ []
        → without_transaction id ((u ∷ others) ++ t ∷ []) ≡ without_transaction id (u ∷ others) ++ t ∷ []
    by true e rest = rw e rest
    by false e rest = rw e (ap (λ ts. u ∷ ts) rest)

-- the client after the challenge to its request is accepted
abbrev pub taken : State → ℕ → Challenge → State
taken s id challenge = with_held challenge (record (transaction_ended id s) { phase = phase_after s.phase; challenges = s.challenges + 1 })

pub again-is : (s : State) (id fresh : ℕ) (from : SocketAddr) (text : List ℕ) (purpose : Purpose) (challenge : Challenge) (now waits : ℕ) → text ≡ request_for (taken s id challenge) purpose fresh
    → from ≡ s.local → fresh ≡ fresh_id s → waits ≡ waits_from now s
    → queued true from text (request_started fresh text (purposes_of id s) waits (taken s id challenge)) ≡ state_after_retry s id purpose challenge now
again-is s id fresh from text purpose challenge now waits is sent next begins = rw (is, sent, next, begins) refl

-- ---- the new ID is another one

none-found : {A : Type 0} (p : A → Bool) (xs : List A) → list_any p xs ≡ false → filter p xs ≡ []
none-found p [] none = refl
none-found p (x ∷ xs) none = let parts = or_parts (p x) (list_any p xs) none in rw parts.0 (none-found p xs parts.1)

pub none-filtered : {A : Type 0} (p q : A → Bool) (xs : List A) → list_any p xs ≡ false → list_any p (filter q xs) ≡ false
none-filtered p q [] none = refl
none-filtered p q (x ∷ xs) none = by (q x) (or_parts (p x) (list_any p xs) none) (none-filtered p q xs)
  where
    by : (kept : Bool) → (p x ≡ false) × (list_any p xs ≡ false) → (list_any p xs ≡ false → list_any p (filter q xs) ≡ false)
        → list_any p (cond kept (x ∷ filter q xs) (filter q xs)) ≡ false
    by true parts rest = rw (parts.0, rest parts.1) refl
    by false parts rest = rest parts.1

-- a request that is made again is listed, and a fresh one is not
pub asked-other : (id fresh : ℕ) (listed : List Listing) (purpose : Purpose) → list_any (λ l. l.id == fresh) listed ≡ false
    → retried (map (λ l. l.purpose) (filter (λ l. l.id == id) listed)) ≡ Some purpose → (fresh == id) ≡ false
asked-other id fresh listed purpose unlisted request_started = false_from_ne_true _ (λ e.
    let same : fresh ≡ id = eqb-true fresh id e in
    let none : list_any (λ l. l.id == id) listed ≡ false = rw same at unlisted in
    let no : None ≡ Some purpose = rw (none-found (λ l. l.id == id) listed none) at request_started in
    cc)

-- a request that is answered is outstanding, and a fresh one is not
pub answered-other : (id fresh : ℕ) (transactions : List Transaction) → is_outstanding fresh transactions ≡ false → is_outstanding id transactions ≡ true → (fresh == id) ≡ false
answered-other id fresh transactions unsent outstanding = false_from_ne_true _ (λ e.
    let same : fresh ≡ id = eqb-true fresh id e in
    let no : true ≡ false = sym outstanding ∙ (rw same at unsent) in
    cc)

-- ---- a challenge is answered, or concerns no request

pub answered-is : (s : State) (message : List ℕ) (challenge : Challenge) (now : ℕ) (purpose : Purpose) → s.challenges < s.config.max_stale_nonces
    → retried (purposes_of (id_of message) s) ≡ Some purpose
    → challenge_step message challenge now s ≡ (Handled, state_after_retry s (id_of message) purpose challenge now)
answered-is s message challenge now purpose few found = rw (lt-ltb s.challenges s.config.max_stale_nonces few, found) refl

pub unknown-is : (s : State) (message : List ℕ) (challenge : Challenge) (now : ℕ) → s.challenges < s.config.max_stale_nonces → retried (purposes_of (id_of message) s) ≡ None
    → challenge_step message challenge now s ≡ (Ignored, s)
unknown-is s message challenge now few found = rw (lt-ltb s.challenges s.config.max_stale_nonces few, found) refl

-- ---- an ALLOCATE is made again

pub first-is : (s : State) (fresh : ℕ) (from : SocketAddr) (text : List ℕ) (now waits : ℕ) → text ≡ request_for s ForAllocation fresh → from ≡ s.local → waits ≡ waits_from now s
    → queued true from text (request_started fresh text (ForAllocation ∷ []) waits s) ≡ requested fresh ForAllocation now s
first-is s fresh from text now waits is sent begins = rw (is, sent, begins) refl

-- ---- the purposes of a request, by the table

pub purposes-are : (s t : State) (message : List ℕ) (id : ℕ) (listed : List Listing) (purposes : List Purpose) → purposes ≡ map (λ l. l.purpose) (filter (λ l. l.id == id) listed) → listed ≡ s.listed
    → id ≡ id_of message → s ≡ t
    → purposes ≡ purposes_of (id_of message) t
purposes-are s t message id listed purposes read all same is =
    read ∙ (ap (λ ls. map (λ l. l.purpose) (filter (λ l. l.id == id) ls)) all ∙ (ap (λ i. purposes_of i s) same ∙ ap (λ u. purposes_of (id_of message) u) is))
