-- A CONNECT is listed alone under its ID: once, and for nothing else.
use Rattle.turn_client_laws.proofs.Common.{◌≡◌, ◌∙◌, ℕ, Bool, true, false, eqb, leb, ltb, ◌&&◌, ◌||◌, List, [], ◌∷◌, ◌++◌, map, filter, fold, find, length, Option, Some, None, append-nil, refl, sym}
use Rattle.turn_client_laws.proofs.Common.{subst, ap, inl, inr, is_some, eq-eqb, eqb-true, false_from_ne_true, filter-append, IpAddr, SocketAddr}
use Rattle.turn_client_laws.proofs.Machine.{id_of, AddressFamily, Challenge, State, DataConnection, Listing, Progress, Pending, Active, Purpose, ForRefresh, ForPermission, ForChannel, ForConnect}
use Rattle.turn_client_laws.proofs.Machine.{Phase, New, Authenticating, attempt_indicated, bind_answered, bind_step, connection_at, allocate_denied, allocate_granted, allocation_mismatch}
use Rattle.turn_client_laws.proofs.Machine.{channel_answered, connect_answered, effect, family_not_supported, has_code, min_lifetime, listed_permissions_answered, permission_answered}
use Rattle.turn_client_laws.proofs.Machine.{permission_answered_for, prolonged, refreshed, transaction_ended, channel_at, first_in, permission_state, purposes_of, Judgement, Challenged}
use Rattle.turn_client_laws.proofs.Machine.{ConnectionAttempt, Fatal, SignedError, SignedRequest, SignedSuccess, bind_judgement, is_bind_of, judgement_of, lifetime_in, method_in, Outcome}
use Rattle.turn_client_laws.proofs.Machine.{answered_purposes, challenge_step, message_step, response_step, signed_step, wrong_step, connection_gone, connection_attempt_method, fresh_id, listings}
use Rattle.turn_client_laws.proofs.Machine.{retried, state_after_retry, Has, filter-none, has-append, has-filter, map-has}
use Rattle.turn_client_laws.proofs.Laws.{bind-by, by_found, by_accepted, by_test, indicated-by, requested-by, listing, has-mapped, IsKept, purpose-with}
use Rattle.turn_client_runs.proofs.LastingListings.{filter-swap, filter-all}
use Rattle.turn_client_runs.proofs.TogetherLemmas.{fresh-unlisted}

-- ---- lists of requests

-- what is listed under the ID
abbrev listed_at : ℕ → List Listing → List Listing
listed_at id ls = filter (λ (l : Listing). eqb l.id id) ls

abbrev purposes_at : ℕ → List Listing → List Purpose
purposes_at id ls = map (λ (l : Listing). l.purpose) (listed_at id ls)

-- each CONNECT has its ID for itself
abbrev pub AreLone : List Listing → Type 0
AreLone ls = (id : ℕ) (peer : SocketAddr) → Has (listing id (ForConnect peer)) ls → purposes_at id ls ≡ ForConnect peer ∷ []

same-listing : (l : Listing) (id : ℕ) (p : Purpose) → l.id ≡ id → l.purpose ≡ p → l ≡ listing id p
same-listing l id p e f = rw (sym e, sym f) refl

-- some are removed
pub lone-filter : (p : Listing → Bool) (ls : List Listing) → AreLone ls → AreLone (filter p ls)
lone-filter p ls lone id peer there =
    let (here, passes) = has-filter p (listing id (ForConnect peer)) ls there in
    let all = lone id peer here in
    let kept : filter p (listed_at id ls) ≡ listed_at id ls = filter-all p (listed_at id ls) (λ l among. by l among passes all) in
    ap (map (λ (l : Listing). l.purpose)) (filter-swap (λ (l : Listing). eqb l.id id) p ls ∙ kept) ∙ all
  where
    one : (q : Purpose) → Has q (ForConnect peer ∷ []) → q ≡ ForConnect peer
    one q (inl e) = e
    one q (inr none) = absurd none

    by : (l : Listing) → Has l (listed_at id ls) → p (listing id (ForConnect peer)) ≡ true → purposes_at id ls ≡ ForConnect peer ∷ [] → p l ≡ true
    by l among passes all =
        let number : l.id ≡ id = eqb-true l.id id (has-filter (λ (x : Listing). eqb x.id id) l ls among).1 in
        let for : l.purpose ≡ ForConnect peer = one l.purpose (subst (Has l.purpose) all (map-has (λ (x : Listing). x.purpose) l (listed_at id ls) among)) in
        subst (λ (x : Listing). p x ≡ true) (sym (same-listing l id (ForConnect peer) number for)) passes

-- a CONNECT among these purposes is alone
abbrev IsLoneIn : List Purpose → Type 0
IsLoneIn ps = (peer : SocketAddr) → Has (ForConnect peer) ps → ps ≡ ForConnect peer ∷ []

lone-one : (p : Purpose) → IsLoneIn (p ∷ [])
lone-one p peer (inl e) = rw e refl
lone-one p peer (inr none) = absurd none

not-at : (n id : ℕ) → (n ≡ id → ⊥) → eqb n id ≡ false
not-at n id differ = false_from_ne_true (eqb n id) (λ e. differ (eqb-true n id e))

-- a request more, under an ID that is listed for nothing
pub lone-more : (n : ℕ) (ps : List Purpose) (ls : List Listing) → ((l : Listing) → Has l ls → l.id ≡ n → ⊥) → IsLoneIn ps → AreLone ls → AreLone (ls ++ listings n ps)
lone-more n ps ls free single lone id peer there = elim (has-append (listing id (ForConnect peer)) ls (listings n ps) there) [
  | inl old ↦
      let other : n ≡ id → ⊥ = λ same. free (listing id (ForConnect peer)) old (sym same) in
      both ∙ (rw (none-new other, append-nil (listed_at id ls)) (lone id peer old))
  | inr new ↦
      let (p, among, e) = has-mapped (λ (q : Purpose). record { id = n; purpose = q }) (listing id (ForConnect peer)) ps new in
      let is : id ≡ n = ap (λ (l : Listing). l.id) e in
      let for : ps ≡ ForConnect peer ∷ [] = single peer (subst (λ (q : Purpose). Has q ps) (sym (ap (λ (l : Listing). l.purpose) e)) among) in
      both ∙ (rw (none-old is, for, is, eq-eqb n n refl) refl)
]
  where
    both : purposes_at id (ls ++ listings n ps) ≡ map (λ (l : Listing). l.purpose) (listed_at id ls ++ listed_at id (listings n ps))
    both = ap (map (λ (l : Listing). l.purpose)) (filter-append (λ (l : Listing). eqb l.id id) ls (listings n ps))

    numbered : (l : Listing) → Has l (listings n ps) → l.id ≡ n
    numbered l h = let (p, among, e) = has-mapped (λ (q : Purpose). record { id = n; purpose = q }) l ps h in ap (λ (x : Listing). x.id) e

    none-new : (n ≡ id → ⊥) → listed_at id (listings n ps) ≡ []
    none-new other = filter-none (λ (l : Listing). eqb l.id id) (listings n ps) (λ l h. not-at l.id id (λ f. other (sym (numbered l h) ∙ f)))

    none-old : id ≡ n → listed_at id ls ≡ []
    none-old is = filter-none (λ (l : Listing). eqb l.id id) ls (λ l h. not-at l.id id (λ f. free l h (f ∙ is)))

-- ---- states

abbrev pub HasLoneConnects : State → Type 0
HasLoneConnects s = AreLone s.listed

abbrev pub KeepsLone : State → State → Type 0
KeepsLone s t = HasLoneConnects s → HasLoneConnects t

-- a request more, under the next ID
pub asks-lone : (s : State) (ps : List Purpose) → IsLoneIn ps → AreLone s.listed → AreLone (s.listed ++ listings (fresh_id s) ps)
asks-lone s ps single = lone-more (fresh_id s) ps s.listed (fresh-unlisted s) single

-- where others are removed before
pub asks-filtered : (s : State) (p : Listing → Bool) (ps : List Purpose) → IsLoneIn ps → AreLone s.listed → AreLone (filter p s.listed ++ listings (fresh_id s) ps)
asks-filtered s p ps single lone =
    lone-more (fresh_id s) ps (filter p s.listed) (λ l there. fresh-unlisted s l (has-filter p l s.listed there).0) single (lone-filter p s.listed lone)

-- one purpose alone
pub asks-one : (s : State) (p : Purpose) → AreLone s.listed → AreLone (s.listed ++ listings (fresh_id s) (p ∷ []))
asks-one s p = asks-lone s (p ∷ []) (lone-one p)

pub fold-lone : {X : Type 0} (f : State → X → State) → ((t : State) (x : X) → KeepsLone t (f t x)) → (xs : List X) (s : State) → KeepsLone s (fold f s xs)
fold-lone f each [] s lone = lone
fold-lone f each (x ∷ xs) s lone = fold-lone f each xs (f s x) (each s x lone)

-- ---- what a reply changes

permission-lone : (ip : IpAddr) (is_granted : Bool) (now : ℕ) (s : State) → KeepsLone s (permission_answered ip is_granted now s)
permission-lone ip is_granted now s = by (permission_state ip s) refl is_granted
  where
    by : (o : Option Progress) → permission_state ip s ≡ o → (g : Bool) → KeepsLone s (permission_answered ip g now s)
    by (Some (Pending was)) e true = rw e (lone-filter _ s.listed)
    by (Some (Pending was)) e false = rw e (lone-filter _ s.listed)
    by (Some (Active lease)) e true = rw e (lone-filter _ s.listed)
    by (Some (Active lease)) e false = rw e (lone-filter _ s.listed)
    by o e g = rw e (λ lone. lone)

permission-for-lone : (is_granted : Bool) (now : ℕ) (s : State) (p : Purpose) → KeepsLone s (permission_answered_for is_granted now s p)
permission-for-lone is_granted now s (ForPermission ip) = permission-lone ip is_granted now s
permission-for-lone is_granted now s p = λ lone. lone

channel-lone : (number id : ℕ) (is_granted : Bool) (now : ℕ) (s : State) → KeepsLone s (channel_answered number id is_granted now s)
channel-lone number id is_granted now s = by (first_in (channel_at number) s) refl is_granted
  where
    by : (o : Option (SocketAddr × Progress)) → first_in (channel_at number) s ≡ o → (g : Bool) → KeepsLone s (channel_answered number id g now s)
    by (Some (peer, Pending was)) e true =
        let t = listed_permissions_answered id true now s in
        rw e (λ lone. lone-filter _ t.listed (fold-lone (permission_answered_for true now) (permission-for-lone true now) (purposes_of id s) s lone))
    by (Some (peer, Pending was)) e false = rw e (λ lone. lone-filter _ _ (lone-filter _ s.listed lone))
    by (Some (peer, Active lease)) e true = rw e (lone-filter _ s.listed)
    by (Some (peer, Active lease)) e false = rw e (lone-filter _ s.listed)
    by o e g = rw e (λ lone. lone)

connect-lone : (peer : SocketAddr) (o : Option ℕ) (s : State) → KeepsLone s (connect_answered peer o s)
connect-lone peer (Some id) s = lone-filter _ s.listed
connect-lone peer None s = lone-filter _ s.listed

prolonged-lone : (family : AddressFamily) (lifetime now : ℕ) (s : State) → KeepsLone s (prolonged family lifetime now s)
prolonged-lone family lifetime now s = by_test (KeepsLone s) (leb min_lifetime lifetime) _ s (λ e. lone-filter _ s.listed) (λ e lone. lone)

refreshed-lone : (family : AddressFamily) (lifetime : ℕ) (is_granted : Bool) (message : List ℕ) (now : ℕ) (s : State) → KeepsLone s (refreshed family lifetime is_granted message now s)
refreshed-lone family lifetime is_granted message now s =
    by_test (KeepsLone s) (eqb lifetime 0) _ _
    (λ e. by_test (KeepsLone s) (is_granted || has_code allocation_mismatch message) _ s (λ f lone. lone-filter _ _ (lone-filter _ s.listed lone)) (λ f lone. lone))
    (λ e. by_test (KeepsLone s) is_granted _ s (λ f. by_found (KeepsLone s) _ (lifetime_in message) s (λ n g. prolonged-lone family n now s) (λ lone. lone)) (λ f lone. lone))

effect-lone : (id : ℕ) (is_granted : Bool) (message : List ℕ) (now : ℕ) (s : State) (p : Purpose) → KeepsLone s (effect id is_granted message now s p)
effect-lone id is_granted message now s (ForRefresh family lifetime) = refreshed-lone family lifetime is_granted message now s
effect-lone id is_granted message now s (ForPermission ip) = permission-lone ip is_granted now s
effect-lone id is_granted message now s (ForChannel number peer) = channel-lone number id is_granted now s
effect-lone id is_granted message now s (ForConnect peer) = connect-lone peer _ s
effect-lone id is_granted message now s p = λ lone. lone

response-lone : (is_granted : Bool) (message : List ℕ) (now : ℕ) (s : State) → KeepsLone s (response_step is_granted message now s).1
response-lone is_granted message now s =
    fold-lone (effect (id_of message) is_granted message now) (effect-lone (id_of message) is_granted message now) (answered_purposes message s) (transaction_ended (id_of message) s)

granted-lone : (message : List ℕ) (now : ℕ) (s : State) → KeepsLone s (allocate_granted message now (transaction_ended (id_of message) s))
granted-lone message now s = by_found (KeepsLone s) _ (lifetime_in message) _ (λ n e. lone-filter _ s.listed) (lone-filter _ s.listed)

denied-lone : (message : List ℕ) (now : ℕ) (s : State) → KeepsLone s (allocate_denied (fresh_id s) message now (transaction_ended (id_of message) s))
denied-lone message now s =
    by_test (KeepsLone s) (has_code family_not_supported message && leb 2 (length s.families)) _ _ (λ e. asks-filtered s _ _ (lone-one _)) (λ e. lone-filter _ s.listed)

signed-lone : (is_granted : Bool) (p : Phase) (message : List ℕ) (now : ℕ) (s : State) → KeepsLone (record s { phase = p }) (signed_step is_granted message now (record s { phase = p })).1
signed-lone true Authenticating message now s = granted-lone message now (record s { phase = Authenticating })
signed-lone false Authenticating message now s = denied-lone message now (record s { phase = Authenticating })
signed-lone g p message now s = response-lone g message now (record s { phase = p })

-- ---- messages

-- a request is made again for what it was made for
retry-lone : (message : List ℕ) (purpose : Purpose) (d : Challenge) (now : ℕ) (s : State) → KeepsLone s (state_after_retry s (id_of message) purpose d now)
retry-lone message purpose d now s lone =
    asks-lone s (purposes_of (id_of message) s) (λ peer there. lone (id_of message) peer (purpose-with (id_of message) (ForConnect peer) s there)) lone

challenge-lone : (message : List ℕ) (d : Challenge) (now : ℕ) (s : State) → KeepsLone s (challenge_step message d now s).1
challenge-lone message d now s =
    by_test Claim (ltb s.challenges s.config.max_stale_nonces) _ _
    (λ few. by_found Claim _ (retried (purposes_of (id_of message) s)) _ (λ purpose e. retry-lone message purpose d now s) (λ lone. lone))
    (λ many. lone-filter _ s.listed)
  where
    Claim : Outcome × State → Type 0
    Claim x = KeepsLone s x.1

wrong-lone : (p : Phase) (message : List ℕ) (s : State) → KeepsLone (record s { phase = p }) (wrong_step message (record s { phase = p })).1
wrong-lone New message s = lone-filter _ s.listed
wrong-lone p message s = lone-filter _ s.listed

message-lone : (message : List ℕ) (now : ℕ) (s : State) → KeepsLone s (message_step message now s).1
message-lone message now s = by (judgement_of s message) refl
  where
    same : KeepsLone s s
    same lone = lone

    by : (j : Judgement) → judgement_of s message ≡ j → KeepsLone s (message_step message now s).1
    by (Challenged d) e = rw e (challenge-lone message d now s)
    by Fatal e = rw e (wrong-lone s.phase message s)
    by ConnectionAttempt e = rw e (by_accepted (KeepsLone s) (attempt_indicated message s) s (indicated-by (KeepsLone s) message s (λ id peer accepts lone. lone)) same)
    by SignedRequest e =
        rw e (by_test (λ (x : Outcome × State). KeepsLone s x.1) (eqb (method_in message) connection_attempt_method) _ _
        (λ is. requested-by (KeepsLone s) message s (λ queue lone. lone) (λ id peer room free lone. lone)) (λ other. same))
    by SignedSuccess e = rw e (signed-lone true s.phase message now s)
    by SignedError e = rw e (signed-lone false s.phase message now s)
    by j e = rw e same

bind-lone : (local : SocketAddr) (message : List ℕ) (now : ℕ) (s : State) → KeepsLone s (bind_step local message now s)
bind-lone local message now s = bind-by (KeepsLone s) local message now s (λ lone. lone) (λ c phase found method. by c (bind_judgement s c.local message) refl)
  where
    by : (c : DataConnection) (j : Judgement) → bind_judgement s c.local message ≡ j → KeepsLone s (bind_answered c message now s)
    by c (Challenged d) e =
        rw e (by_found (KeepsLone s) _ (find (is_bind_of c.local) (purposes_of (id_of message) s)) s (λ purpose f. asks-filtered s _ (purpose ∷ []) (lone-one purpose)) (λ lone. lone))
    by c SignedSuccess e = rw e (lone-filter _ s.listed)
    by c SignedError e = rw e (lone-filter _ s.listed)
    by c j e = rw e (lone-filter _ s.listed)

pub gone-lone : (local : SocketAddr) (s : State) → KeepsLone s (connection_gone local s)
gone-lone local s = by_test (KeepsLone s) (is_some (connection_at local s)) _ s (λ is. lone-filter _ s.listed) (λ none lone. lone)

pub KeepsLone-IsKept : IsKept KeepsLone
KeepsLone-IsKept = record {
  same = λ s lone. lone;
  trans = λ s t u first second lone. second (first lone);
  streams = λ s streams lone. lone;
  message = message-lone;
  binds = bind-lone;
  gone = gone-lone;
}
