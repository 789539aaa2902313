-- Which requests are outstanding after a message: those that were, and one with an ID that was used.
use Rattle.turn_client_laws.proofs.Common.{◌≡◌, ℕ, Bool, true, false, cond, ◌&&◌, eqb, leb, List, [], ◌∷◌, ◌++◌, fold, length, Option, Some, None, ◌⊎◌, inl, inr, refl, subst, ◌∙◌, arith, eqb-true}
use Rattle.turn_client_laws.proofs.Common.{eq-eqb, IpAddr, SocketAddr}
use Rattle.turn_client_laws.proofs.Machine.{id_of, AddressFamily, is_outstanding, Transaction, State, Progress, Pending, Active, Purpose, ForRefresh, ForPermission, ForChannel, ForConnect, Phase}
use Rattle.turn_client_laws.proofs.Machine.{Authenticating, channel_at, first_in, purposes_of, fresh_id, connection_id_in, allocate_denied, allocate_granted, channel_answered, connect_answered}
use Rattle.turn_client_laws.proofs.Machine.{effect, transaction_ended, family_not_supported, has_code, permission_answered, permission_answered_for, listed_permissions_answered, refreshed}
use Rattle.turn_client_laws.proofs.Machine.{answered_purposes, response_step, signed_step, Has, has-append}
use Rattle.turn_agent.specs.Agent as A
use Rattle.turn_client_laws.proofs.InAllocationLemmas.{any-has, has-any}

-- ---- effects request nothing

abbrev pub AsksNothing : State → State → Type 0
AsksNothing s t = t.transactions ≡ s.transactions

pub asks-fold : {X : Type 0} (f : State → X → State) → ((t : State) (x : X) → AsksNothing t (f t x)) → (xs : List X) (s : State) → AsksNothing s (fold f s xs)
asks-fold f step [] s = refl
asks-fold f step (x ∷ xs) s = asks-fold f step xs (f s x) ∙ step s x

pub asks-cond : (b : Bool) (s t u : State) → AsksNothing s t → AsksNothing s u → AsksNothing s (cond b t u)
asks-cond true s t u k l = k
asks-cond false s t u k l = l

permission-asks : (ip : IpAddr) (is_granted : Bool) (now : ℕ) (s : State) → AsksNothing s (permission_answered ip is_granted now s)
permission-asks ip is_granted now s = grind arith

permission_state-asks : (is_granted : Bool) (now : ℕ) (t : State) (p : Purpose) → AsksNothing t (permission_answered_for is_granted now t p)
permission_state-asks is_granted now t p = grind (arith, permission-asks)

permissions-asks : (id : ℕ) (is_granted : Bool) (now : ℕ) (s : State) → AsksNothing s (listed_permissions_answered id is_granted now s)
permissions-asks id is_granted now s = asks-fold (permission_answered_for is_granted now) (permission_state-asks is_granted now) (purposes_of id s) s

channel-asks : (number id : ℕ) (is_granted : Bool) (now : ℕ) (s : State) → AsksNothing s (channel_answered number id is_granted now s)
channel-asks number id is_granted now s = by (first_in (channel_at number) s) refl is_granted
  where
    by : (o : Option (SocketAddr × Progress)) → first_in (channel_at number) s ≡ o → (g : Bool) → AsksNothing s (channel_answered number id g now s)
    by (Some (peer, Pending is_kept)) e true = rw e (permissions-asks id true now s)
    by (Some (peer, Pending is_kept)) e false = rw e refl
    by (Some (peer, Active expiry)) e true = rw e refl
    by o e g = rw e refl

connect-asks : (peer : SocketAddr) (o : Option ℕ) (s : State) → AsksNothing s (connect_answered peer o s)
connect-asks peer o s = grind arith

refreshed-asks : (family : AddressFamily) (lifetime : ℕ) (is_granted : Bool) (message : List ℕ) (now : ℕ) (s : State) → AsksNothing s (refreshed family lifetime is_granted message now s)
refreshed-asks family lifetime is_granted message now s = grind arith

effect-asks : (id : ℕ) (is_granted : Bool) (message : List ℕ) (now : ℕ) (s : State) (p : Purpose) → AsksNothing s (effect id is_granted message now s p)
effect-asks id is_granted message now s (ForRefresh family lifetime) = refreshed-asks family lifetime is_granted message now s
effect-asks id is_granted message now s (ForPermission ip) = permission-asks ip is_granted now s
effect-asks id is_granted message now s (ForChannel number peer) = channel-asks number id is_granted now s
effect-asks id is_granted message now s (ForConnect peer) = connect-asks peer (cond is_granted (connection_id_in message) None) s
effect-asks id is_granted message now s p = refl

-- a signed reply ends its request, and requests nothing
pub reply-asks : (is_granted : Bool) (message : List ℕ) (now : ℕ) (s : State) → AsksNothing (transaction_ended (id_of message) s) (response_step is_granted message now s).1
reply-asks is_granted message now s =
    asks-fold (effect (id_of message) is_granted message now) (effect-asks (id_of message) is_granted message now) (answered_purposes message s) (transaction_ended (id_of message) s)

pub granted-asks : (message : List ℕ) (now : ℕ) (s : State) → AsksNothing s (allocate_granted message now s)
granted-asks message now s = grind arith

-- ---- signed replies

-- the request with this ID is one of these, or the ID is the next one
abbrev pub IsOneOf : ℕ → List Transaction → State → Type 0
IsOneOf id ts s = (is_outstanding id ts ≡ true) ⊎ (id ≡ fresh_id s)

pub has-IsOneOf : (x : Transaction) (ts : List Transaction) (s : State) → Has x ts → IsOneOf x.id ts s
has-IsOneOf x ts s there = inl (has-any (λ (y : Transaction). eqb y.id x.id) x ts there (eq-eqb x.id x.id refl))

-- what is outstanding is the ID of a request
pub outstanding-IsOneOf : (id : ℕ) (us ts : List Transaction) (s : State) → ((x : Transaction) → Has x us → IsOneOf x.id ts s) → is_outstanding id us ≡ true
    → IsOneOf id ts s
outstanding-IsOneOf id us ts s each h =
    let (x, there, is) = any-has (λ (y : Transaction). eqb y.id id) us h in
    subst (λ (n : ℕ). IsOneOf n ts s) (eqb-true x.id id is) (each x there)

denied-one : (id : ℕ) (message : List ℕ) (now : ℕ) (s : State)
    → is_outstanding id (allocate_denied (fresh_id s) message now (transaction_ended (id_of message) s)).transactions ≡ true
    → IsOneOf id (A.without_transaction (id_of message) s.transactions) s
denied-one id message now s = by (has_code family_not_supported message && leb 2 (length s.families)) refl
  where
    left : List Transaction
    left = A.without_transaction (id_of message) s.transactions

    one : (x : Transaction) → x.id ≡ fresh_id s → (y : Transaction) → Has y left ⊎ Has y (x ∷ []) → IsOneOf y.id left s
    one x drawn y (inl there) = has-IsOneOf y left s there
    one x drawn y (inr (inl e)) = inr (rw e drawn)
    one x drawn y (inr (inr none)) = absurd none

    by : (b : Bool) → (has_code family_not_supported message && leb 2 (length s.families)) ≡ b
        → is_outstanding id (allocate_denied (fresh_id s) message now (transaction_ended (id_of message) s)).transactions ≡ true → IsOneOf id left s
    by true e = rw e (outstanding-IsOneOf id (left ++ _ ∷ []) left s (λ y there. one _ refl y (has-append y left (_ ∷ []) there)))
    by false e = rw e (λ h. inl h)

-- what a signed reply leaves outstanding
pub signed-one : (id : ℕ) (p : Phase) (is_granted : Bool) (message : List ℕ) (now : ℕ) (s : State)
    → is_outstanding id (signed_step is_granted message now (record s { phase = p })).1.transactions ≡ true → IsOneOf id (A.without_transaction (id_of message) s.transactions) s
signed-one id Authenticating true message now s h = inl (rw (granted-asks message now (transaction_ended (id_of message) (record s { phase = Authenticating }))) at h)
signed-one id Authenticating false message now s h = denied-one id message now (record s { phase = Authenticating }) h
signed-one id p g message now s h = inl (rw (reply-asks g message now (record s { phase = p })) at h)
