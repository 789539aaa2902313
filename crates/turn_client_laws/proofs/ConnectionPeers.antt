-- The request that binds a data connection is for the peer that the connection has.
use Rattle.turn_client_laws.proofs.Common.{◌≡◌, ◌∙◌, ℕ, true, false, List, [], ◌∷◌, sym, subst, ap, inl, inr, AllByRecursion, IsDistinct, and_parts, SocketAddr}
use Rattle.turn_client_laws.proofs.Machine.{same_address, State, DataConnection, Grant, Connection, Listing, ForBind, same_address-self, same_address-true, Has}
use Rattle.turn_client_laws.specs.LawsDoubles.{is_double}
use Rattle.turn_client_laws.specs.LawsStates.{is_asked_by}
use Rattle.turn_client_laws.proofs.DoubleLemmas.{AreSingle}
use Rattle.turn_client_laws.proofs.InAllocationLemmas.{any-has}
use Rattle.turn_client_laws.proofs.ListedGrants.{AllHaveGrant, HasGrant}

-- ---- connections of one local address

all-there : (P : Grant → Type 0) (g : Grant) (gs : List Grant) → AllByRecursion P gs → Has g gs → P g
all-there P g [] h none = absurd none
all-there P g (x ∷ gs) h (inl e) = subst P (sym e) h.0
all-there P g (x ∷ gs) h (inr there) = all-there P g gs h.1 there

later-single : (g : Grant) (gs : List Grant) → AreSingle (g ∷ gs) → AreSingle gs
unfolding IsDistinct
later-single g gs h = h.1

first-single : (c d : DataConnection) (gs : List Grant) → AreSingle (Connection c ∷ gs) → Has (Connection d) gs → c.local ≡ d.local → ⊥
unfolding IsDistinct
first-single c d gs h there same =
    let differ : same_address c.local d.local ≡ false = all-there (λ x. is_double (Connection c) x ≡ false) (Connection d) gs h.0 there in
    let equal : same_address c.local d.local ≡ true = subst (λ (local : SocketAddr). same_address c.local local ≡ true) same (same_address-self c.local) in
    let no : true ≡ false = sym equal ∙ differ in
    cc

-- they have one peer
one-connection : (c d : DataConnection) (gs : List Grant) → AreSingle gs → Has (Connection c) gs → Has (Connection d) gs → c.local ≡ d.local → c.peer ≡ d.peer
one-connection c d [] h none there same = absurd none
one-connection c d (g ∷ gs) h (inr first) (inr second) same = one-connection c d gs (later-single g gs h) first second same
one-connection c d (g ∷ gs) h (inl e) (inr second) same = absurd (first-single c d gs (subst (λ (x : Grant). AreSingle (x ∷ gs)) (sym e) h) second same)
one-connection c d (g ∷ gs) h (inr first) (inl f) same = absurd (first-single d c gs (subst (λ (x : Grant). AreSingle (x ∷ gs)) (sym f) h) first (sym same))
one-connection c d (g ∷ gs) h (inl e) (inl f) same = ap (λ (x : DataConnection). x.peer) (alike (e ∙ sym f))
  where
    alike : Connection c ≡ Connection d → c ≡ d
    alike both = cc

-- ---- the connection that a request is for

pub asked-connection : (local peer : SocketAddr) (id : ℕ) (c : DataConnection) (s : State) → AllHaveGrant s → AreSingle s.grants → (l : Listing) → Has l s.listed
    → l.purpose ≡ ForBind local peer id → Has (Connection c) s.grants → c.local ≡ local → c.peer ≡ peer
asked-connection local peer id c s founded single l listed asks there at = by (subst (HasGrant s.grants) asks (founded l listed))
  where
    of : (g : Grant) → Has g s.grants → is_asked_by (ForBind local peer id) g ≡ true → c.peer ≡ peer
    of (Connection d) here e =
        let (ends, to) = and_parts (same_address d.local local) (same_address d.peer peer) e in
        one-connection c d s.grants single there here (at ∙ sym (same_address-true d.local local ends)) ∙ same_address-true d.peer peer to
    of g here e = cc

    by : HasGrant s.grants (ForBind local peer id) → c.peer ≡ peer
    by (inl e) = cc
    by (inr some) = let (g, here, e) = any-has (is_asked_by (ForBind local peer id)) s.grants some in of g here e
