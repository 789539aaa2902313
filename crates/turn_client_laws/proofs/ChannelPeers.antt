-- A channel is granted to the peer of its request.
use Rattle.turn_client_laws.proofs.Common.{◌≡◌, ℕ, true, false, eqb, List, [], ◌∷◌, inl, inr, refl, sym, subst, ◌∙◌, Contains, AllByRecursion, IsDistinct, and_parts, eq-eqb, eqb-true, SocketAddr}
use Rattle.turn_client_laws.proofs.Machine.{id_of, same_address, State, Grant, Permission, Channel, Progress, Pending, Active, Purpose, ForChannel, Listing, purposes_of, Leaves, Call, Delete}
use Rattle.turn_client_laws.proofs.Machine.{same_address-true, Has, has-all, Lease}
use Rattle.turn_client_laws.specs.Handled.{Input, handled}
use Rattle.turn_client_laws.specs.LawsGranted.{GrantsToPeers, HasChannelTo, IsChannelInput, IsEndedNow, IsGivenFor, IsGrantInput, IsGrantedBy, IsSameGrant}
use Rattle.turn_client_laws.specs.LawsNumbers.{HasDistinctNumbers}
use Rattle.turn_client_laws.specs.LawsStates.{HasGrantsAsked, HasItsGrant, is_asked_by}
use Rattle.turn_client_laws.proofs.DistinctNumbers.{AreApart-KeepsGrants}
use Rattle.turn_client_laws.proofs.EditsOfMessages.{edits-IsKept, purposes-listed}
use Rattle.turn_client_laws.proofs.GrantEdits.{grants-KeepsAllEdits}
use Rattle.turn_client_laws.proofs.GrantedLemmas.{leaves-grants}
use Rattle.turn_client_laws.proofs.InAllocationLemmas.{any-has}
use Rattle.turn_client_laws.proofs.ListedGrants.{AllHaveGrant, StayFounded, StayFounded-KeepsAllEdits, HasGrant}
use Rattle.turn_client_laws.proofs.NumberLemmas.{AreApart, numbers}
use Rattle.turn_client_laws.proofs.StandLemmas.{contains-has}
use Rattle.turn_client_laws.proofs.InputKeepLemmas.{before-kept}

-- ---- channels of one number

-- the number is among those of the channels
number-there : (P : ℕ → Type 0) (number : ℕ) (peer : SocketAddr) (progress : Progress) (gs : List Grant) → Has (Channel number peer progress) gs → AllByRecursion P (numbers gs) → P number
number-there P number peer progress [] none h = absurd none
number-there P number peer progress (g ∷ gs) (inl e) h = let at : AllByRecursion P (numbers (Channel number peer progress ∷ gs)) = subst (λ (x : Grant). AllByRecursion P (numbers (x ∷ gs)))
    (sym e) h in at.0
number-there P number peer progress (Channel other to p ∷ gs) (inr there) h = number-there P number peer progress gs there h.1
number-there P number peer progress (_ ∷ gs) (inr there) h = number-there P number peer progress gs there h

later-apart : (g : Grant) (gs : List Grant) → AreApart (g ∷ gs) → AreApart gs
unfolding IsDistinct
later-apart (Channel number peer progress) gs h = h.1
later-apart g gs h = h

-- the first has a number of its own
first-apart : (number : ℕ) (peer to : SocketAddr) (was is : Progress) (gs : List Grant) → AreApart (Channel number peer was ∷ gs) → Has (Channel number to is) gs → ⊥
unfolding IsDistinct
first-apart number peer to was is gs h there =
    let differ : eqb number number ≡ false = number-there (λ n. eqb number n ≡ false) number to is gs there h.0 in
    let no : true ≡ false = sym (eq-eqb number number refl) ∙ differ in
    cc

-- channels of one number have one peer
one-peer : (number : ℕ) (peer to : SocketAddr) (was is : Progress) (gs : List Grant) → AreApart gs → Has (Channel number peer was) gs → Has (Channel number to is) gs → peer ≡ to
one-peer number peer to was is [] h none there = absurd none
one-peer number peer to was is (g ∷ gs) h (inr first) (inr second) = one-peer number peer to was is gs (later-apart g gs h) first second
one-peer number peer to was is (g ∷ gs) h (inl e) (inr second) = absurd (first-apart number peer to was is gs (subst (λ (x : Grant). AreApart (x ∷ gs)) (sym e) h) second)
one-peer number peer to was is (g ∷ gs) h (inr first) (inl f) = absurd (first-apart number to peer is was gs (subst (λ (x : Grant). AreApart (x ∷ gs)) (sym f) h) first)
one-peer number peer to was is (g ∷ gs) h (inl e) (inl f) = same (e ∙ sym f)
  where
    same : Channel number peer was ≡ Channel number to is → peer ≡ to
    same both = cc

-- ---- the channel that a request is for

-- a channel of the number has the peer with which it was requested
pub asked-peer : (number : ℕ) (peer to : SocketAddr) (s : State) → AllHaveGrant s → AreApart s.grants → (l : Listing) → Has l s.listed → l.purpose ≡ ForChannel number peer → HasChannelTo number to s
    → to ≡ peer
asked-peer number peer to s founded apart l listed asks (progress, there) = by (subst (HasGrant s.grants) asks (founded l listed))
  where
    at : (g : Grant) → Has g s.grants → is_asked_by (ForChannel number peer) g ≡ true → to ≡ peer
    at (Channel other of was) here e =
        let parts = and_parts (eqb other number) (same_address of peer) e in
        let named = subst (λ (n : ℕ). Has (Channel n of was) s.grants) (eqb-true other number parts.0) here in
        one-peer number to of progress was s.grants apart (contains-has _ s.grants there) named ∙ same_address-true of peer parts.1
    at g here e = cc

    by : HasGrant s.grants (ForChannel number peer) → to ≡ peer
    by (inl e) = cc
    by (inr some) = let (g, here, e) = any-has (is_asked_by (ForChannel number peer)) s.grants some in at g here e

-- a success for the channel answers the request for its peer
module _ (number : ℕ) (peer : SocketAddr) (expiry : Lease) (message : List ℕ) (now : ℕ) (s : State) (founded : AllHaveGrant s) (apart : AreApart s.grants) where
  is-asked : (p : Purpose) → Has p (purposes_of (id_of message) s) → IsGivenFor p message now s (Channel number peer (Active expiry)) → p ≡ ForChannel number peer
  is-asked (ForChannel other to) listed (named, ends, there) =
      let (l, here, asks) = purposes-listed (id_of message) s (ForChannel other to) listed in
      let same = asked-peer other to peer s founded apart l here asks (subst (λ (n : ℕ). HasChannelTo n peer s) named there) in
      rw (named, same) refl
  is-asked p listed given = absurd given

  by-grant : (was : Grant) (granted : IsGrantedBy message now s was) → IsSameGrant was (Channel number peer (Active expiry)) → granted.purpose ≡ ForChannel number peer
  by-grant (Channel other to (Active end)) granted (a, b, c) =
      is-asked granted.purpose (contains-has granted.purpose (purposes_of (id_of message) s) granted.listed)
      (given granted.purpose granted.given)
    where
      given : (p : Purpose) → IsGivenFor p message now s (Channel other to (Active end)) → IsGivenFor p message now s (Channel number peer (Active expiry))
      given (ForChannel n at) (named, ends, there) = (sym a ∙ named, sym c ∙ ends, rw (sym a, sym b) there)
      given p none = absurd none
  by-grant (Permission ip (Pending is_kept)) granted kept = absurd kept
  by-grant was granted kept = absurd kept

-- ---- over a call

pub leaves-channels : (call : Call) (s t : State) → Leaves call s t → HasGrantsAsked s → HasDistinctNumbers s → GrantsToPeers call s t
leaves-channels call s t leaves asked distinct number peer expiry there = elim (leaves-grants call s t channel leaves there tt) [
  | inl was ↦ inl was
  | inr (inl ended) ↦ absurd (never call ended)
  | inr (inr (one, among, by_input)) ↦ inr (one, among, of_grant one among by_input)
]
  where
    channel : Grant
    channel = Channel number peer (Active expiry)

    of_grant : (one : Input) → Contains (handled call s) one → IsGrantInput channel one → IsChannelInput number peer expiry one
    of_grant one among by_input =
        let founded = before-kept StayFounded (edits-IsKept StayFounded StayFounded-KeepsAllEdits (λ s streams h. h)) call s one among (λ l here. has-all (HasItsGrant s) l s.listed asked here) in
        let apart = before-kept _ (edits-IsKept _ (grants-KeepsAllEdits AreApart AreApart-KeepsGrants) (λ s streams h. h)) call s one among distinct in
        (by_input, by-grant number peer expiry one.bytes one.time one.before founded apart by_input.grant.0 by_input.grant.1 by_input.grant.2)

    never : (call : Call) → IsEndedNow call s channel → ⊥
    never (Delete now) e = e
    never call e = e
