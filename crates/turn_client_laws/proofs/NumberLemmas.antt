-- Channels keep numbers of their own when grants are added and removed, and so in all calls.
use Rattle.turn_client_laws.proofs.Common.{◌≡◌, ℕ, Bool, true, false, not, cond, eqb, List, [], ◌∷◌, ◌++◌, filter, filter_map, Option, Some, None, refl, inl, inr, list_any, IsDistinct, AllByRecursion}
use Rattle.turn_client_laws.proofs.Common.{or_parts, cases_Bool, append-nil, filter_map-append, SocketAddr}
use Rattle.turn_client_laws.proofs.Machine.{Grant, Channel, Offer, is_channel_of, is_offer_of, without_first, Has}
use Rattle.turn_client_laws.specs.LawsNumbers.{number_of_channel}

-- the numbers of the channels among these grants
abbrev pub numbers : List Grant → List ℕ
numbers grants = filter_map number_of_channel grants

-- no two of them have one number
abbrev pub AreApart : List Grant → Type 0
AreApart grants = IsDistinct eqb (numbers grants)

-- what holds of all numbers holds of those that stay
all-filter : (P : ℕ → Type 0) (p : Grant → Bool) (gs : List Grant) → AllByRecursion P (numbers gs) → AllByRecursion P (numbers (filter p gs))
all-filter P p [] h = h
all-filter P p (g ∷ gs) h = by (number_of_channel g) refl (p g) refl (all-filter P p gs)
  where
    by : (o : Option ℕ) → number_of_channel g ≡ o → (b : Bool) → p g ≡ b → (AllByRecursion P (numbers gs) → AllByRecursion P (numbers (filter p gs))) → AllByRecursion P (numbers (filter p (g ∷ gs)))
    by None e true f later = rw (f, e) (later (rw e at h))
    by None e false f later = rw f (later (rw e at h))
    by (Some n) e true f later = rw (f, e) ((rw e at h).0, later (rw e at h).1)
    by (Some n) e false f later = rw f (later (rw e at h).1)

pub apart-filter : (p : Grant → Bool) (gs : List Grant) → AreApart gs → AreApart (filter p gs)
unfolding IsDistinct
apart-filter p [] h = h
apart-filter p (g ∷ gs) h = by (number_of_channel g) refl (p g) refl (apart-filter p gs)
  where
    by : (o : Option ℕ) → number_of_channel g ≡ o → (b : Bool) → p g ≡ b → (AreApart gs → AreApart (filter p gs)) → AreApart (filter p (g ∷ gs))
    by None e true f later = rw (f, e) (later (rw e at h))
    by None e false f later = rw f (later (rw e at h))
    by (Some n) e true f later = rw (f, e) (all-filter (λ m. eqb n m ≡ false) p gs (rw e at h).0, later (rw e at h).1)
    by (Some n) e false f later = rw f (later (rw e at h).1)

-- grants that are no channels
pub apart-others : (gs hs : List Grant) → numbers hs ≡ [] → AreApart gs → AreApart (gs ++ hs)
apart-others gs hs none h = rw (filter_map-append number_of_channel gs hs, none, append-nil (numbers gs)) h

-- what holds of all holds of one of them
pub all-of : {A : Type 0} (P : A → Type 0) (x : A) (xs : List A) → AllByRecursion P xs → Has x xs → P x
all-of P x [] all none = absurd none
all-of P x (y ∷ xs) all (inl is) = rw is all.0
all-of P x (y ∷ xs) all (inr there) = all-of P x xs all.1 there

pub all-last : {A : Type 0} (P : A → Type 0) (x : A) (xs : List A) → P x → AllByRecursion P xs → AllByRecursion P (xs ++ x ∷ [])
all-last P x [] last h = (last, tt)
all-last P x (y ∷ xs) last h = (h.0, all-last P x xs last h.1)

pub distinct-last : {A : Type 0} (same : A → A → Bool) (x : A) (xs : List A) → AllByRecursion (λ y. same y x ≡ false) xs → IsDistinct same xs
    → IsDistinct same (xs ++ x ∷ [])
unfolding IsDistinct
distinct-last same x [] free h = (tt, tt)
distinct-last same x (y ∷ xs) free h = (all-last (λ z. same y z ≡ false) x xs free.0 h.0, distinct-last same x xs free.1 h.1)

-- no channel has the number
all-free : (n : ℕ) (gs : List Grant) → list_any (is_channel_of n) gs ≡ false → AllByRecursion (λ m. eqb m n ≡ false) (numbers gs)
all-free n [] free = tt
all-free n (Channel m peer progress ∷ gs) free = let parts = or_parts (eqb m n) (list_any (is_channel_of n) gs) free in (parts.0, all-free n gs parts.1)
all-free n (_ ∷ gs) free = all-free n gs free

-- a channel of a number that none has
pub apart-channel : (n : ℕ) (gs hs : List Grant) → list_any (is_channel_of n) gs ≡ false → numbers hs ≡ n ∷ [] → AreApart gs → AreApart (gs ++ hs)
apart-channel n gs hs free one h =
    rw (filter_map-append number_of_channel gs hs, one) (distinct-last eqb n (numbers gs) (all-free n gs free) h)

-- what was removed is not in the list
pub none-filter : {X : Type 0} (p : X → Bool) (xs : List X) → list_any p (filter (λ x. not (p x)) xs) ≡ false
none-filter p [] = refl
none-filter p (x ∷ xs) = elim (cases_Bool (p x)) [ inl e ↦ rw e (none-filter p xs) | inr e ↦ rw (e, e) (none-filter p xs) ]

-- an offer is removed
pub numbers-without_first : (id : ℕ) (peer : SocketAddr) (gs : List Grant) → numbers (without_first (is_offer_of id peer) gs) ≡ numbers gs
numbers-without_first id peer [] = refl
numbers-without_first id peer (Channel number other progress ∷ gs) = rw (numbers-without_first id peer gs) refl
numbers-without_first id peer (Offer offer ∷ gs) = by (is_offer_of id peer (Offer offer)) (numbers-without_first id peer gs)
  where
    by : (b : Bool) → numbers (without_first (is_offer_of id peer) gs) ≡ numbers gs → numbers (cond b gs (Offer offer ∷ without_first (is_offer_of id peer) gs)) ≡ numbers gs
    by true later = refl
    by false later = later
numbers-without_first id peer (_ ∷ gs) = numbers-without_first id peer gs
