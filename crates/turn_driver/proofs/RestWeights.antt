-- What a client has left to do at one time: five numbers, of which the first that changes gets less.
use Rattle.turn_client_laws.proofs.Common.{◌≡◌, ◌∙◌, ℕ, zero, suc, ◌+◌, ◌-◌, ◌<◌, ◌≤◌, Bool, true, false, cond, not, List, [], ◌∷◌, ◌++◌, ◌⊎◌, ap, arith, filter, inl, inr, length, refl, subst, sym}
use Rattle.turn_client_laws.proofs.Common.{cases_Bool}
use Rattle.turn_client_laws.proofs.Machine.{TransportType, Timers, resends_of, Transaction, timers_of, is_paused, State, Grant, Allocation, Channel, Connect, Connection, Offer, Permission, Active}
use Rattle.turn_client_laws.proofs.Machine.{Pending, Reserved, Has}
use Rattle.turn_client_laws.proofs.Laws.{weight}

-- ---- lists of numbers of which the first that differ decide

abbrev pub IsLess : List ℕ → List ℕ → Type 0
IsLess [] ys = ⊥
IsLess (x ∷ xs) [] = ⊥
IsLess (x ∷ xs) (y ∷ ys) = (x < y) ⊎ ((x ≡ y) × IsLess xs ys)

pub less-trans : (xs ys zs : List ℕ) → IsLess xs ys → IsLess ys zs → IsLess xs zs
less-trans [] ys zs l m = absurd l
less-trans (x ∷ xs) [] zs l m = absurd l
less-trans (x ∷ xs) (y ∷ ys) [] l m = absurd m
less-trans (x ∷ xs) (y ∷ ys) (z ∷ zs) (inl l) (inl m) = inl (omega (arith, l, m))
less-trans (x ∷ xs) (y ∷ ys) (z ∷ zs) (inl l) (inr (e, m)) = inl (omega (arith, l, e))
less-trans (x ∷ xs) (y ∷ ys) (z ∷ zs) (inr (e, l)) (inl m) = inl (omega (arith, e, m))
less-trans (x ∷ xs) (y ∷ ys) (z ∷ zs) (inr (e, l)) (inr (f, m)) = inr (e ∙ f, less-trans xs ys zs l m)

-- what holds of a list of n numbers where it holds of each lesser one holds of all
abbrev Descends : ℕ → (List ℕ → Type 0) → Type 0
Descends n P = (xs : List ℕ) → length xs ≡ n → ((ys : List ℕ) → length ys ≡ n → IsLess ys xs → P ys) → P xs

abbrev HoldsOfAll : ℕ → (List ℕ → Type 0) → Type 0
HoldsOfAll n P = (xs : List ℕ) → length xs ≡ n → P xs

lesser : (P : List ℕ → Type 0) (bound n x : ℕ) (zs ys : List ℕ) → x < suc bound → length ys ≡ suc n → ((y : ℕ) (ws : List ℕ) → y < bound → length ws ≡ n → P (y ∷ ws))
    → ((ws : List ℕ) → length ws ≡ n → IsLess ws zs → P (x ∷ ws)) → IsLess ys (x ∷ zs) → P ys
lesser P bound n x zs [] less e heads tails l = absurd l
lesser P bound n x zs (y ∷ ys) less e heads tails (inl l) = heads y ys (omega (arith, l, less)) (omega (arith, e))
lesser P bound n x zs (y ∷ ys) less e heads tails (inr (same, l)) = subst (λ (h : ℕ). P (h ∷ ys)) (sym same) (tails ys (omega (arith, e)) l)

-- all of which the first number is less than this
below : (n : ℕ) (P : List ℕ → Type 0) → Descends (suc n) P → ((x : ℕ) → Descends n (λ zs. P (x ∷ zs)) → HoldsOfAll n (λ zs. P (x ∷ zs)))
    → (bound x : ℕ) (xs : List ℕ) → x < bound → length xs ≡ n → P (x ∷ xs)
below n P step tails zero x xs less e = absurd (omega (arith, less))
below n P step tails (suc bound) x xs less e =
    tails x (λ zs f later. step (x ∷ zs) (omega (arith, f)) (λ ys g l. lesser P bound n x zs ys less g (λ y ws l e. below n P step tails bound y ws l e) later l)) xs e

pub descends : (n : ℕ) (P : List ℕ → Type 0) → Descends n P → HoldsOfAll n P
descends zero P step xs e = step xs e (none xs e)
  where
    none : (xs : List ℕ) → length xs ≡ zero → (ys : List ℕ) → length ys ≡ zero → IsLess ys xs → P ys
    none xs e [] f l = absurd l
    none xs e (y ∷ ys) f l = absurd (omega (arith, f))
descends (suc n) P step [] e = absurd (omega (arith, e))
descends (suc n) P step (x ∷ xs) e = below n P step (λ y. descends n (λ zs. P (y ∷ zs))) (x + 1) x xs (omega arith) (omega (arith, e))

-- ---- the grants

-- A channel that expires is reserved for a while, and then free; an offer is reported, and then taken. So these count twice.
abbrev pub steps_of : Grant → ℕ
steps_of (Channel number peer (Active lease)) = 2
steps_of (Offer offer) = cond offer.is_reported 1 2
steps_of g = 1

abbrev pub load : List Grant → ℕ
load [] = 0
load (g ∷ gs) = steps_of g + load gs

some-steps : (g : Grant) → 0 < steps_of g
some-steps (Allocation a) = omega arith
some-steps (Permission ip progress) = omega arith
some-steps (Channel number peer (Active lease)) = omega arith
some-steps (Channel number peer (Pending is_kept)) = omega arith
some-steps (Channel number peer (Reserved until)) = omega arith
some-steps (Connect peer) = omega arith
some-steps (Offer offer) = elim (cases_Bool offer.is_reported) [ inl e ↦ rw e (omega arith) | inr e ↦ rw e (omega arith) ]
some-steps (Connection c) = omega arith

pub load-append : (gs hs : List Grant) → load (gs ++ hs) ≡ load gs + load hs
load-append [] hs = omega arith
load-append (g ∷ gs) hs = let later = load-append gs hs in omega (arith, later)

pub load-filter : (p : Grant → Bool) (gs : List Grant) → load (filter p gs) ≤ load gs
load-filter p [] = omega arith
load-filter p (g ∷ gs) = elim (cases_Bool (p g)) [
  | inl e ↦ let later = load-filter p gs in rw e (omega (arith, later))
  | inr e ↦ let later = load-filter p gs in rw e (omega (arith, later))
]

-- either no grant is removed, or less remains
abbrev pub IsParted : (Grant → Bool) → List Grant → Type 0
IsParted which gs = ((filter (λ g. not (which g)) gs ≡ gs) × (filter which gs ≡ [])) ⊎ (load (filter (λ g. not (which g)) gs) < load gs)

pub parted : (which : Grant → Bool) (gs : List Grant) → IsParted which gs
parted which [] = inl (refl, refl)
parted which (g ∷ gs) = elim (cases_Bool (which g)) [
  | inl e ↦ let some = some-steps g in let later = load-filter (λ h. not (which h)) gs in rw e (inr (omega (arith, some, later)))
  | inr e ↦ elim (parted which gs) [
    | inl (same, none) ↦ rw e (inl (ap (λ (hs : List Grant). g ∷ hs) same, none))
    | inr less ↦ rw e (inr (omega (arith, less)))
  ]
]

-- a grant that is removed takes its steps with it
pub removed-load : (which : Grant → Bool) (g : Grant) (gs : List Grant) → Has g gs → which g ≡ true → load (filter (λ h. not (which h)) gs) + steps_of g ≤ load gs
removed-load which g [] none e = absurd none
removed-load which g (h ∷ gs) (inl same) e =
    let here : which h ≡ true = ap which (sym same) ∙ e in
    let steps : steps_of g ≡ steps_of h = ap steps_of same in
    let later = load-filter (λ x. not (which x)) gs in rw here (omega (arith, steps, later))
removed-load which g (h ∷ gs) (inr there) e = elim (cases_Bool (which h)) [
  | inl f ↦ let later = removed-load which g gs there e in rw f (omega (arith, later))
  | inr f ↦ let later = removed-load which g gs there e in rw f (omega (arith, later))
]

-- ---- the requests that await their responses

abbrev pub resends_left : Timers → TransportType → List Transaction → ℕ
resends_left timers transport [] = 0
resends_left timers transport (t ∷ ts) = (resends_of timers transport - t.resends) + resends_left timers transport ts

pub fewer : {X : Type 0} (p : X → Bool) (x : X) (xs : List X) → Has x xs → p x ≡ false → length (filter p xs) < length xs
fewer p x [] none e = absurd none
fewer p x (y ∷ ys) (inl same) e = let later = no-more p ys in rw (ap p (sym same) ∙ e) (omega (arith, later))
  where
    no-more : {X : Type 0} (p : X → Bool) (xs : List X) → length (filter p xs) ≤ length xs
    no-more p [] = omega arith
    no-more p (x ∷ xs) = elim (cases_Bool (p x)) [
      | inl e ↦ let later = no-more p xs in rw e (omega (arith, later))
      | inr e ↦ let later = no-more p xs in rw e (omega (arith, later))
    ]
fewer p x (y ∷ ys) (inr there) e = elim (cases_Bool (p y)) [
  | inl f ↦ let later = fewer p x ys there e in rw f (omega (arith, later))
  | inr f ↦ let later = fewer p x ys there e in rw f (omega (arith, later))
]

-- ---- all that is left

-- a new request may be sent now
abbrev pub may_send : ℕ → State → ℕ
may_send now s = cond (is_paused now s) 0 1

pub may-same : (now : ℕ) (s t : State) → t.config ≡ s.config → t.last_send ≡ s.last_send → may_send now t ≡ may_send now s
may-same now s t e f = rw (e, f) refl

abbrev pub queued : State → ℕ
queued s = length s.queue + length s.events + length s.closes

-- Bytes in the streams; whether a request may be sent; how many await their responses; the grants; and what is to be
-- retransmitted, sent, reported and closed.
abbrev pub left_to_do : ℕ → State → List ℕ
left_to_do now s =
    weight s.streams
    ∷ may_send now s
    ∷ length s.transactions
    ∷ load s.grants
    ∷ (resends_left (timers_of s.config) s.transport s.transactions + queued s)
    ∷ []

-- ---- by any such numbers

-- the second state has less left to do
abbrev pub GetsOn : (State → List ℕ) → State → State → Type 0
GetsOn left s t = IsLess (left t) (left s)

-- or as much, and awaits the same responses
abbrev pub KeepsUp : (State → List ℕ) → State → State → Type 0
KeepsUp left s t = GetsOn left s t ⊎ ((left t ≡ left s) × (t.transactions ≡ s.transactions))

pub gets-on-further : (left : State → List ℕ) (s t u : State) → KeepsUp left s t → GetsOn left t u → GetsOn left s u
gets-on-further left s t u (inl less) further = less-trans (left u) (left t) (left s) further less
gets-on-further left s t u (inr (same, awaits)) further = subst (λ (xs : List ℕ). IsLess (left u) xs) same further

pub five-same : (a b c d e a' b' c' d' e' : ℕ) → a ≡ a' → b ≡ b' → c ≡ c' → d ≡ d' → e ≡ e' → a ∷ b ∷ c ∷ d ∷ e ∷ [] ≡ a' ∷ b' ∷ c' ∷ d' ∷ e' ∷ []
five-same a b c d e a' b' c' d' e' f g h i j = rw (f, g, h, i, j) refl
