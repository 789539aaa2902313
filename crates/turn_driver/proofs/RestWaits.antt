-- What a client has left to do at one time, if no request times out when it is sent: seven numbers, of which the first that
-- changes gets less.
use Rattle.turn_client_laws.proofs.Common.{◌≡◌, ◌∙◌, ℕ, ◌+◌, ◌^◌, ◌<◌, ◌≤◌, Bool, true, false, cond, eqb, ◌||◌, List, [], ◌∷◌, ◌++◌, ap, arith, filter, inl, inr, refl, sym, nat_le, list_any}
use Rattle.turn_client_laws.proofs.Common.{cases_Bool, eq-eqb, leb-true}
use Rattle.turn_client_laws.proofs.Machine.{TransportType, resent, waiting_from, waits_begun, transaction_timeout, Timers, wait_at, Transaction, timers_of, keepalive_times, is_for, State, Grant, Listing, Phase, New, Has}
use Rattle.turn_client_laws.proofs.Laws.{weight}
use Rattle.turn_driver.proofs.RestWeights.{load, queued}

-- ---- requests of which the wait is over

abbrev pub is_over : Timers → TransportType → ℕ → Transaction → ℕ
is_over timers transport now x = cond (nat_le (transaction_timeout timers transport x) now) 1 0

abbrev pub over : Timers → TransportType → ℕ → List Transaction → ℕ
over timers transport now [] = 0
over timers transport now (x ∷ xs) = is_over timers transport now x + over timers transport now xs

pub over-append : (timers : Timers) (transport : TransportType) (now : ℕ) (xs ys : List Transaction)
    → over timers transport now (xs ++ ys) ≡ over timers transport now xs + over timers transport now ys
over-append timers transport now [] ys = omega arith
over-append timers transport now (x ∷ xs) ys = let later = over-append timers transport now xs ys in omega (arith, later)

pub over-filter : (timers : Timers) (transport : TransportType) (now : ℕ) (p : Transaction → Bool) (xs : List Transaction) → over timers transport now (filter p xs) ≤ over timers transport now xs
over-filter timers transport now p [] = omega arith
over-filter timers transport now p (x ∷ xs) = elim (cases_Bool (p x)) [
  | inl e ↦ let later = over-filter timers transport now p xs in rw e (omega (arith, later))
  | inr e ↦ let later = over-filter timers transport now p xs in rw e (omega (arith, later))
]

-- one of them is taken out
pub over-without : (timers : Timers) (transport : TransportType) (now : ℕ) (p : Transaction → Bool) (x : Transaction) (xs : List Transaction) → Has x xs → p x ≡ false
    → is_over timers transport now x ≡ 1 → over timers transport now (filter p xs) < over timers transport now xs
over-without timers transport now p x [] none e is = absurd none
over-without timers transport now p x (y ∷ ys) (inl same) e is =
    let later = over-filter timers transport now p ys in
    let here : is_over timers transport now y ≡ 1 = ap (is_over timers transport now) (sym same) ∙ is in
    rw (ap p (sym same) ∙ e) (omega (arith, later, here))
over-without timers transport now p x (y ∷ ys) (inr there) e is = elim (cases_Bool (p y)) [
  | inl f ↦ let later = over-without timers transport now p x ys there e is in rw f (omega (arith, later))
  | inr f ↦ let later = over-without timers transport now p x ys there e is in rw f (omega (arith, later))
]

-- a request that was sent now waits
pub not-over : (timers : Timers) (transport : TransportType) (now : ℕ) (x : Transaction) → x.last_send ≡ now → 0 < wait_at timers transport x.resends → now ≤ 2 ^ 62
    → is_over timers transport now x ≡ 0
not-over timers transport now x e waits range = elim (cases_Bool (nat_le (transaction_timeout timers transport x) now)) [
  | inl f ↦ let past = leb-true (transaction_timeout timers transport x) now f in absurd (omega (arith, past, e, waits, range))
  | inr f ↦ rw f refl
]

module _ (timers : Timers) (transport : TransportType) (now : ℕ) (range : now ≤ 2 ^ 62) (waits : (place : ℕ) → 0 < wait_at timers transport place) where
  pub resent-le : (id : ℕ) (xs : List Transaction) → over timers transport now (resent id now xs) ≤ over timers transport now xs
  resent-le id [] = omega arith
  resent-le id (x ∷ xs) = by (eqb x.id id) (resent-le id xs)
    where
      again : Transaction
      again = record x { resends = x.resends + 1; last_send = now }

      by : (b : Bool) → over timers transport now (resent id now xs) ≤ over timers transport now xs
          → is_over timers transport now (cond b again x) + over timers transport now (resent id now xs) ≤ is_over timers transport now x + over timers transport now xs
      by true later = let zero = not-over timers transport now again refl (waits (x.resends + 1)) range in omega (arith, zero, later)
      by false later = omega (arith, later)

  -- nor does one that was just sent for the first time
  pub begun-le : (id : ℕ) (xs : List Transaction) → over timers transport now (waits_begun id now xs) ≤ over timers transport now xs
  begun-le id [] = omega arith
  begun-le id (x ∷ xs) = by (eqb x.id id) (begun-le id xs)
    where
      begun : Transaction
      begun = waiting_from now x

      by : (b : Bool) → over timers transport now (waits_begun id now xs) ≤ over timers transport now xs
          → is_over timers transport now (cond b begun x) + over timers transport now (waits_begun id now xs) ≤ is_over timers transport now x + over timers transport now xs
      by true later = let zero = not-over timers transport now begun refl (waits x.resends) range in omega (arith, zero, later)
      by false later = omega (arith, later)

  pub resent-fewer : (x : Transaction) (xs : List Transaction) → Has x xs → is_over timers transport now x ≡ 1 → over timers transport now (resent x.id now xs) < over timers transport now xs
  resent-fewer x [] none is = absurd none
  resent-fewer x (y ∷ ys) (inl same) is =
      let here : eqb y.id x.id ≡ true = eq-eqb y.id x.id (ap (λ (z : Transaction). z.id) (sym same)) in
      let was : is_over timers transport now y ≡ 1 = ap (is_over timers transport now) (sym same) ∙ is in
      let later = resent-le x.id ys in
      let zero = not-over timers transport now (record y { resends = y.resends + 1; last_send = now }) refl (waits (y.resends + 1)) range in
      rw here (omega (arith, was, later, zero))
  resent-fewer x (y ∷ ys) (inr there) is = by (eqb y.id x.id) (resent-fewer x ys there is)
    where
      again : Transaction
      again = record y { resends = y.resends + 1; last_send = now }

      by : (b : Bool) → over timers transport now (resent x.id now ys) < over timers transport now ys
          → is_over timers transport now (cond b again y) + over timers transport now (resent x.id now ys) < is_over timers transport now y + over timers transport now ys
      by true later = let zero = not-over timers transport now again refl (waits (y.resends + 1)) range in omega (arith, zero, later)
      by false later = omega (arith, later)

-- ---- grants for which no request is listed

abbrev pub unasked_in : List Listing → List Grant → ℕ
unasked_in ls [] = 0
unasked_in ls (g ∷ gs) = cond (list_any (λ l. is_for l.purpose g) ls) 0 1 + unasked_in ls gs

any-append : (g : Grant) (l : Listing) (ls : List Listing) → list_any (λ m. is_for m.purpose g) (ls ++ l ∷ []) ≡ (list_any (λ m. is_for m.purpose g) ls || is_for l.purpose g)
any-append g l [] = by (is_for l.purpose g)
  where
    by : (b : Bool) → (b || false) ≡ (false || b)
    by true = refl
    by false = refl
any-append g l (m ∷ ls) = by (is_for m.purpose g) (any-append g l ls)
  where
    by : (b : Bool) → list_any (λ m. is_for m.purpose g) (ls ++ l ∷ []) ≡ (list_any (λ m. is_for m.purpose g) ls || is_for l.purpose g)
        → (b || list_any (λ m. is_for m.purpose g) (ls ++ l ∷ [])) ≡ ((b || list_any (λ m. is_for m.purpose g) ls) || is_for l.purpose g)
    by true e = refl
    by false e = e

asked-one : (g : Grant) (l : Listing) (ls : List Listing) → cond (list_any (λ m. is_for m.purpose g) (ls ++ l ∷ [])) 0 1 ≤ cond (list_any (λ m. is_for m.purpose g) ls) 0 1
asked-one g l ls = rw (any-append g l ls) (by (list_any (λ m. is_for m.purpose g) ls) (is_for l.purpose g))
  where
    by : (b c : Bool) → cond (b || c) 0 1 ≤ cond b 0 1
    by true c = omega arith
    by false true = omega arith
    by false false = omega arith

asked-le : (l : Listing) (ls : List Listing) (gs : List Grant) → unasked_in (ls ++ l ∷ []) gs ≤ unasked_in ls gs
asked-le l ls [] = omega arith
asked-le l ls (g ∷ gs) = let one = asked-one g l ls in let later = asked-le l ls gs in omega (arith, one, later)

-- a request for one of them is listed
pub asked-fewer : (l : Listing) (ls : List Listing) (g : Grant) (gs : List Grant) → Has g gs → list_any (λ m. is_for m.purpose g) ls ≡ false → is_for l.purpose g ≡ true
    → unasked_in (ls ++ l ∷ []) gs < unasked_in ls gs
asked-fewer l ls g [] none e f = absurd none
asked-fewer l ls g (h ∷ gs) (inl same) e f =
    let later = asked-le l ls gs in
    let free : list_any (λ m. is_for m.purpose h) ls ≡ false = ap (λ (x : Grant). list_any (λ m. is_for m.purpose x) ls) (sym same) ∙ e in
    let is : is_for l.purpose h ≡ true = ap (is_for l.purpose) (sym same) ∙ f in
    let asked : list_any (λ m. is_for m.purpose h) (ls ++ l ∷ []) ≡ true = any-append h l ls ∙ rw (free, is) refl in
    rw (asked, free) (omega (arith, later))
asked-fewer l ls g (h ∷ gs) (inr there) e f = let one = asked-one h l ls in let later = asked-fewer l ls g gs there e f in omega (arith, one, later)

-- ---- all that is left

abbrev pub may_begin : Phase → ℕ
may_begin New = 1
may_begin phase = 0

-- an indication is to keep the path alive now
abbrev pub may_keep : ℕ → State → ℕ
may_keep now s = cond (list_any (λ time. nat_le time now) (keepalive_times s)) 1 0

abbrev pub left_to_await : ℕ → State → List ℕ
left_to_await now s =
    weight s.streams
    ∷ may_begin s.phase
    ∷ over (timers_of s.config) s.transport now s.transactions
    ∷ load s.grants
    ∷ unasked_in s.listed s.grants
    ∷ may_keep now s
    ∷ queued s
    ∷ []
