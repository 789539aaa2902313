-- Which channel number is bound.
use Rattle.turn_client_laws.proofs.Common.{◌≡◌, ◌⊎◌, ℕ, zero, suc, ◌+◌, ◌<◌, ◌≤◌, Bool, true, false, not, Some, None, refl, sym, ap, inl, inr, arith, find, range_with_len, cases_lt, not-true}
use Rattle.turn_client_laws.proofs.Common.{not-false, cases_Bool, none-some, same_Some}
use Rattle.turn_client_laws.proofs.Machine.{State, channel_numbers, free_number, is_number_taken}
use Rattle.turn_client_laws.specs.LawsBodies.{AreTakenUpTo, IsLeastFree}

-- ---- a search through numbers that count up

-- the first that passes
record IsFirst (p : ℕ → Bool) (start len n : ℕ) : Type 0 where
  from : start ≤ n
  to : n < start + len
  passes : p n ≡ true
  below : (m : ℕ) → start ≤ m → m < n → p m ≡ false

-- none of them passes
abbrev FailAll : (ℕ → Bool) → ℕ → ℕ → Type 0
FailAll p start end = (m : ℕ) → start ≤ m → m < end → p m ≡ false

find-IsFirst : (p : ℕ → Bool) (start len n : ℕ) → find p (range_with_len start len) ≡ Some n → IsFirst p start len n
find-IsFirst p start zero n e = absurd (none-some n e)
find-IsFirst p start (suc len) n e = elim (cases_Bool (p start)) [
  | inl f ↦
      let same : start ≡ n = same_Some start n (rw f at e) in
      record {
        from = omega (arith, same);
        to = omega (arith, same);
        passes = rw (sym same) f;
        below = λ m low high. absurd (omega (arith, same, low, high));
      }
  | inr f ↦
      let l = find-IsFirst p (start + 1) len n (rw f at e) in
      record {
        from = let low = l.from in omega (arith, low);
        to = let high = l.to in omega (arith, high);
        passes = l.passes;
        below = λ m low high. elim (cases_lt start m) [
          | inl above ↦ l.below m (omega (arith, above)) high
          | inr here ↦ let same : m ≡ start = omega (arith, low, here) in rw same f
        ];
      }
]

find-FailAll : (p : ℕ → Bool) (start len : ℕ) → find p (range_with_len start len) ≡ None → FailAll p start (start + len)
find-FailAll p start zero e m low high = absurd (omega (arith, low, high))
find-FailAll p start (suc len) e m low high = elim (cases_Bool (p start)) [
  | inl f ↦ absurd (none-some start (sym (rw f at e)))
  | inr f ↦ elim (cases_lt start m) [
    | inl above ↦ find-FailAll p (start + 1) len (rw f at e) m (omega (arith, above)) (omega (arith, high))
    | inr here ↦ let same : m ≡ start = omega (arith, low, here) in rw same f
  ]
]

FailAll-find : (p : ℕ → Bool) (start len : ℕ) → FailAll p start (start + len) → find p (range_with_len start len) ≡ None
FailAll-find p start zero none = refl
FailAll-find p start (suc len) none =
    rw (none start (omega arith) (omega arith))
    (FailAll-find p (start + 1) len (λ m low high. none m (omega (arith, low)) (omega (arith, high))))

first-find : (p : ℕ → Bool) (start len n : ℕ) → IsFirst p start len n → find p (range_with_len start len) ≡ Some n
first-find p start zero n is = let low = is.from in let high = is.to in absurd (omega (arith, low, high))
first-find p start (suc len) n is = by (cases_lt start n) (first-find p (start + 1) len n)
  where
    by : (start < n) ⊎ (n ≤ start) → (IsFirst p (start + 1) len n → find p (range_with_len (start + 1) len) ≡ Some n) → find p (range_with_len start (suc len)) ≡ Some n
    by (inr here) later =
        let low = is.from in
        let same : n ≡ start = omega (arith, low, here) in
        let passes : p start ≡ true = rw (sym same) is.passes in
        rw passes (ap Some (sym same))
    by (inl above) later =
        let high = is.to in
        rw (is.below start (omega arith) above)
        (later (record {
          from = omega (arith, above);
          to = omega (arith, high);
          passes = is.passes;
          below = λ m low less. is.below m (omega (arith, low)) less;
        }))

-- ---- channel numbers

module _ (s : State) where
  is_free : ℕ → Bool
  is_free number = not (is_number_taken number s)

  pub free-found : (number : ℕ) → free_number s ≡ Some number → IsLeastFree number s
  unfolding is_free channel_numbers
  free-found number e =
      let is = find-IsFirst is_free 0x4000 0x1000 number e in
      record {
        first = is.from;
        last = let high = is.to in omega (arith, high);
        free = not-true (is_number_taken number s) is.passes;
        below = λ m low less. not-false (is_number_taken m s) (is.below m low less);
      }

  pub free-only : (number : ℕ) → IsLeastFree number s → free_number s ≡ Some number
  unfolding is_free channel_numbers
  free-only number is = first-find is_free 0x4000 0x1000 number (record {
    from = is.first;
    to = let high = is.last in omega (arith, high);
    passes = rw is.free refl;
    below = λ m low less. rw (is.below m low less) refl;
  })

  pub free-none : free_number s ≡ None → AreTakenUpTo 0x5000 s
  unfolding is_free channel_numbers
  free-none e m low less = not-false (is_number_taken m s) (find-FailAll is_free 0x4000 0x1000 e m low (omega (arith, less)))

  pub free-all : AreTakenUpTo 0x5000 s → free_number s ≡ None
  unfolding is_free channel_numbers
  free-all taken = FailAll-find is_free 0x4000 0x1000 (λ m low less. rw (taken m low (omega (arith, less))) refl)
