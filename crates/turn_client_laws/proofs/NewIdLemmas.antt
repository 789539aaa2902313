-- Of more IDs than are taken one is free.
use Rattle.turn_client_laws.proofs.Common.{◌≡◌, ℕ, zero, suc, ◌+◌, ◌/◌, ◌%◌, ◌<◌, ◌≤◌, ◌^◌, Bool, true, false, not, eqb, leb, ltb, List, [], ◌∷◌, ◌++◌, map, filter_map, find, length, Option, Some}
use Rattle.turn_client_laws.proofs.Common.{None, refl, sym, ◌∙◌, arith, inl, inr, list_any, range_with_len, IsDistinct, AllByRecursion, div-add-mod, mul-le-mul_left, mul-suc, eqb-true, leb-true}
use Rattle.turn_client_laws.proofs.Common.{leb-false, le-ltb, lt-ltb, ltb-false, ltb-true, ne_eqb, not-false, not-true, length-append, length-map, list_any-append}
use Rattle.turn_client_laws.proofs.Machine.{is_outstanding, next_id, find-passes, State, Grant, Offer, Origin, ServerRequest, is_of_request, as_offer, counted_up, fresh_id, is_taken, max_ids_taken}
use Rattle.turn_client_laws.proofs.Machine.{cases_Option}
use Rattle.std.specs.Prelude.{option_and_then}
use Rattle.std.specs.Set.{is_member}
use Rattle.std.proofs.Math.Bool.{or_assoc}
use Rattle.std.proofs.lemmas.Cmp.{nat_eq_equiv}
use Rattle.std.proofs.lemmas.List.FromFn.{length-map-range_with_len}
use Rattle.std.proofs.lemmas.Map.Made.{length-le_from_is_member}
use Rattle.turn_client_laws.proofs.MoveLemmas.{none-found}
use Rattle.turn_client_laws.proofs.InAllocationLemmas.{any-has}

-- ---- candidates

-- two numbers less than m apart differ modulo m
unlike-mod : (a b m : ℕ) → a < b → b < a + m → a % m ≡ b % m → ⊥
unlike-mod a b m less near same = by (leb (b / m) (a / m)) refl
  where
    by : (t : Bool) → leb (b / m) (a / m) ≡ t → ⊥
    by true e = omega (arith, less, same, div-add-mod a m, div-add-mod b m, mul-le-mul_left m (leb-true (b / m) (a / m) e))
    by false e =
        let up : suc (a / m) ≤ b / m = leb-false (b / m) (a / m) e in
        omega (arith, near, same, div-add-mod a m, div-add-mod b m, mul-le-mul_left m up, mul-suc m (a / m))

-- as it counts modulo 2^96, and after that
pub counted-small : (start n : ℕ) → n < 2 ^ 96 → counted_up start n ≡ (start + n) % 2 ^ 96
counted-small start n small = let e = lt-ltb n (2 ^ 96) small in rw e refl

counted-large : (start n : ℕ) → 2 ^ 96 ≤ n → counted_up start n ≡ n
counted-large start n large = let e = le-ltb n (2 ^ 96) large in rw e refl

-- two numbers are counted up to two numbers
unlike-counted : (start i n : ℕ) → i < n → counted_up start i ≡ counted_up start n → ⊥
unlike-counted start i n less same = by (ltb i (2 ^ 96)) refl (ltb n (2 ^ 96)) refl
  where
    by : (a : Bool) → ltb i (2 ^ 96) ≡ a → (b : Bool) → ltb n (2 ^ 96) ≡ b → ⊥
    by true e true f =
        let small = ltb-true n (2 ^ 96) f in
        unlike-mod (start + i) (start + n) (2 ^ 96) (omega (arith, less)) (omega (arith, small))
        (sym (counted-small start i (ltb-true i (2 ^ 96) e)) ∙ (same ∙ counted-small start n small))
    by true e false f =
        let large = ltb-false n (2 ^ 96) f in
        let is : (start + i) % 2 ^ 96 ≡ n = sym (counted-small start i (ltb-true i (2 ^ 96) e)) ∙ (same ∙ counted-large start n large) in
        omega (arith, large, is)
    by false e b f =
        let large = ltb-false i (2 ^ 96) e in
        let more : 2 ^ 96 ≤ n = omega (arith, large, less) in
        let is : i ≡ n = sym (counted-large start i large) ∙ (same ∙ counted-large start n more) in
        omega (arith, is, less)

-- so many numbers from one of them on, counted up from the start
abbrev candidates : ℕ → ℕ → ℕ → List ℕ
candidates start place count = map (counted_up start) (range_with_len place count)

later-differ : (start i place count : ℕ) → i < place → AllByRecursion (λ y. eqb (counted_up start i) y ≡ false) (candidates start place count)
later-differ start i place zero behind = tt
later-differ start i place (suc count) behind =
    (ne_eqb (counted_up start i) (counted_up start place) (unlike-counted start i place behind), later-differ start i (place + 1) count (omega (arith, behind)))

candidates-distinct : (start place count : ℕ) → IsDistinct eqb (candidates start place count)
unfolding IsDistinct
candidates-distinct start place zero = tt
candidates-distinct start place (suc count) =
    (later-differ start place (place + 1) count (omega arith), candidates-distinct start (place + 1) count)

-- ---- IDs that are taken

-- the ID of the server's request that is to be answered
request_in : Origin → Option ℕ
request_in (ServerRequest id) = Some id
request_in _ = None

offered_id : Grant → Option ℕ
offered_id grant = option_and_then (λ offer. request_in offer.origin) (as_offer grant)

taken_ids : State → List ℕ
taken_ids s = map (λ t. t.id) s.transactions ++ map (λ l. l.id) s.listed ++ filter_map offered_id s.grants

any-ids : {X : Type 0} (id : X → ℕ) (q : ℕ) (xs : List X) → list_any (eqb q) (map id xs) ≡ list_any (λ x. eqb (id x) q) xs
any-ids id q [] = refl
any-ids id q (x ∷ xs) = rw (nat_eq_equiv.symm q (id x), any-ids id q xs) refl

any-offered : (q : ℕ) (gs : List Grant) → list_any (eqb q) (filter_map offered_id gs) ≡ list_any (is_of_request q) gs
unfolding offered_id request_in
any-offered q [] = refl
any-offered q (Offer offer ∷ gs) = by offer.origin (any-offered q gs)
  where
    Same : List Grant → Type 0
    Same list = list_any (eqb q) (filter_map offered_id list) ≡ list_any (is_of_request q) list

    by : (o : Origin) → Same gs → Same (Offer (record offer { origin = o }) ∷ gs)
    by (ServerRequest id) later = rw (nat_eq_equiv.symm q id, later) refl
    by o later = later
any-offered q (_ ∷ gs) = any-offered q gs

any-taken : (q : ℕ) (s : State) → list_any (eqb q) (taken_ids s) ≡ is_taken q s
unfolding taken_ids
any-taken q s =
    rw (
      list_any-append (eqb q) (map (λ t. t.id) s.transactions ++ map (λ l. l.id) s.listed) (filter_map offered_id s.grants),
      list_any-append (eqb q) (map (λ t. t.id) s.transactions) (map (λ l. l.id) s.listed),
      any-ids (λ t. t.id) q s.transactions,
      any-ids (λ l. l.id) q s.listed,
      any-offered q s.grants,
    )
    (or_assoc (is_outstanding q s.transactions) (list_any (λ l. eqb l.id q) s.listed) (list_any (is_of_request q) s.grants))

length-filter_map : {X Y : Type 0} (f : X → Option Y) (xs : List X) → length (filter_map f xs) ≤ length xs
length-filter_map f [] = omega arith
length-filter_map {Y = Y} f (x ∷ xs) =
    elim (cases_Option (f x)) [ inl e ↦ rw e (omega (arith, length-filter_map f xs)) | inr (y, e) ↦ rw e (omega (arith, length-filter_map f xs)) ]

length-taken : (s : State) → length (taken_ids s) ≤ max_ids_taken s
unfolding taken_ids
length-taken s =
    rw (
      length-append (map (λ t. t.id) s.transactions ++ map (λ l. l.id) s.listed) (filter_map offered_id s.grants),
      length-append (map (λ t. t.id) s.transactions) (map (λ l. l.id) s.listed),
      length-map s.transactions (λ t. t.id),
      length-map s.listed (λ l. l.id),
    )
    (omega (arith, length-filter_map offered_id s.grants))

-- ---- one is free

-- where none passes, no element does
none-passes : (p : ℕ → Bool) (q : ℕ) (xs : List ℕ) → find p xs ≡ None → list_any (eqb q) xs ≡ true → p q ≡ false
none-passes p q xs none member = let (x, there, is) = any-has (eqb q) xs member in rw (eqb-true q x is) (none-found p x xs none there)

none-absurd : (n k l : ℕ) → n + 1 ≤ k → k ≤ l → l ≤ n → ⊥
none-absurd n k l above more most = omega (arith, above, more, most)

pub fresh-free : (s : State) → is_taken (fresh_id s) s ≡ false
fresh-free s = by (find (λ id. not (is_taken id s)) ids) refl
  where
    ids : List ℕ
    ids = candidates (next_id s.ids) 0 (max_ids_taken s + 1)

    all_taken : find (λ id. not (is_taken id s)) ids ≡ None → (q : ℕ) → is_member eqb ids q ≡ true → is_member eqb (taken_ids s) q ≡ true
    all_taken none q member = any-taken q s ∙ not-false (is_taken q s) (none-passes (λ id. not (is_taken id s)) q ids none member)

    too_many : find (λ id. not (is_taken id s)) ids ≡ None → ⊥
    too_many none =
        let distinct = candidates-distinct (next_id s.ids) 0 (max_ids_taken s + 1) in
        let more = length-le_from_is_member nat_eq_equiv ids (taken_ids s) distinct (all_taken none) in
        let each = length-map-range_with_len (counted_up (next_id s.ids)) 0 (max_ids_taken s + 1) in
        none-absurd (max_ids_taken s) (length ids) (length (taken_ids s)) (rw each (omega arith)) more (length-taken s)

    by : (o : Option ℕ) → find (λ id. not (is_taken id s)) ids ≡ o → is_taken (fresh_id s) s ≡ false
    by (Some id) e = rw e (not-true (is_taken id s) (find-passes (λ q. not (is_taken q s)) ids id e))
    by None e = absurd (too_many e)
