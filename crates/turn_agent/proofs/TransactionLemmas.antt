-- Transactions by their IDs.
use Rattle.std.proofs.Common.{◌≡◌, ℕ, zero, suc, ◌<◌, ◌≤◌, Bool, true, false, cond, eqb, List, [], ◌∷◌, ◌++◌, ◌||◌, length, take, drop, get_or, set, refl, sym, ◌∙◌, inl, inr, arith}
use Rattle.std.proofs.lemmas.Bool.{cases_Bool, or_parts, eq-eqb, eqb-true, ne_eqb, eqb-false}
use Rattle.std.proofs.lemmas.List.{length-append}
use Rattle.std.proofs.lemmas.List.Folds.{list_any-append}
use Rattle.turn_agent.specs.Agent.{is_outstanding, AreDistinct, AreIdsOf, without_transaction, resent, sent_again, waiting_from, waits_begun}
use Rattle.turn_agent.specs.declared.transaction.Transaction.{Transaction}

-- two numbers differ in either order
eqb-false_back : (a b : ℕ) → eqb a b ≡ false → eqb b a ≡ false
eqb-false_back a b differ = ne_eqb b a (λ same. eqb-false a b differ (sym same))

-- one more transaction, with an ID that was not outstanding
pub AreDistinct-push : (ts : List Transaction) (t : Transaction) → AreDistinct ts → is_outstanding t.id ts ≡ false → AreDistinct (ts ++ t ∷ [])
AreDistinct-push [] t distinct fresh = (refl, tt)
AreDistinct-push (u ∷ ts) t distinct fresh =
    let parts = or_parts (eqb u.id t.id) (is_outstanding t.id ts) fresh in (
      rw (list_any-append (λ x. eqb x.id u.id) ts (t ∷ []), distinct.0, eqb-false_back u.id t.id parts.0) refl,
      AreDistinct-push ts t distinct.1 parts.1,
    )

-- if the ID is not outstanding, nothing is left out
pub without-none : (id : ℕ) (ts : List Transaction) → is_outstanding id ts ≡ false → without_transaction id ts ≡ ts
without-none id [] none = refl
without-none id (t ∷ ts) none =
    let parts = or_parts (eqb t.id id) (is_outstanding id ts) none in
    rw (parts.0, without-none id ts parts.1) refl

-- the ID that was left out is not outstanding
pub is_outstanding-without : (id : ℕ) (ts : List Transaction) → is_outstanding id (without_transaction id ts) ≡ false
is_outstanding-without id [] = refl
is_outstanding-without id (t ∷ ts) = elim (cases_Bool (eqb t.id id)) [
  | inl same ↦ rw same (is_outstanding-without id ts)
  | inr other ↦ rw other (rw other (is_outstanding-without id ts))
]

-- nor is one that was not before
is_outstanding-without_other : (id other : ℕ) (ts : List Transaction) → is_outstanding other ts ≡ false → is_outstanding other (without_transaction id ts) ≡ false
is_outstanding-without_other id other [] none = refl
is_outstanding-without_other id other (t ∷ ts) none =
    let parts = or_parts (eqb t.id other) (is_outstanding other ts) none in
    elim (cases_Bool (eqb t.id id)) [
      | inl same ↦ rw same (is_outstanding-without_other id other ts parts.1)
      | inr differ ↦ rw differ (rw parts.0 (is_outstanding-without_other id other ts parts.1))
    ]

pub AreDistinct-without : (id : ℕ) (ts : List Transaction) → AreDistinct ts → AreDistinct (without_transaction id ts)
AreDistinct-without id [] distinct = tt
AreDistinct-without id (t ∷ ts) distinct = elim (cases_Bool (eqb t.id id)) [
  | inl same ↦ rw same (AreDistinct-without id ts distinct.1)
  | inr differ ↦ rw differ (is_outstanding-without_other id t.id ts distinct.0, AreDistinct-without id ts distinct.1)
]

-- the transaction at a place has another ID than one that is not outstanding
other_id_at : (id : ℕ) (ts : List Transaction) (i : ℕ) (d : Transaction) → is_outstanding id ts ≡ false → i < length ts → eqb (get_or ts i d).id id ≡ false
other_id_at id [] i d none within = absurd (omega arith)
other_id_at id (t ∷ ts) zero d none within = (or_parts (eqb t.id id) (is_outstanding id ts) none).0
other_id_at id (t ∷ ts) (suc i) d none within =
    other_id_at id ts i d (or_parts (eqb t.id id) (is_outstanding id ts) none).1 (omega arith)

-- to remove the one at a place is to leave out its ID
pub remove-without : (ts : List Transaction) (i : ℕ) (d : Transaction) → AreDistinct ts → i < length ts → take i ts ++ drop (suc i) ts ≡ without_transaction (get_or ts i d).id ts
remove-without [] i d distinct within = absurd (omega arith)
remove-without (t ∷ ts) zero d distinct within = rw (eq-eqb t.id t.id refl) (sym (without-none t.id ts distinct.0))
remove-without (t ∷ ts) (suc i) d distinct within =
    let inside : i < length ts = omega arith in
    let differ = eqb-false_back _ _ (other_id_at t.id ts i d distinct.0 inside) in
    rw (differ, remove-without ts i d distinct.1 inside) refl

-- if the ID is not outstanding, nothing is retransmitted
resent-none : (id now : ℕ) (ts : List Transaction) → is_outstanding id ts ≡ false → resent id now ts ≡ ts
resent-none id now [] none = refl
resent-none id now (t ∷ ts) none =
    let parts = or_parts (eqb t.id id) (is_outstanding id ts) none in
    rw (parts.0, resent-none id now ts parts.1) refl

-- to retransmit the one at a place is to do so by its ID
pub set-resent : (now : ℕ) (ts : List Transaction) (i : ℕ) (d : Transaction) → AreDistinct ts → i < length ts → set ts i (sent_again now (get_or ts i d)) ≡ resent (get_or ts i d).id now ts
set-resent now [] i d distinct within = absurd (omega arith)
set-resent now (t ∷ ts) zero d distinct within = rw (eq-eqb t.id t.id refl, resent-none t.id now ts distinct.0) refl
set-resent now (t ∷ ts) (suc i) d distinct within =
    let inside : i < length ts = omega arith in
    let differ = eqb-false_back _ _ (other_id_at t.id ts i d distinct.0 inside) in
    rw (differ, set-resent now ts i d distinct.1 inside) refl

-- a request that is retransmitted keeps its ID
is_outstanding-resent : (id other now : ℕ) (ts : List Transaction) → is_outstanding other (resent id now ts) ≡ is_outstanding other ts
is_outstanding-resent id other now [] = refl
is_outstanding-resent id other now (t ∷ ts) = elim (cases_Bool (eqb t.id id)) [
  | inl same ↦ rw (same, is_outstanding-resent id other now ts) refl
  | inr differ ↦ rw (differ, is_outstanding-resent id other now ts) refl
]

pub AreDistinct-resent : (id now : ℕ) (ts : List Transaction) → AreDistinct ts → AreDistinct (resent id now ts)
AreDistinct-resent id now [] distinct = tt
AreDistinct-resent id now (t ∷ ts) distinct =
    let here : is_outstanding t.id (resent id now ts) ≡ false = rw (is_outstanding-resent id t.id now ts) distinct.0 in
    let others = AreDistinct-resent id now ts distinct.1 in
    elim (cases_Bool (eqb t.id id)) [ inl same ↦ rw same (here, others) | inr differ ↦ rw differ (here, others) ]

pub length-resent : (id now : ℕ) (ts : List Transaction) → length (resent id now ts) ≡ length ts
length-resent id now [] = refl
length-resent id now (t ∷ ts) = grind (arith, length-resent id now ts)

pub length-without : (id : ℕ) (ts : List Transaction) → length (without_transaction id ts) ≤ length ts
length-without id [] = omega arith
length-without id (t ∷ ts) = grind (arith, length-without id ts)

-- ---- waits that begin later

-- if the ID is not outstanding, none begins
pub begun-none : (id time : ℕ) (ts : List Transaction) → is_outstanding id ts ≡ false → waits_begun id time ts ≡ ts
begun-none id time [] none = refl
begun-none id time (t ∷ ts) none =
    let parts = or_parts (eqb t.id id) (is_outstanding id ts) none in
    rw (parts.0, begun-none id time ts parts.1) refl

-- to begin those of the one at a place is to do so by its ID
pub set-begun : (time : ℕ) (ts : List Transaction) (i : ℕ) (d : Transaction) → AreDistinct ts → i < length ts → set ts i (waiting_from time (get_or ts i d)) ≡ waits_begun (get_or ts i d).id time ts
set-begun time [] i d distinct within = absurd (omega arith)
set-begun time (t ∷ ts) zero d distinct within = rw (eq-eqb t.id t.id refl, begun-none t.id time ts distinct.0) refl
set-begun time (t ∷ ts) (suc i) d distinct within =
    let inside : i < length ts = omega arith in
    let differ = eqb-false_back _ _ (other_id_at t.id ts i d distinct.0 inside) in
    rw (differ, set-begun time ts i d distinct.1 inside) refl

-- the request keeps its ID
is_outstanding-begun : (id other time : ℕ) (ts : List Transaction) → is_outstanding other (waits_begun id time ts) ≡ is_outstanding other ts
is_outstanding-begun id other time [] = refl
is_outstanding-begun id other time (t ∷ ts) = elim (cases_Bool (eqb t.id id)) [
  | inl same ↦ rw (same, is_outstanding-begun id other time ts) refl
  | inr differ ↦ rw (differ, is_outstanding-begun id other time ts) refl
]

pub AreDistinct-begun : (id time : ℕ) (ts : List Transaction) → AreDistinct ts → AreDistinct (waits_begun id time ts)
AreDistinct-begun id time [] distinct = tt
AreDistinct-begun id time (t ∷ ts) distinct =
    let here : is_outstanding t.id (waits_begun id time ts) ≡ false = rw (is_outstanding-begun id t.id time ts) distinct.0 in
    let others = AreDistinct-begun id time ts distinct.1 in
    elim (cases_Bool (eqb t.id id)) [ inl same ↦ rw same (here, others) | inr differ ↦ rw differ (here, others) ]

pub length-begun : (id time : ℕ) (ts : List Transaction) → length (waits_begun id time ts) ≡ length ts
length-begun id time [] = refl
length-begun id time (t ∷ ts) = grind (arith, length-begun id time ts)

pub AreIdsOf-begun : (id time : ℕ) (ts : List Transaction) (has : ℕ → Bool) → AreIdsOf ts has → AreIdsOf (waits_begun id time ts) has
AreIdsOf-begun id time ts has were = λ q. were q ∙ sym (is_outstanding-begun id q time ts)

-- ---- the set of the IDs

-- it has the ID of one transaction more
pub AreIdsOf-push : (ts : List Transaction) (t : Transaction) (has : ℕ → Bool) → ((q : ℕ) → has q ≡ cond (eqb t.id q) true (is_outstanding q ts)) → AreIdsOf (ts ++ t ∷ []) has
AreIdsOf-push ts t has added = λ q. rw (added q, list_any-append (λ x. eqb x.id q) ts (t ∷ [])) (by (eqb t.id q) (is_outstanding q ts))
  where
    by : (b c : Bool) → cond b true c ≡ (c || (b || false))
    by true true = refl
    by true false = refl
    by false true = refl
    by false false = refl

pub length-push : (n : ℕ) (ts : List Transaction) (t : Transaction) → n < length (ts ++ t ∷ []) → n ≤ length ts
length-push n ts t more = let more' = rw (length-append ts (t ∷ [])) at more in omega (arith, more')

-- another ID is outstanding as before
is_outstanding-others : (id q : ℕ) (ts : List Transaction) → eqb id q ≡ false → is_outstanding q (without_transaction id ts) ≡ is_outstanding q ts
is_outstanding-others id q [] differ = refl
is_outstanding-others id q (t ∷ ts) differ = elim (cases_Bool (eqb t.id id)) [
  | inl same ↦ rw (same, eqb-true t.id id same, differ) (is_outstanding-others id q ts differ)
  | inr other ↦ rw (other, is_outstanding-others id q ts differ) refl
]

-- the ID that was left out was removed
pub AreIdsOf-without : (id : ℕ) (ts : List Transaction) (had has : ℕ → Bool) → AreIdsOf ts had → ((q : ℕ) → has q ≡ cond (eqb id q) false (had q)) → AreIdsOf (without_transaction id ts) has
AreIdsOf-without id ts had has were removed = λ q. removed q ∙ elim (cases_Bool (eqb id q)) [
  | inl same ↦ rw (same, ← eqb-true id q same) (sym (is_outstanding-without id ts))
  | inr differ ↦ rw differ (were q ∙ sym (is_outstanding-others id q ts differ))
]

-- a request that is retransmitted keeps its ID
pub AreIdsOf-resent : (id now : ℕ) (ts : List Transaction) (has : ℕ → Bool) → AreIdsOf ts has → AreIdsOf (resent id now ts) has
AreIdsOf-resent id now ts has were = λ q. were q ∙ sym (is_outstanding-resent id q now ts)
