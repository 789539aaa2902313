-- What is listed under one ID while no grant is lost.
use Rattle.turn_client_laws.proofs.Common.{◌≡◌, Bool, true, false, cond, not, eqb, List, [], ◌∷◌, ◌++◌, filter, refl, inl, inr, ap, sym, ◌∙◌, append-nil, cases_Bool, eq-eqb, eqb-true, filter-append}
use Rattle.turn_client_laws.proofs.Machine.{State, Grant, Listing, is_for, fresh_id, Has, filter-none, has-filter}
use Rattle.turn_client_laws.proofs.Laws.{fresh-other}
use Rattle.turn_client_runs.proofs.LastingStands.{AreRequests, IsRequest, brings-more, listed_as, request-more}

pub filter-all : {X : Type 0} (p : X → Bool) (xs : List X) → ((x : X) → Has x xs → p x ≡ true) → filter p xs ≡ xs
filter-all p [] each = refl
filter-all p (x ∷ xs) each = rw (each x (inl refl)) (ap (λ ys. x ∷ ys) (filter-all p xs (λ y h. each y (inr h))))

pub filter-swap : {X : Type 0} (p q : X → Bool) (xs : List X) → filter p (filter q xs) ≡ filter q (filter p xs)
filter-swap p q [] = refl
filter-swap p q (x ∷ xs) = elim (cases_Bool (p x)) [
  | inl e ↦ elim (cases_Bool (q x)) [ inl f ↦ rw (f, e, f) (ap (λ ys. x ∷ ys) (filter-swap p q xs)) | inr f ↦ rw (f, e, f) (filter-swap p q xs) ]
  | inr e ↦ elim (cases_Bool (q x)) [ inl f ↦ rw (f, e) (filter-swap p q xs) | inr f ↦ rw (f, e) (filter-swap p q xs) ]
]

-- a request more, under the next ID
pub requests-more : (s : State) (gs : List Grant) (new : List Listing) → ((g : Grant) → Has g s.grants → Has g gs) → ((l : Listing) → Has l new → l.id ≡ fresh_id s) → IsRequest gs new
    → AreRequests s.grants s.listed → AreRequests gs (s.listed ++ new)
requests-more s gs new more ids is h id = rw (filter-append (λ (l : Listing). eqb l.id id) s.listed new) (by (eqb id (fresh_id s)) refl)
  where
    by : (b : Bool) → eqb id (fresh_id s) ≡ b → IsRequest gs (listed_as id s.listed ++ listed_as id new)
    by true e =
        let same : id ≡ fresh_id s = eqb-true id (fresh_id s) e in
        let old = filter-none (λ (l : Listing). eqb l.id id) s.listed (λ l there. rw same (fresh-other s l there)) in
        let all = filter-all (λ (l : Listing). eqb l.id id) new (λ l there. eq-eqb l.id id (ids l there ∙ sym same)) in
        rw (old, all) is
    by false e =
        let none = filter-none (λ (l : Listing). eqb l.id id) new (λ l there. differ l (ids l there)) in
        rw (none, append-nil (listed_as id s.listed)) (request-more s.grants gs (listed_as id s.listed) more (h id))
      where
        differ : (l : Listing) → l.id ≡ fresh_id s → eqb l.id id ≡ false
        differ l is = test (eqb l.id id) refl
          where
            test : (b : Bool) → eqb l.id id ≡ b → eqb l.id id ≡ false
            test false f = f
            test true f =
                let there : id ≡ fresh_id s = sym (eqb-true l.id id f) ∙ is in
                let no : false ≡ true = sym e ∙ eq-eqb id (fresh_id s) there in
                cc

-- ---- what is listed no more

-- a request that is listed still is for grants that are there
module _ (gs hs : List Grant) (out : Listing → Bool) (all : List Listing) (more : (l : Listing) → Has l all → out l ≡ false → (g : Grant) → Has g gs → is_for l.purpose g ≡ true → Has g hs) where
  request-left : (ls : List Listing) → ((l : Listing) → Has l ls → Has l all) → IsRequest gs ls → IsRequest hs (filter (λ l. not (out l)) ls)
  request-left [] within h = tt
  request-left (l ∷ []) within h = by (out l)
    where
      by : (b : Bool) → IsRequest hs (cond (not b) (l ∷ []) [])
      by true = tt
      by false = tt
  request-left (l ∷ m ∷ []) within h = by (out l) (out m) refl
    where
      by : (b c : Bool) → out l ≡ b → IsRequest hs (cond (not b) (l ∷ cond (not c) (m ∷ []) []) (cond (not c) (m ∷ []) []))
      by true true e = tt
      by true false e = tt
      by false true e = tt
      by false false e = brings-more gs hs l.purpose m.purpose (more l (within l (inl refl)) e) h
  request-left (l ∷ m ∷ n ∷ ls) within h = absurd h

  pub requests-left : AreRequests gs all → AreRequests hs (filter (λ l. not (out l)) all)
  requests-left linked id =
      rw (filter-swap (λ (l : Listing). eqb l.id id) (λ (l : Listing). not (out l)) all)
      (request-left (listed_as id all) (λ l h. (has-filter (λ (l : Listing). eqb l.id id) l all h).0) (linked id))
