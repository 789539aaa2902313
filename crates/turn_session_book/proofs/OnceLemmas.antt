-- A key stands once among rows that each have one.
use Rattle.std.proofs.Common.{◌≡◌, ℕ, ◌-◌, ◌<◌, Bool, true, false, List, [], ◌∷◌, ◌++◌, length, get_or, map, take, drop, Some, None, refl, sym, subst, inl, inr, arith}
use Rattle.std.specs.Prelude.{Option, if◌then◌else◌, remove, slice_set}
use Rattle.std.specs.List.{find, position}
use Rattle.std.proofs.lemmas.Bool.{cases_Bool}
use Rattle.std.proofs.lemmas.List.Quantifiers.{position-Some}
use Rattle.std.proofs.lemmas.List.Sums.{sum_by-append, sum_by-cons, sum_by-remove, sum_by-set, sum_by-take-drop}
use Rattle.std.proofs.lemmas.Option.{none-some}
use Rattle.turn_session_book.specs.Keys.{same_key}
use Rattle.turn_session_book.specs.First.{without_first}
use Rattle.turn_session_book.specs.Once.{AreRequests, StandOnce, request_key, rest_key, stands, times}
use Rattle.turn_session_book.specs.OpenRequests.{denied, denied_with, depends_on, with_denied}
use Rattle.turn_session_book.specs.Rests.{after_refusal, last_rests, new_rest, without_rest}
use Rattle.turn_session_book.specs.declared.keys.Key.{Key}
use Rattle.turn_session_book.specs.declared.open_requests.OpenRequest.{OpenRequest}
use Rattle.turn_session_book.specs.declared.replies.ErrorReply.{ErrorReply}
use Rattle.turn_session_book.specs.declared.rests.Rest.{Rest}
use Rattle.turn_session_book.proofs.FirstLemmas.{position-none, without_first-none, without_first-some}
use Rattle.turn_session_book.proofs.KeyLemmas.{same_key-true}

module _ {X : Type 0} (key_of : X → Key) where
  abbrev pub is_at : Key → X → Bool
  is_at key row = same_key (key_of row) key

  -- ---- a key that does not stand

  pub absent-find : (key : Key) (rows : List X) → find (is_at key) rows ≡ None → times key_of key rows ≡ 0
  absent-find key [] none = refl
  absent-find key (r ∷ rows) none = elim (cases_Bool (same_key (key_of r) key)) [
    | inl same ↦ absurd (none-some r (sym (rw same at none)))
    | inr other ↦
        let later : times key_of key rows ≡ 0 = absent-find key rows (rw other at none) in
        let here : stands key_of key r ≡ 0 = rw other refl in
        omega (arith, sum_by-cons (stands key_of key) r rows, later, here)
  ]

  pub absent : (key : Key) (rows : List X) → position (is_at key) rows ≡ None → times key_of key rows ≡ 0
  absent key rows none = absent-find key rows (position-none (is_at key) rows none)

  -- once it is removed
  gone : (key : Key) (rows : List X) (i : ℕ) (d : X) → position (is_at key) rows ≡ Some i → StandOnce key_of rows → times key_of key (remove rows i) ≡ 0
  gone key rows i d at once =
      let parts = position-Some (is_at key) rows i d at in
      let one : stands key_of key (get_or rows i d) ≡ 1 = rw parts.1 refl in
      omega (arith, sum_by-remove (stands key_of key) rows i d parts.0, one, once key)

  -- ---- what keeps it so

  pub once-remove : (rows : List X) (i : ℕ) (d : X) → i < length rows → StandOnce key_of rows → StandOnce key_of (remove rows i)
  once-remove rows i d within once = λ key. omega (arith, sum_by-remove (stands key_of key) rows i d within, once key)

  pub once-drop : (rows : List X) (n : ℕ) → StandOnce key_of rows → StandOnce key_of (drop n rows)
  once-drop rows n once = λ key. omega (arith, sum_by-take-drop (stands key_of key) rows n, once key)

  pub once-take : (rows : List X) (n : ℕ) → StandOnce key_of rows → StandOnce key_of (take n rows)
  once-take rows n once = λ key. omega (arith, sum_by-take-drop (stands key_of key) rows n, once key)

  -- a row is replaced by one with its key
  pub once-set : (rows : List X) (i : ℕ) (row d : X) → i < length rows → key_of row ≡ key_of (get_or rows i d) → StandOnce key_of rows → StandOnce key_of (slice_set rows i row)
  once-set rows i row d within same once = λ key.
      let equal : stands key_of key row ≡ stands key_of key (get_or rows i d) = rw same refl in
      omega (arith, sum_by-set (stands key_of key) rows i row d within, equal, once key)

  pub once-push : (rows : List X) (r : X) → times key_of (key_of r) rows ≡ 0 → StandOnce key_of rows → StandOnce key_of (rows ++ r ∷ [])
  once-push rows r none once = λ key. elim (cases_Bool (same_key (key_of r) key)) [
    | inl same ↦
        let before : times key_of key rows ≡ 0 = subst (λ (k : Key). times key_of k rows ≡ 0) (same_key-true (key_of r) key same) none in
        let here : stands key_of key r ≡ 1 = rw same refl in
        omega (arith, sum_by-append (stands key_of key) rows (r ∷ []), sum_by-cons (stands key_of key) r [], before, here)
    | inr other ↦
        let here : stands key_of key r ≡ 0 = rw other refl in
        omega (arith, sum_by-append (stands key_of key) rows (r ∷ []), sum_by-cons (stands key_of key) r [], once key, here)
  ]

  times-map : (f : X → X) (key : Key) (rows : List X) → ((row : X) → key_of (f row) ≡ key_of row) → times key_of key (map f rows) ≡ times key_of key rows
  times-map f key [] same = refl
  times-map f key (r ∷ rows) same =
      let here : stands key_of key (f r) ≡ stands key_of key r = rw (same r) refl in
      omega (
        arith,
        sum_by-cons (stands key_of key) (f r) (map f rows),
        sum_by-cons (stands key_of key) r rows,
        times-map f key rows same,
        here,
      )

  -- rows are replaced by those with their keys
  pub once-map : (f : X → X) (rows : List X) → ((row : X) → key_of (f row) ≡ key_of row) → StandOnce key_of rows → StandOnce key_of (map f rows)
  once-map f rows same once = λ key. omega (arith, times-map f key rows same, once key)

  -- ---- the row of a key is removed

  pub without_first-once : (key : Key) (rows : List X) (d : X) → StandOnce key_of rows → StandOnce key_of (without_first (is_at key) rows)
  without_first-once key rows d once = by (position (is_at key) rows) refl
    where
      by : (place : Option ℕ) → position (is_at key) rows ≡ place → StandOnce key_of (without_first (is_at key) rows)
      by None none = subst (StandOnce key_of) (sym (without_first-none (is_at key) rows none)) once
      by (Some i) at =
          let parts = position-Some (is_at key) rows i d at in
          subst (StandOnce key_of) (sym (without_first-some (is_at key) rows i at)) (once-remove rows i d parts.0 once)

  pub without_first-gone : (key : Key) (rows : List X) (d : X) → StandOnce key_of rows → times key_of key (without_first (is_at key) rows) ≡ 0
  without_first-gone key rows d once = by (position (is_at key) rows) refl
    where
      by : (place : Option ℕ) → position (is_at key) rows ≡ place → times key_of key (without_first (is_at key) rows) ≡ 0
      by None none = subst (λ (left : List X). times key_of key left ≡ 0) (sym (without_first-none (is_at key) rows none)) (absent key rows none)
      by (Some i) at = subst (λ (left : List X). times key_of key left ≡ 0) (sym (without_first-some (is_at key) rows i at)) (gone key rows i d at once)

-- ---- the rests

once-last : (rests : List Rest) → StandOnce rest_key rests → StandOnce rest_key (last_rests rests)
once-last rests once = once-drop rest_key rests (length rests - 4096) once

pub after_refusal-once : (key : Key) (error : Option ErrorReply) (now : ℕ) (rests : List Rest) → StandOnce rest_key rests → StandOnce rest_key (after_refusal key error now rests)
after_refusal-once key error now rests once =
    let r = new_rest key error now rests in
    once-last (without_rest key rests ++ r ∷ [])
    (once-push rest_key (without_rest key rests) r (without_first-gone rest_key key rests r once) (without_first-once rest_key key rests r once))

-- ---- the requests

either-key : (b : Bool) (x y : OpenRequest) → x.key ≡ y.key → (if b then x else y).key ≡ y.key
either-key true x y same = same
either-key false x y same = refl

-- a request that is denied keeps its key
denied-key : (permission : Key) (error : Option ErrorReply) (r : OpenRequest) → (denied_with permission error r).key ≡ r.key
denied-key permission error r = either-key (depends_on permission r) (denied error r) r refl

pub denied-once : (permission : Key) (error : Option ErrorReply) (requests : List OpenRequest) → AreRequests requests
    → AreRequests (with_denied permission error requests)
denied-once permission error requests once = once-map request_key (denied_with permission error) requests (denied-key permission error) once
