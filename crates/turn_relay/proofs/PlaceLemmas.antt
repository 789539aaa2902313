-- The session at a place is called.
use Rattle.std.proofs.Common.{◌≡◌, ◌∙◌, ◌<◌, ℕ, Bool, true, false, List, length, Some, None, refl, sym, ap}
use Rattle.std.specs.Prelude.{find, slice_get, slice_set}
use Rattle.std.specs.List.{position}
use Rattle.std.proofs.lemmas.Option.{slice_get-get_or}
use Rattle.turn_session_book.proofs.FirstLemmas.{position-IsFirst, position-none}
use Rattle.turn_session_book.specs.First.{with_first}
use Rattle.turn_session_book.specs.declared.keys.Key.{Key}
use Rattle.turn_session_client.specs.Asking.{keep_result}
use Rattle.turn_session_client.specs.Keeping.{kept_while_running}
use Rattle.turn_session.specs.Checking.{checked_step}
use Rattle.turn_session.specs.SessionState.{SessionState}
use Rattle.turn_relay_lives.specs.Calls.{called, called_as}
use Rattle.turn_relay_lives.specs.LiveState.{LiveState, is_used}
use Rattle.turn_relay.specs.Asking.{called_used, check_step, keep_step, kept}
use Rattle.turn_relay.specs.RelayState.{RelayState, CallsFirst, called_first, open_if, open_live, open_place, place_if}

-- this session stands at a place
abbrev pub with_live : ℕ → LiveState → RelayState → RelayState
with_live place l r = record r { lives = slice_set r.lives place l }

-- ---- a place in a list

pub place-within : {X : Type 0} (p : X → Bool) (xs : List X) (i : ℕ) → position p xs ≡ Some i → i < length xs
place-within p xs i at = (position-IsFirst p xs i at).within

pub found-at : {X : Type 0} (p : X → Bool) (xs : List X) (i : ℕ) (x : X) → position p xs ≡ Some i → Some x ≡ slice_get xs i
    → find p xs ≡ Some x
found-at p xs i x at is =
    let first = position-IsFirst p xs i at in first.found x ∙ sym (slice_get-get_or xs i x first.within) ∙ sym is

pub changed-at : {X : Type 0} (p : X → Bool) (f : X → X) (xs : List X) (i : ℕ) (x : X) → position p xs ≡ Some i → Some x ≡ slice_get xs i
    → with_first p f xs ≡ slice_set xs i (f x)
changed-at p f xs i x at is = rw (at, sym is) refl

-- ---- the first session that passes a test

pub called-at : (test : LiveState → Bool) (call : SessionState → SessionState) (r : RelayState) (place : ℕ) (l : LiveState)
    → position test r.lives ≡ Some place → Some l ≡ slice_get r.lives place
    → called_first test call r ≡ with_live place (called call l) r
called-at test call r place l at is = ap (λ lives. record r { lives = lives }) (changed-at test (called call) r.lives place l at is)

pub called-none : (test : LiveState → Bool) (call : SessionState → SessionState) (r : RelayState) → position test r.lives ≡ None
    → called_first test call r ≡ r
called-none test call r none = rw none refl

module _ (test : LiveState → Bool) (call : SessionState → SessionState → Type 0) (otherwise : Type 0) (was r : RelayState) where
  pub calls-at : (place : ℕ) (l : LiveState) (s : SessionState) → position test was.lives ≡ Some place → Some l ≡ slice_get was.lives place
      → call l.session s → r ≡ with_live place (called_as s l) was → CallsFirst test call otherwise was r
  calls-at place l s at is holds same = rw at (slice_set was.lives place (called_as s l), (l, sym is, s, holds, refl), same)

  pub calls-none : position test was.lives ≡ None → otherwise → r ≡ was → CallsFirst test call otherwise was r
  calls-none none holds same = rw none (holds, same)

-- ---- the session that has an allocation

pub open-place : (is_open : Bool) (lives : List LiveState) (place : ℕ) → place_if is_open lives ≡ Some place
    → position is_used lives ≡ Some place
open-place true lives place at = at
open-place false lives place at = cc

pub open-found : (is_open : Bool) (lives : List LiveState) (place : ℕ) (l : LiveState) → place_if is_open lives ≡ Some place
    → Some l ≡ slice_get lives place → open_if is_open lives ≡ Some l
open-found true lives place l at is = found-at is_used lives place l at is
open-found false lives place l at is = cc

pub open-none : (is_open : Bool) (lives : List LiveState) → place_if is_open lives ≡ None → open_if is_open lives ≡ None
open-none true lives none = position-none is_used lives none
open-none false lives none = refl

pub open-called : (call : SessionState → SessionState) (r : RelayState) (place : ℕ) (l : LiveState) → open_place r ≡ Some place
    → Some l ≡ slice_get r.lives place → called_used call r ≡ with_live place (called call l) r
open-called call r place l at is = called-at is_used call r place l (open-place _ r.lives place at) is

pub keep-at : (key : Key) (is_kept : Bool) (r : RelayState) (place : ℕ) (l : LiveState) → open_place r ≡ Some place
    → Some l ≡ slice_get r.lives place
    → keep_step key is_kept r
    ≡ (keep_result (kept_while_running key is_kept l.session.noted).0, with_live place (called (kept key is_kept) l) r)
keep-at key is_kept r place l at is =
    let found : open_live r ≡ Some l = open-found _ r.lives place l at is in
    let answer = keep_result (kept_while_running key is_kept l.session.noted).0 in
    rw found (ap (λ t. (answer, t)) (open-called (kept key is_kept) r place l at is))

pub check-at : (now : ℕ) (r : RelayState) (place : ℕ) (l : LiveState) → open_place r ≡ Some place → Some l ≡ slice_get r.lives place
    → check_step now r ≡ ((checked_step now l.session).0, with_live place (called (λ s. (checked_step now s).1) l) r)
check-at now r place l at is =
    let found : open_live r ≡ Some l = open-found _ r.lives place l at is in
    rw found (ap (λ t. ((checked_step now l.session).0, t)) (open-called (λ s. (checked_step now s).1) r place l at is))
