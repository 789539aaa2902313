-- What refusals make of the keys that rest.
use Rattle.std.proofs.Common.{◌≡◌, ℕ, ◌+◌, ◌-◌, ◌*◌, ◌^◌, ◌<◌, ◌≤◌, Bool, true, false, List, [], ◌∷◌, ◌++◌, length, drop, min, get_or, Some, None, refl, ap, ◌∙◌, arith, ltb}
use Rattle.std.specs.Prelude.{is_some, IsSome, Option, remove}
use Rattle.std.specs.List.{position}
use Rattle.std.proofs.lemmas.List.{length-append, length-drop}
use Rattle.std.proofs.lemmas.List.Edits.{length-remove}
use Rattle.turn_session_book.proofs.FirstLemmas.{find-some, position-IsFirst, position-none, without_first-none, without_first-some}
use Rattle.turn_session_book.specs.Keys.{same_key}
use Rattle.turn_session_book.specs.Rests.{after_refusal, last_rests, new_rest, rest_in_force, rest_with, without_rest}
use Rattle.turn_session_book.specs.declared.keys.Key.{Key}
use Rattle.turn_session_book.specs.declared.replies.ErrorReply.{ErrorReply}
use Rattle.turn_session_book.specs.declared.rests.Rest.{Rest}

-- ---- the rest of a key

abbrev pub is_of : Key → Rest → Bool
is_of key r = same_key r.key key

pub without_rest-none : (key : Key) (rests : List Rest) → position (is_of key) rests ≡ None → without_rest key rests ≡ rests
without_rest-none key rests none = without_first-none (is_of key) rests none

pub without_rest-some : (key : Key) (rests : List Rest) (i : ℕ) → position (is_of key) rests ≡ Some i → without_rest key rests ≡ remove rests i
without_rest-some key rests i at = without_first-some (is_of key) rests i at

-- a key that never rested
pub rest_with-none : (key : Key) (rests : List Rest) → position (is_of key) rests ≡ None → rest_with key rests ≡ None
rest_with-none key rests none = position-none (is_of key) rests none

pub rest_with-unknown : (key : Key) (rests : List Rest) → position (is_of key) rests ≡ None → IsSome (rest_with key rests) → ⊥
rest_with-unknown key rests none known =
    let never : is_some {T = Rest} None ≡ true = rw (rest_with-none key rests none) at known in
    cc

pub rest_in_force-none : (key : Key) (now : ℕ) (rests : List Rest) → position (is_of key) rests ≡ None → None ≡ rest_in_force key now rests
rest_in_force-none key now rests none = rw (rest_with-none key rests none) refl

rest_with-some : (key : Key) (rests : List Rest) (i : ℕ) (r : Rest) → position (is_of key) rests ≡ Some i → r ≡ get_or rests i r → rest_with key rests ≡ Some r
rest_with-some key rests i r at is = find-some (is_of key) rests i r at is

pub rest_in_force-before : (key : Key) (now : ℕ) (rests : List Rest) (i : ℕ) (r : Rest) → position (is_of key) rests ≡ Some i → r ≡ get_or rests i r → ltb now r.until ≡ true
    → Some r ≡ rest_in_force key now rests
rest_in_force-before key now rests i r at is before = rw (rest_with-some key rests i r at is, before) refl

pub rest_in_force-after : (key : Key) (now : ℕ) (rests : List Rest) (i : ℕ) (r : Rest) → position (is_of key) rests ≡ Some i → r ≡ get_or rests i r → ltb now r.until ≡ false
    → None ≡ rest_in_force key now rests
rest_in_force-after key now rests i r at is after = rw (rest_with-some key rests i r at is, after) refl

-- ---- refusals

-- not more than are remembered
last_rests-few : (rests : List Rest) → length rests ≤ 4096 → rests ≡ last_rests rests
last_rests-few rests few =
    let all : length rests - 4096 ≡ 0 = omega (arith, few) in
    rw all refl

drop_one-append : (rests : List Rest) (r : Rest) → 0 < length rests → remove rests 0 ++ r ∷ [] ≡ drop 1 (rests ++ r ∷ [])
drop_one-append [] r some = absurd (omega arith)
drop_one-append (x ∷ rests) r some = refl

-- one more than are remembered
last_rests-full : (rests : List Rest) (r : Rest) → length rests ≡ 4096 → remove rests 0 ++ r ∷ [] ≡ last_rests (rests ++ r ∷ [])
last_rests-full rests r full =
    let one : length (rests ++ r ∷ []) - 4096 ≡ 1 = omega (arith, length-append rests (r ∷ []), full) in
    rw one (drop_one-append rests r (omega (arith, full)))

-- a key that was refused before
pub after_refusal-again : (key : Key) (error : Option ErrorReply) (now : ℕ) (rests left : List Rest) (i : ℕ) (before : Rest) (wait until : ℕ) → position (is_of key) rests ≡ Some i
    → before ≡ get_or rests i before → left ≡ remove rests i → length rests ≤ 4096 → wait ≡ min (2 * before.wait) 80_000_000_000 → until ≡ min (now + wait) (2 ^ 63 - 1)
    → left ++ record { key = key; wait = wait; until = until; error = error } ∷ [] ≡ after_refusal key error now rests
after_refusal-again key error now rests left i before wait until at taken is_left few is_wait is_until =
    let first = position-IsFirst (is_of key) rests i at in
    let found = rest_with-some key rests i before at taken in
    let r : Rest = record { key = key; wait = wait; until = until; error = error } in
    let one : left ++ r ∷ [] ≡ without_rest key rests ++ new_rest key error now rests ∷ [] = rw (is_until, is_wait, is_left, at, found) refl in
    let less : length (remove rests i) + 1 ≡ length rests = length-remove rests i first.within in
    last_rests-few (left ++ r ∷ []) (omega (arith, length-append left (r ∷ []), ap length is_left, less, few)) ∙ ap last_rests one

-- a key that was not, with room for it
pub after_refusal-first : (key : Key) (error : Option ErrorReply) (now : ℕ) (rests left : List Rest) (wait until : ℕ) → position (is_of key) rests ≡ None → left ≡ rests → length rests < 4096
    → wait ≡ 5_000_000_000 → until ≡ min (now + wait) (2 ^ 63 - 1)
    → left ++ record { key = key; wait = wait; until = until; error = error } ∷ [] ≡ after_refusal key error now rests
after_refusal-first key error now rests left wait until none is_left few is_wait is_until =
    let unknown = rest_with-none key rests none in
    let r : Rest = record { key = key; wait = wait; until = until; error = error } in
    let one : left ++ r ∷ [] ≡ without_rest key rests ++ new_rest key error now rests ∷ [] = rw (is_until, is_wait, is_left, none, unknown) refl in
    last_rests-few (left ++ r ∷ []) (omega (arith, length-append left (r ∷ []), ap length is_left, few)) ∙ ap last_rests one

-- and without
pub after_refusal-full : (key : Key) (error : Option ErrorReply) (now : ℕ) (rests left : List Rest) (wait until : ℕ) → position (is_of key) rests ≡ None → left ≡ remove rests 0 → length rests ≡ 4096
    → wait ≡ 5_000_000_000 → until ≡ min (now + wait) (2 ^ 63 - 1)
    → left ++ record { key = key; wait = wait; until = until; error = error } ∷ [] ≡ after_refusal key error now rests
after_refusal-full key error now rests left wait until none is_left full is_wait is_until =
    let unknown = rest_with-none key rests none in
    let r : Rest = record { key = key; wait = wait; until = until; error = error } in
    let one : rests ++ r ∷ [] ≡ without_rest key rests ++ new_rest key error now rests ∷ [] = rw (is_until, is_wait, none, unknown) refl in
    rw is_left (last_rests-full rests r full) ∙ ap last_rests one

-- not more than are remembered are left
pub after_refusal-few : (key : Key) (error : Option ErrorReply) (now : ℕ) (rests : List Rest) → length (after_refusal key error now rests) ≤ 4096
after_refusal-few key error now rests =
    let all = without_rest key rests ++ new_rest key error now rests ∷ [] in
    omega (arith, length-drop (length all - 4096) all)
