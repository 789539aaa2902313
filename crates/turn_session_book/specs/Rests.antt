-- How soon a key that the server refused is requested again.
use Rattle.std.specs.Prelude.{ℕ, ◌+◌, ◌-◌, ◌*◌, ◌^◌, min, nat_lt, if◌then◌else◌, List, [], ◌∷◌, ◌++◌, drop, find, length, Option, Some, None}
use Rattle.turn_session_book.specs.First.{without_first}
use Rattle.turn_session_book.specs.Keys.{same_key}
use Rattle.turn_session_book.specs.declared.keys.Key.{Key}
use Rattle.turn_session_book.specs.declared.replies.ErrorReply.{ErrorReply}
use Rattle.turn_session_book.specs.declared.rests.Rest.{Rest}

-- the rest of this key, whether it has ended or not
abbrev pub rest_with : Key → List Rest → Option Rest
rest_with key rests = find (λ r. same_key r.key key) rests

-- a rest ends at its time
abbrev pub if_in_force : ℕ → Option Rest → Option Rest
if_in_force now None = None
if_in_force now (Some r) = if nat_lt now r.until then Some r else None

-- the rest of this key, if it has not ended
abbrev pub rest_in_force : Key → ℕ → List Rest → Option Rest
rest_in_force key now rests = if_in_force now (rest_with key rests)

-- a key that was never refused rests for 5 s, and one that was for twice as long as before, to 80 s
abbrev pub next_wait : Option Rest → ℕ
next_wait None = 5_000_000_000
next_wait (Some r) = min (2 * r.wait) 80_000_000_000

-- the others
abbrev pub without_rest : Key → List Rest → List Rest
without_rest key rests = without_first (λ r. same_key r.key key) rests

-- the last 4,096
abbrev pub last_rests : List Rest → List Rest
last_rests rests = drop (length rests - 4096) rests

-- the rest that begins when the key is refused
abbrev pub new_rest : Key → Option ErrorReply → ℕ → List Rest → Rest
new_rest key error now rests =
    let wait = next_wait (rest_with key rests) in
    record { key = key; wait = wait; until = min (now + wait) (2 ^ 63 - 1); error = error }

-- after the server refused the key, its rest is the newest one
abbrev pub after_refusal : Key → Option ErrorReply → ℕ → List Rest → List Rest
after_refusal key error now rests = last_rests (without_rest key rests ++ new_rest key error now rests ∷ [])
