-- The sessions of a relay.
use Rattle.std.specs.Prelude.{ℕ, Bool, true, false, List, [], ◌∷◌, find, fold, Option, None}
use Rattle.turn_relay_tries.specs.Tasks.{sooner_of}
use Rattle.turn_relay_lives.specs.LiveState.{LiveState, is_socket, is_used}

abbrev pub is_none_left : List LiveState → Bool
is_none_left [] = true
is_none_left (l ∷ rows) = false

abbrev pub live_of : ℕ → List LiveState → Option LiveState
live_of socket rows = find (is_socket socket) rows

abbrev pub used_live : List LiveState → Option LiveState
used_live rows = find is_used rows

-- the least of the times
abbrev pub next_due : List LiveState → Option ℕ
next_due rows = fold (λ due l. sooner_of due l.due) None rows
