-- The last use of a peer, which is noted apart from the others.
use Rattle.std.specs.Prelude.{ℕ, Option, Some, None}
use Rattle.turn_session_book.specs.declared.keys.Key.{Key}
use Rattle.turn_session_idle.specs.IdlePeers.{after_use}
use Rattle.turn_session_idle.specs.IdleState.{IdleState}

abbrev pub after_last_use : Option Key → ℕ → IdleState → IdleState
after_last_use None at s = s
after_last_use (Some key) at s = after_use key at s
