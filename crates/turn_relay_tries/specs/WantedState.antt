-- What the sessions of a relay are asked for.
use Rattle.std.specs.Prelude.{ℕ, List}
use Rattle.turn_relay_tries.specs.declared.wanted.WantedKey.{WantedKey}

pub record WantedState : Type 0 where
  pub keys : List WantedKey
  -- the number of the session that is asked now
  pub session : ℕ
  -- the ticket of the next request of the caller
  pub next_ticket : ℕ
